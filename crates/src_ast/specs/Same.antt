-- Programs that differ in places alone.
use Rattle.std.specs.Prelude.{◌≡◌, List, [], ◌∷◌, Option, Some, None}
use Rattle.src_ast.specs.declared.lexeme.Name.{Name}
use Rattle.src_ast.specs.Lexemes.{start}
use Rattle.src_ast.specs.Syntax.{Expression, Number, Variable, Cell, Signed, Binary, Statement, Assign, Store}
use Rattle.src_ast.specs.Syntax.{Print, Read, Give, Take, Call, If, While, Statements, Nothing, Then, Last}
use Rattle.src_ast.specs.Syntax.{Part, Array, Proc}

-- a name with its place forgotten
abbrev pub bare : Name → Name
bare x = record { text = x.text; place = start }

abbrev pub bare_names : List Name → List Name
bare_names [] = []
bare_names (x ∷ xs) = bare x ∷ bare_names xs

abbrev pub bare_target : Option Name → Option Name
bare_target None = None
bare_target (Some x) = Some (bare x)

abbrev pub bare_expression : Expression → Expression
bare_expression (Number n) = Number n
bare_expression (Variable x) = Variable (bare x)
bare_expression (Cell a e) = Cell (bare a) (bare_expression e)
bare_expression (Signed s e) = Signed s (bare_expression e)
bare_expression (Binary op a b) = Binary op (bare_expression a) (bare_expression b)

abbrev pub bare_expressions : List Expression → List Expression
bare_expressions [] = []
bare_expressions (e ∷ es) = bare_expression e ∷ bare_expressions es

abbrev mutual
  pub bare_statement : Statement → Statement
  bare_statement (Assign at x e) = Assign start (bare x) (bare_expression e)
  bare_statement (Store at a i e) = Store start (bare a) (bare_expression i) (bare_expression e)
  bare_statement (Print at e) = Print start (bare_expression e)
  bare_statement (Read at x) = Read start (bare x)
  bare_statement (Give at n p x) = Give start n start (bare x)
  bare_statement (Take at n p e) = Take start n start (bare_expression e)
  bare_statement (Call at x f es) = Call start (bare_target x) (bare f) (bare_expressions es)
  bare_statement (If at e a b) =
      If start (bare_expression e) (bare_statements a) (bare_statements b)
  bare_statement (While at e body) = While start (bare_expression e) (bare_statements body)

  pub bare_statements : Statements → Statements
  bare_statements Nothing = Nothing
  bare_statements (Then s rest) = Then (bare_statement s) (bare_statements rest)

abbrev pub bare_ending : Option Last → Option Last
bare_ending None = None
bare_ending (Some last) = Some (record { place = start; value = bare_expression last.value })

abbrev pub bare_part : Part → Part
bare_part (Array x n at) = Array (bare x) n start
bare_part (Proc p) =
    Proc (record {
      name = bare p.name;
      params = bare_names p.params;
      vars = bare_names p.vars;
      body = bare_statements p.body;
      ending = bare_ending p.ending;
    })

abbrev pub bare_parts : List Part → List Part
bare_parts [] = []
bare_parts (p ∷ parts) = bare_part p ∷ bare_parts parts

-- the same program: equal, but for places
abbrev pub Same : List Part → List Part → Type 0
Same a b = bare_parts a ≡ bare_parts b
