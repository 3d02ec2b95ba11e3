-- The rules on names, kinds, counts and limits, each at its place, in the order of the text.
use Rattle.std.specs.Prelude.{◌≡◌, ℕ, suc, ◌+◌, ◌==◌, nat_lt, nat_le, nat_eq, Bool, true, false, not, ◌&&◌}
use Rattle.std.specs.Prelude.{◌||◌, IsTrue, List, [], ◌∷◌, ◌++◌, length, Option, Some, None, codes}
use Rattle.std.specs.List.{list_all, list_any}
use lib.Pointwise.{pointwise}
use Rattle.src_ast.specs.LanguageLimits.{most_arrays, most_array_cells, most_cells, most_procedures}
use Rattle.src_ast.specs.LanguageLimits.{most_parameters, most_locals, most_statements, most_port}
use Rattle.src_ast.specs.declared.lexeme.Place.{Place}
use Rattle.src_ast.specs.declared.lexeme.Name.{Name}
use Rattle.src_ast.specs.declared.fault.Quantity.TheVariants.{Arrays, Length, CellSum, Procs, Params, Vars}
use Rattle.src_ast.specs.declared.fault.Quantity.TheVariants.{Statements as StatementCount, PortNumber}
use Rattle.src_ast.specs.declared.fault.Refusal.{Refusal}
use Rattle.src_ast.specs.declared.fault.RefusalKind.{RefusalKind}
use Rattle.src_ast.specs.declared.fault.RefusalKind.TheVariants.{Unknown, Twice, Kind, Count, Main, Limit}
use Rattle.src_ast.specs.declared.fault.TextFault.{TextFault}
use Rattle.src_ast.specs.declared.fault.TextFault.TheVariants.{Refused, NoMemory}
use Rattle.src_ast.specs.Syntax.{Expression, Number, Variable, Cell, Signed, Binary, Statement, Assign, Store}
use Rattle.src_ast.specs.Syntax.{Print, Read, Give, Take, Call, If, While, Statements, Nothing, Then, Last}
use Rattle.src_ast.specs.Syntax.{Procedure, Part, Array, Proc}

-- a rule at a place of the text, and whether it is kept there
pub record Rule : Type 0 where
  pub place : Place
  pub kind : RefusalKind
  pub kept : Bool

abbrev pub rule : Place → RefusalKind → Bool → Rule
rule place kind kept = record { place = place; kind = kind; kept = kept }

-- what a name stands for
pub data Sort : Type 0 where
  variable : Sort
  array : Sort
  procedure : (params : ℕ) → Sort

pub record Declared : Type 0 where
  pub text : List ℕ
  pub sort : Sort

-- what arrays and procedures declare
abbrev pub declared_by : List Part → List Declared
declared_by [] = []
declared_by (Array x n at ∷ parts) = record { text = x.text; sort = array } ∷ declared_by parts
declared_by (Proc p ∷ parts) =
    record { text = p.name.text; sort = procedure (length p.params) } ∷ declared_by parts

abbrev pub variables : List Name → List Declared
variables [] = []
variables (x ∷ xs) = record { text = x.text; sort = variable } ∷ variables xs

-- a name is visible
abbrev pub is_visible : List Declared → List ℕ → Bool
is_visible visible text = list_any (λ d. pointwise nat_eq d.text text) visible

abbrev pub same_kind : Sort → Sort → Bool
same_kind variable variable = true
same_kind array array = true
same_kind (procedure m) (procedure n) = true
same_kind _ _ = false

abbrev pub same_sort : Sort → Sort → Bool
same_sort variable variable = true
same_sort array array = true
same_sort (procedure m) (procedure n) = m == n
same_sort _ _ = false

-- a name is visible, as something of this kind
abbrev pub has_kind : List Declared → List ℕ → Sort → Bool
has_kind visible text sort =
    list_any (λ d. pointwise nat_eq d.text text && same_kind d.sort sort) visible

-- a name is visible as just this, a procedure with this many parameters
abbrev pub has_sort : List Declared → List ℕ → Sort → Bool
has_sort visible text sort =
    list_any (λ d. pointwise nat_eq d.text text && same_sort d.sort sort) visible

-- a name is used so: it is visible, of this kind, and a procedure has as many parameters as there
-- are arguments
abbrev pub use_rules : List Declared → Name → Sort → List Rule
use_rules visible x sort =
    rule x.place Unknown (is_visible visible x.text)
    ∷ rule x.place Kind (has_kind visible x.text sort)
    ∷ rule x.place Count (has_sort visible x.text sort) ∷ []

abbrev pub expression_rules : List Declared → Expression → List Rule
expression_rules visible (Number n) = []
expression_rules visible (Variable x) = use_rules visible x variable
expression_rules visible (Cell a e) = use_rules visible a array ++ expression_rules visible e
expression_rules visible (Signed s e) = expression_rules visible e
expression_rules visible (Binary op a b) = expression_rules visible a ++ expression_rules visible b

abbrev pub argument_rules : List Declared → List Expression → List Rule
argument_rules visible [] = []
argument_rules visible (e ∷ es) = expression_rules visible e ++ argument_rules visible es

-- a statement with this many before it
abbrev pub statement_rule : ℕ → Place → Rule
statement_rule before place = rule place (Limit StatementCount) (nat_lt before most_statements)

-- the number of a port
abbrev pub port_rule : ℕ → Place → Rule
port_rule port place = rule place (Limit PortNumber) (nat_le 1 port && nat_le port most_port)

abbrev mutual
  -- how many statements one is, with those inside it
  pub size_of : Statement → ℕ
  size_of (If at e a b) = suc (size_of_all a + size_of_all b)
  size_of (While at e body) = suc (size_of_all body)
  size_of _ = 1

  pub size_of_all : Statements → ℕ
  size_of_all Nothing = 0
  size_of_all (Then s rest) = size_of s + size_of_all rest

-- A statement, after this many others of the program. At a name that begins a statement the rules
-- on names come first.
abbrev mutual
  pub statement_rules : List Declared → ℕ → Statement → List Rule
  statement_rules visible k (Assign at x e) =
      use_rules visible x variable ++ statement_rule k at ∷ expression_rules visible e
  statement_rules visible k (Store at a i e) =
      use_rules visible a array ++ statement_rule k at
      ∷ (expression_rules visible i ++ expression_rules visible e)
  statement_rules visible k (Print at e) = statement_rule k at ∷ expression_rules visible e
  statement_rules visible k (Read at x) = statement_rule k at ∷ use_rules visible x variable
  statement_rules visible k (Give at n p x) =
      statement_rule k at ∷ port_rule n p ∷ use_rules visible x variable
  statement_rules visible k (Take at n p e) =
      statement_rule k at ∷ port_rule n p ∷ expression_rules visible e
  statement_rules visible k (Call at None f es) =
      use_rules visible f (procedure (length es)) ++ statement_rule k at ∷ argument_rules visible es
  statement_rules visible k (Call at (Some x) f es) =
      use_rules visible x variable ++ statement_rule k at
      ∷ (use_rules visible f (procedure (length es)) ++ argument_rules visible es)
  statement_rules visible k (If at e a b) =
      statement_rule k at
      ∷ (expression_rules visible e
      ++ (body_rules visible (suc k) a ++ body_rules visible (suc k + size_of_all a) b))
  statement_rules visible k (While at e body) =
      statement_rule k at ∷ (expression_rules visible e ++ body_rules visible (suc k) body)

  pub body_rules : List Declared → ℕ → Statements → List Rule
  body_rules visible k Nothing = []
  body_rules visible k (Then s rest) =
      statement_rules visible k s ++ body_rules visible (k + size_of s) rest

abbrev pub ending_rules : List Declared → ℕ → Option Last → List Rule
ending_rules visible k None = []
ending_rules visible k (Some last) =
    statement_rule k last.place ∷ expression_rules visible last.value

abbrev pub is_main : Procedure → Bool
is_main p = pointwise nat_eq p.name.text (codes "main")

-- Parameters, after this many others: `main` has none, a name is new, and there are few.
abbrev pub parameter_rules : Bool → List Declared → ℕ → List Name → List Rule
parameter_rules main visible k [] = []
parameter_rules main visible k (x ∷ xs) =
    rule x.place Main (not (main && (k == 0)))
    ∷ rule x.place Twice (not (is_visible visible x.text))
    ∷ rule x.place (Limit Params) (nat_lt k most_parameters)
    ∷ parameter_rules main (record { text = x.text; sort = variable } ∷ visible) (suc k) xs

-- Variables, after this many others and parameters: a name is new, and there are few of both.
abbrev pub variable_rules : List Declared → ℕ → List Name → List Rule
variable_rules visible k [] = []
variable_rules visible k (x ∷ xs) =
    rule x.place Twice (not (is_visible visible x.text))
    ∷ rule x.place (Limit Vars) (nat_lt k most_locals)
    ∷ variable_rules (record { text = x.text; sort = variable } ∷ visible) (suc k) xs

abbrev pub has_main : List Part → Bool
has_main [] = false
has_main (Array x n at ∷ parts) = has_main parts
has_main (Proc p ∷ parts) = is_main p || has_main parts

abbrev pub arrays_in : List Part → ℕ
arrays_in [] = 0
arrays_in (Array x n at ∷ parts) = suc (arrays_in parts)
arrays_in (Proc p ∷ parts) = arrays_in parts

abbrev pub procs_in : List Part → ℕ
procs_in [] = 0
procs_in (Array x n at ∷ parts) = procs_in parts
procs_in (Proc p ∷ parts) = suc (procs_in parts)

abbrev pub cells_in : List Part → ℕ
cells_in [] = 0
cells_in (Array x n at ∷ parts) = n + cells_in parts
cells_in (Proc p ∷ parts) = cells_in parts

abbrev pub size_of_ending : Option Last → ℕ
size_of_ending None = 0
size_of_ending (Some last) = 1

-- statements, `return` included
abbrev pub statements_in : List Part → ℕ
statements_in [] = 0
statements_in (Array x n at ∷ parts) = statements_in parts
statements_in (Proc p ∷ parts) = size_of_all p.body + size_of_ending p.ending + statements_in parts

-- An array or a procedure, after these.
abbrev pub part_rules : List Part → Part → List Rule
part_rules before (Array x n at) =
    rule x.place Twice (not (is_visible (declared_by before) x.text))
    ∷ rule x.place (Limit Arrays) (nat_lt (arrays_in before) most_arrays)
    ∷ rule at (Limit Length) (nat_le n most_array_cells)
    ∷ rule at (Limit CellSum) (nat_le (cells_in before + n) most_cells) ∷ []
part_rules before (Proc p) =
    let visible = variables (p.params ++ p.vars) ++ declared_by before in
    let k = statements_in before in
    rule p.name.place Main (not (has_main before))
    ∷ rule p.name.place Twice (not (is_visible (declared_by before) p.name.text))
    ∷ rule p.name.place (Limit Procs) (nat_lt (procs_in before) most_procedures)
    ∷ (parameter_rules (is_main p) (declared_by before) 0 p.params
    ++ (variable_rules (variables p.params ++ declared_by before) (length p.params) p.vars
    ++ (body_rules visible k p.body ++ ending_rules visible (k + size_of_all p.body) p.ending)))

-- these arrays and procedures, after those
abbrev pub rules_after : List Part → List Part → List Rule
rules_after before [] = []
rules_after before (p ∷ parts) = part_rules before p ++ rules_after (before ++ p ∷ []) parts

-- the rules of a program whose text ends at this place, where a `main` has to have come
abbrev pub rules_of : List Part → Place → List Rule
rules_of parts finish = rules_after [] parts ++ rule finish Main (has_main parts) ∷ []

-- each rule is kept
abbrev pub IsAccepted : List Part → Place → Type 0
IsAccepted parts finish = IsTrue (list_all (λ r. r.kept) (rules_of parts finish))

-- the first rule that isn't kept
pub record IsFirstBroken (rules : List Rule) (refusal : Refusal) : Type 0 where
  pub before : List Rule
  pub following : List Rule
  pub is : rules ≡ before ++ record { place = refusal.place; kind = refusal.kind; kept = false }
      ∷ following
  pub kept : IsTrue (list_all (λ r. r.kept) before)

-- why a program isn't accepted: memory, or the first rule that isn't kept
abbrev pub IsCheckFault : List Part → Place → TextFault → Type 0
IsCheckFault parts finish NoMemory = Unit {0}
IsCheckFault parts finish (Refused r) = IsFirstBroken (rules_of parts finish) r

-- the result of a program: it is accepted, or this is the first rule that it breaks
abbrev pub IsRuleAnswer : List Part → Place → Option Refusal → Type 0
IsRuleAnswer parts finish None = IsAccepted parts finish
IsRuleAnswer parts finish (Some r) = IsFirstBroken (rules_of parts finish) r
