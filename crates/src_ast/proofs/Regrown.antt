-- The lexemes of the printed form have a tree, which is the same program.
use Rattle.std.proofs.Common.{◌≡◌, ℕ, ◌+◌, ◌<◌, ◌≤◌, nat_lt, nat_le, Bool, true, false, List, ◌∷◌, ◌++◌, []}
use Rattle.std.proofs.Common.{decimal, refl, ap, ◌∙◌, arith, append_assoc}
use Rattle.std.proofs.lemmas.Bool.{cases_lt, lt-ltb, le-ltb, le-leb, lt-leb, ltb-false}
use Rattle.ws_words.specs.declared.alu.Alu.{Alu}
use Rattle.src_ast.specs.declared.lexeme.Name.{Name}
use Rattle.src_ast.specs.declared.lexeme.Place.{Place}
use Rattle.src_ast.specs.declared.lexeme.Lexeme.{Lexeme}
use Rattle.src_ast.specs.declared.lexeme.Shape.{Shape}
use Rattle.src_ast.specs.declared.lexeme.Shape.TheVariants.{Word, Mark}
use Rattle.src_ast.specs.declared.lexeme.Shape.TheVariants as shape
use Rattle.src_ast.specs.declared.lexeme.Mark.{Mark as AnyMark}
use Rattle.src_ast.specs.declared.lexeme.Mark.TheVariants.{LParen, RParen, LSquare, RSquare, Comma}
use Rattle.src_ast.specs.Lexemes.{after, spelling}
use Rattle.src_ast.specs.Grammar.{level_of, mark_of, sign_mark, IsName, Spelled, number, variable, cell}
use Rattle.src_ast.specs.Grammar.{round, signed, binary, Separated, one, more, Listed, none, some}
use Rattle.src_ast.specs.Grammar.{SpelledName, name}
use Rattle.src_ast.specs.Syntax.{Expression, Number, Variable, Cell, Signed, Binary}
use Rattle.src_ast.specs.Same.{bare, bare_expression, bare_expressions, bare_names}
use Rattle.src_ast.specs.Printed.{is_looser, is_no_tighter, is_binary}
use Rattle.src_ast.specs.Written.{IsWrittenName, AreWrittenNames, IsWrittenExpression, AreWrittenExpressions}
use Rattle.src_ast.proofs.Pieces.{Piece, gap, lexeme, placed}
use Rattle.src_ast.proofs.Printing as print
use Rattle.src_ast.proofs.Printing.{space, newline, wrapped, expression}

-- the pieces begin with lexemes that spell something like this, in front of others
pub record Reads {A : Type 0} (R : List Lexeme → A → Type 0) (IsSame : A → Type 0) (at : Place)
    (ps qs : List Piece) : Type 0 where
  pub ls : List Lexeme
  pub following : Place
  pub is : placed at ps ≡ ls ++ placed following qs
  pub again : A
  pub spelled : R ls again
  pub same : IsSame again

level_low : (op : Alu) → level_of op < 8
level_low op = grind arith

loose_zero : (e : Expression) → is_looser e 0 ≡ false
loose_zero e = grind (arith, le-ltb)

next_level : (l n : ℕ) → nat_lt l (n + 1) ≡ nat_le l n
next_level l n = grind (arith, le-ltb, lt-leb, lt-ltb, le-leb, cases_lt)

-- a left operand of the next level is looser where a right one is no tighter
pub loose_next : (e : Expression) (n : ℕ) → is_looser e (n + 1) ≡ is_no_tighter e n
loose_next e n = grind (arith, next_level)

-- all binary operands are looser than a sign's
pub loose_eight : (e : Expression) → is_looser e 8 ≡ is_binary e
loose_eight e = grind (arith, lt-ltb, level_low)

-- the name at another place
abbrev pub named : Name → Place → Name
named x at = record { text = x.text; place = at }

-- a lexeme at a place
abbrev pub here : Place → Shape → Lexeme
here at s = record { shape = s; place = at }

-- after a mark, after a word, after a space and after a line's end
abbrev pub past_mark : Place → AnyMark → Place
past_mark at m = after at (spelling m)

-- after a space
abbrev pub past_space : Place → Place
past_space at = after at space

-- after a line's end
abbrev pub past_line : Place → Place
past_line at = after at newline

-- an expression where an operator of a level may stand
abbrev pub ReadsExpression : ℕ → Expression → Place → List Piece → List Piece → Type 0
ReadsExpression n e = Reads (Spelled n) (λ again. bare_expression e ≡ bare_expression again)

wrapped_reads : (e : Expression) (needed : Bool) (n : ℕ) → n ≤ 8 → is_looser e n ≡ needed
    → ((m : ℕ) → m ≤ 8 → is_looser e m ≡ false → (at : Place) (qs : List Piece)
    → ReadsExpression m e at (expression e qs) qs)
    → (at : Place) (qs : List Piece) → ReadsExpression n e at (wrapped needed (expression e) qs) qs
wrapped_reads e true n d h f at qs =
    let r = f 0 (omega arith) (loose_zero e) (past_mark at LParen) (lexeme (Mark RParen) ∷ qs) in
    let first = here at (Mark LParen) in
    let last = here r.following (Mark RParen) in
    record {
      ls = first ∷ (r.ls ++ last ∷ []);
      following = past_mark r.following RParen;
      is = grind (arith, append_assoc, placed);
      again = r.again;
      spelled = round first last r.ls refl refl r.spelled refl;
      same = r.same;
    }
wrapped_reads e false n d h f at qs = f n d h at qs

expression_reads : (e : Expression) → IsWrittenExpression e → (n : ℕ) → n ≤ 8 → is_looser e n ≡ false
    → (at : Place) (qs : List Piece) → ReadsExpression n e at (expression e qs) qs
expression_reads (Number v) g n d h at qs =
    record {
      ls = here at (shape.Number v) ∷ [];
      following = after at (decimal v);
      is = refl;
      again = Number v;
      spelled = number (here at (shape.Number v)) v refl;
      same = refl;
    }
expression_reads (Variable x) g n d h at qs =
    record {
      ls = here at (Word x.text) ∷ [];
      following = after at x.text;
      is = refl;
      again = Variable (named x at);
      spelled = variable (here at (Word x.text)) (named x at)
          (record { word = refl; place = refl; free = g.free });
      same = refl;
    }
expression_reads (Cell a e) g n d h at qs =
    let open' = after at a.text in
    let r = expression_reads e g.1 0 (omega arith) (loose_zero e) (past_mark open' LSquare)
    (lexeme (Mark RSquare) ∷ qs) in
    let l = here at (Word a.text) in
    let first = here open' (Mark LSquare) in
    let last = here r.following (Mark RSquare) in
    record {
      ls = l ∷ first ∷ (r.ls ++ last ∷ []);
      following = past_mark r.following RSquare;
      is = ap (λ t. l ∷ first ∷ t) r.is ∙ simp append_assoc;
      again = Cell (named a at) r.again;
      spelled = cell l first last r.ls (named a at) r.again refl
          (record { word = refl; place = refl; free = g.0.free }) refl r.spelled refl;
      same = ap (λ e. Cell (bare a) e) r.same;
    }
expression_reads (Signed s e) g n d h at qs =
    let l = here at (Mark (sign_mark s)) in
    let r = wrapped_reads e (is_binary e) 8 (omega arith) (loose_eight e) (expression_reads e g)
    (past_mark at (sign_mark s)) qs in
    record {
      ls = l ∷ r.ls;
      following = r.following;
      is = ap (λ t. l ∷ t) r.is;
      again = Signed s r.again;
      spelled = signed l r.ls s r.again d refl r.spelled;
      same = ap (λ e. Signed s e) r.same;
    }
expression_reads (Binary op a b) g n d h at qs =
    let level = level_of op in
    let low = level_low op in
    let right = gap space ∷ lexeme (Mark (mark_of op)) ∷ gap space ∷ wrapped (is_no_tighter b level)
    (expression b) qs in
    let r = wrapped_reads a (is_looser a level) level (omega (arith, low)) refl (expression_reads a g.0) at
    right in
    let l = here (past_space r.following) (Mark (mark_of op)) in
    let t = wrapped_reads b (is_no_tighter b level) (level + 1) (omega (arith, low)) (loose_next b level)
    (expression_reads b g.1) (past_space (past_mark l.place (mark_of op))) qs in
    record {
      ls = r.ls ++ (l ∷ t.ls);
      following = t.following;
      is = r.is ∙ ap (λ x. r.ls ++ (l ∷ x)) t.is ∙ simp append_assoc;
      again = Binary op r.again t.again;
      spelled = binary l r.ls t.ls op r.again t.again (ltb-false level n h) refl refl r.spelled t.spelled;
      same = grind arith;
    }

-- a written name is read as a name
pub good_name : (x : Name) (at : Place) → IsWrittenName x.text → IsName (named x at) (here at (Word x.text))
good_name x at g = record { word = refl; place = refl; free = g.free }

-- an expression where any operator may stand
pub loosest_reads : (e : Expression) → IsWrittenExpression e → (at : Place) (qs : List Piece)
    → ReadsExpression 0 e at (expression e qs) qs
loosest_reads e g at qs = expression_reads e g 0 (omega arith) (loose_zero e) at qs

some_arguments_read : (e : Expression) (es : List Expression) → IsWrittenExpression e
    → AreWrittenExpressions es → (at : Place) (qs : List Piece)
    → Reads (Separated (Spelled 0)) (λ again. bare_expressions (e ∷ es) ≡ bare_expressions again) at
    (print.arguments (e ∷ es) qs) qs
some_arguments_read e [] g gs at qs =
    let r = loosest_reads e g at qs in
    record {
      ls = r.ls;
      following = r.following;
      is = r.is;
      again = r.again ∷ [];
      spelled = one r.ls r.again r.spelled;
      same = ap (λ x. x ∷ []) r.same;
    }
some_arguments_read e (f ∷ es) g gs at qs =
    let r = loosest_reads e g at (lexeme (Mark Comma) ∷ gap space ∷ print.arguments (f ∷ es) qs) in
    let comma = here r.following (Mark Comma) in
    let t = some_arguments_read f es gs.0 gs.1 (past_space (past_mark r.following Comma)) qs in
    record {
      ls = r.ls ++ (comma ∷ t.ls);
      following = t.following;
      is = r.is ∙ ap (λ x. r.ls ++ (comma ∷ x)) t.is ∙ simp append_assoc;
      again = r.again ∷ t.again;
      spelled = more comma r.ls t.ls r.again t.again refl r.spelled refl t.spelled;
      same = ap (λ x. x ∷ bare_expressions (f ∷ es)) r.same ∙ ap (λ xs. bare_expression r.again ∷ xs) t.same;
    }

-- the pieces of arguments spell the same arguments
pub arguments_read : (es : List Expression) → AreWrittenExpressions es → (at : Place) (qs : List Piece)
    → Reads (Listed (Spelled 0)) (λ again. bare_expressions es ≡ bare_expressions again) at
    (print.arguments es qs) qs
arguments_read [] g at qs = record {
  ls = [];
  following = at;
  is = refl;
  again = [];
  spelled = none;
  same = refl;
}
arguments_read (e ∷ es) g at qs =
    let r = some_arguments_read e es g.0 g.1 at qs in
    record {
      ls = r.ls;
      following = r.following;
      is = r.is;
      again = r.again;
      spelled = some r.ls r.again r.spelled;
      same = r.same;
    }

-- those of names spell the same names
pub some_names_read : (x : Name) (xs : List Name) → IsWrittenName x.text → AreWrittenNames xs
    → (at : Place) (qs : List Piece)
    → Reads (Separated SpelledName) (λ again. bare_names (x ∷ xs) ≡ bare_names again) at
    (print.names (x ∷ xs) qs) qs
some_names_read x [] g gs at qs =
    let l = here at (Word x.text) in
    record {
      ls = l ∷ [];
      following = after at x.text;
      is = refl;
      again = named x at ∷ [];
      spelled = one (l ∷ []) (named x at) (name l (named x at) (good_name x at g));
      same = refl;
    }
some_names_read x (y ∷ xs) g gs at qs =
    let l = here at (Word x.text) in
    let comma = here (after at x.text) (Mark Comma) in
    let t = some_names_read y xs gs.0 gs.1 (past_space (past_mark comma.place Comma)) qs in
    record {
      ls = l ∷ comma ∷ t.ls;
      following = t.following;
      is = ap (λ z. l ∷ comma ∷ z) t.is;
      again = named x at ∷ t.again;
      spelled = more comma (l ∷ []) t.ls (named x at) t.again refl (name l (named x at) (good_name x at g))
          refl t.spelled;
      same = ap (λ zs. bare x ∷ zs) t.same;
    }

-- those of none, too
pub names_read : (xs : List Name) → AreWrittenNames xs → (at : Place) (qs : List Piece)
    → Reads (Listed SpelledName) (λ again. bare_names xs ≡ bare_names again) at (print.names xs qs) qs
names_read [] g at qs = record { ls = []; following = at; is = refl; again = []; spelled = none; same = refl }
names_read (x ∷ xs) g at qs =
    let r = some_names_read x xs g.0 g.1 at qs in
    record {
      ls = r.ls;
      following = r.following;
      is = r.is;
      again = r.again;
      spelled = some r.ls r.again r.spelled;
      same = r.same;
    }
