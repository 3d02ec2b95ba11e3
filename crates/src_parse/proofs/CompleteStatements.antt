-- Statements that are spelled so are read so.
use Rattle.std.proofs.Common.{arith, sym, ◌∙◌, ap, append_assoc}
use Rattle.std.specs.Prelude.{◌≡◌, ℕ, List, ◌∷◌, ◌++◌, Some, None, true, false, refl, codes}
use Rattle.src_ast.specs.declared.lexeme.Name.{Name}
use Rattle.src_ast.specs.declared.lexeme.Place.{Place}
use Rattle.src_ast.specs.declared.lexeme.Lexeme.{Lexeme}
use Rattle.src_ast.specs.declared.lexeme.Shape.TheVariants as shape
use Rattle.src_ast.specs.declared.lexeme.Mark.TheVariants as mark
use Rattle.src_ast.specs.Syntax.{Expression, Statement, Assign, Store, Print, Read, Give, Take}
use Rattle.src_ast.specs.Syntax.{Call, If, While, Statements, Nothing, Then}
use Rattle.src_ast.specs.Grammar.{Is, IsName, IsNumber, IsWord, Spelled, Listed, SpelledStatement, assign}
use Rattle.src_ast.specs.Grammar.{store, print, read, give, take, call, called, choice, while, SpelledBlock}
use Rattle.src_ast.specs.Grammar.{block, SpelledElse, no_else, with_else, SpelledStatements, nothing}
use Rattle.src_ast.specs.Grammar.{first_then}
use Rattle.src_parse.specs.Reading.{Reader, Done, ◌|>◌, is_mark, is_word}
use Rattle.src_parse.specs.Expressions.{named, operators_at, expression_at}
use Rattle.src_parse.specs.Fronts.{has_word}
use Rattle.src_parse.specs.Statements.{ended_at, value_at, call_at, named_value, assigned_by, assigned_at}
use Rattle.src_parse.specs.Statements.{stored_at, named_statement, read_at, give_at, take_at, block_by}
use Rattle.src_parse.specs.Statements.{test_at, else_by, if_by, while_by, statement_word, statement_shape}
use Rattle.src_parse.specs.Statements.{statement_by, starts_word, starts, statements_by, statements_at}
use Rattle.src_parse.specs.Statements.{starts_at}
use Rattle.src_parse.proofs.Tokens.{is_mark-true}
use Rattle.src_parse.proofs.Keywords.{keyword_none}
use Rattle.src_parse.proofs.Complete.{semi, square, paren, below_mark, operators_stay, expect_mark}
use Rattle.src_parse.proofs.Complete.{operand_name, named_alone, whole}
use Rattle.src_parse.proofs.Names.{name_in-is, word-is, name_done, count_done}
use Rattle.src_parse.proofs.Lists.{complete_enclosed, expressions}
use Rattle.src_parse.proofs.Statements.{statements_at_is}

complete_ended : (ls : List Lexeme) (e : Expression) (last : Lexeme) (ts : List Lexeme) → Spelled 0 ls e
    → Is mark.Semi last → ended_at (ls ++ (last ∷ ts)) ≡ Done e ts
unfolding ended_at
complete_ended ls e last ts s z = grind (arith, whole, semi, expect_mark)

-- an expression and its semicolon are read
pub complete_value : {A : Type 0} (f : Expression → A) (ls : List Lexeme) (e : Expression) (last : Lexeme)
    (ts : List Lexeme) → Spelled 0 ls e → Is mark.Semi last → value_at f (ls ++ (last ∷ ts)) ≡ Done (f e) ts
unfolding value_at
complete_value f ls e last ts s z = rw (complete_ended ls e last ts s z) refl

complete_call : (f : List Expression → Statement) (ls : List Lexeme) (es : List Expression)
    (last end : Lexeme) (ts : List Lexeme) → Listed (Spelled 0) ls es → Is mark.RParen last → Is mark.Semi end
    → call_at f (ls ++ (last ∷ end ∷ ts)) ≡ Done (f es) ts
unfolding call_at
complete_call f ls es last end ts s z q =
    rw (
      complete_enclosed (Spelled 0) (expression_at 0) expressions ls es last (end ∷ ts) s z,
      expect_mark mark.Semi end ts q,
    ) refl

-- after a name that an expression begins with, the rest of the expression
pub named_rest : (l : Lexeme) (y : Name) (x : List Lexeme) → IsName y l
    → expression_at 0 (l ∷ x) ≡ (named (expression_at 0) y x |> operators_at 0)
unfolding expression_at
named_rest l y x h = ap (λ r. r |> operators_at 0) (operand_name l y x h)

Semi-not-LParen : (l : Lexeme) → Is mark.Semi l → is_mark mark.LParen l.shape ≡ true → ⊥
Semi-not-LParen l h e = let bad : false ≡ true = sym (ap (is_mark mark.LParen) h) ∙ e in cc

-- an expression is read as one after `x =`, whatever a call would be
value_named : (f : Expression → Statement) (g : List Expression → Statement) (l : Lexeme) (y : Name)
    (x : List Lexeme) (e : Expression) (last : Lexeme) (ts : List Lexeme) → IsName y l → Is mark.Semi last
    → expression_at 0 (l ∷ x) ≡ Done e (last ∷ ts) → named_value f g y x ≡ Done (f e) ts
unfolding named_value
value_named f g l y x e last ts h z p = grind (
  arith,
  named_rest,
  expect_mark,
  is_mark-true,
  expression_at,
  operators_at,
  named_alone,
  operators_stay,
  below_mark,
  Semi-not-LParen,
)

value_assigned : (f : Expression → Statement) (g : Name → List Expression → Statement) (x : List Lexeme)
    (e : Expression) (last : Lexeme) (ts : List Lexeme) → Is mark.Semi last
    → expression_at 0 x ≡ Done e (last ∷ ts) → assigned_at f g x ≡ Done (f e) ts
unfolding assigned_at assigned_by value_at ended_at
value_assigned f g x e last ts z p = grind (arith, expect_mark, assigned_by, value_named, name_in-is)

statement_name : (body : Reader Statements) (l : Lexeme) (x : Name) (ts : List Lexeme) → IsName x l
    → statement_by body (l ∷ ts) ≡ named_statement x ts
unfolding statement_by statement_shape statement_word
statement_name body l x ts h = grind (arith, statement_shape, statement_word, keyword_none, named_statement)

statement_print : (body : Reader Statements) (l : Lexeme) (ts : List Lexeme) → IsWord (codes "print") l
    → statement_by body (l ∷ ts) ≡ value_at (Print l.place) ts
unfolding statement_by statement_shape statement_word
statement_print body l ts h = ap (λ s. statement_shape body s l ts) h

statement_read : (body : Reader Statements) (l : Lexeme) (ts : List Lexeme) → IsWord (codes "read") l
    → statement_by body (l ∷ ts) ≡ read_at l.place ts
unfolding statement_by statement_shape statement_word
statement_read body l ts h = ap (λ s. statement_shape body s l ts) h

statement_give : (body : Reader Statements) (l : Lexeme) (ts : List Lexeme) → IsWord (codes "give") l
    → statement_by body (l ∷ ts) ≡ give_at l.place ts
unfolding statement_by statement_shape statement_word
statement_give body l ts h = ap (λ s. statement_shape body s l ts) h

statement_take : (body : Reader Statements) (l : Lexeme) (ts : List Lexeme) → IsWord (codes "take") l
    → statement_by body (l ∷ ts) ≡ take_at l.place ts
unfolding statement_by statement_shape statement_word
statement_take body l ts h = ap (λ s. statement_shape body s l ts) h

statement_if : (body : Reader Statements) (l : Lexeme) (ts : List Lexeme) → IsWord (codes "if") l
    → statement_by body (l ∷ ts) ≡ if_by body l.place ts
unfolding statement_by statement_shape statement_word
statement_if body l ts h = ap (λ s. statement_shape body s l ts) h

statement_while : (body : Reader Statements) (l : Lexeme) (ts : List Lexeme) → IsWord (codes "while") l
    → statement_by body (l ∷ ts) ≡ while_by body l.place ts
unfolding statement_by statement_shape statement_word
statement_while body l ts h = ap (λ s. statement_shape body s l ts) h

read_done : (at : Place) (name last : Lexeme) (x : Name) (ts : List Lexeme) → IsName x name
    → Is mark.Semi last → read_at at (name ∷ last ∷ ts) ≡ Done (Read at x) ts
unfolding read_at
read_done at name last x ts h z = rw (name_done x name (last ∷ ts) h, expect_mark mark.Semi last ts z) refl

give_done : (at : Place) (port comma name last : Lexeme) (n : ℕ) (x : Name) (ts : List Lexeme)
    → IsNumber n port → Is mark.Comma comma → IsName x name → Is mark.Semi last
    → give_at at (port ∷ comma ∷ name ∷ last ∷ ts) ≡ Done (Give at n port.place x) ts
unfolding give_at
give_done at port comma name last n x ts p c h z = grind (arith, count_done, expect_mark, name_done)

take_done : (at : Place) (port comma last : Lexeme) (n : ℕ) (ls : List Lexeme) (e : Expression)
    (ts : List Lexeme) → IsNumber n port → Is mark.Comma comma → Spelled 0 ls e → Is mark.Semi last
    → take_at at (port ∷ comma ∷ (ls ++ (last ∷ ts))) ≡ Done (Take at n port.place e) ts
unfolding take_at
take_done at port comma last n ls e ts p c h z = grind (arith, count_done, expect_mark, complete_value)

named_assign : (x : Name) (m : Lexeme) (ts : List Lexeme) → Is mark.Assign m
    → named_statement x (m ∷ ts) ≡ assigned_at (Assign x.place x) (Call x.place (Some x)) ts
unfolding named_statement
named_assign x m ts h = rw h refl

named_call : (x : Name) (m : Lexeme) (ts : List Lexeme) → Is mark.LParen m
    → named_statement x (m ∷ ts) ≡ call_at (Call x.place None x) ts
unfolding named_statement
named_call x m ts h = rw h refl

named_store : (x : Name) (m : Lexeme) (ts : List Lexeme) → Is mark.LSquare m
    → named_statement x (m ∷ ts) ≡ stored_at x ts
unfolding named_statement
named_store x m ts h = rw h refl

stored_done : (x : Name) (js : List Lexeme) (i : Expression) (last equals : Lexeme) (es : List Lexeme)
    (e : Expression) (end : Lexeme) (ts : List Lexeme)
    → Spelled 0 js i → Is mark.RSquare last → Is mark.Assign equals → Spelled 0 es e → Is mark.Semi end
    → stored_at x (js ++ (last ∷ equals ∷ (es ++ (end ∷ ts)))) ≡ Done (Store x.place x i e) ts
unfolding stored_at
stored_done x js i last equals es e end ts c d f g h =
    grind (arith, whole, square, expect_mark, complete_value, x.place)

-- a call after `x =` is read
pub assigned_call : (f : Expression → Statement) (g : Name → List Expression → Statement) (l m : Lexeme)
    (y : Name) (ts : List Lexeme) → IsName y l → Is mark.LParen m → assigned_at f g (l ∷ m ∷ ts)
    ≡ call_at (g y) ts
unfolding assigned_at assigned_by named_value
assigned_call f g l m y ts h q = rw (h.word, h.free, h.place, q) refl

-- this word does not stand in front
abbrev pub NoWord : List ℕ → List Lexeme → Type 0
NoWord v ts = has_word v ts ≡ false

-- where a statement starts, no word stands that starts none
starts_other : (v : List ℕ) → starts (shape.Word v) ≡ false → (l : Lexeme) → starts l.shape ≡ true
    → is_word v l.shape ≡ false
starts_other v o l h = grind (arith, word-is, l.shape)

other_after : (v : List ℕ) → starts (shape.Word v) ≡ false → (ls ts : List Lexeme) → starts_at ls ≡ true
    → NoWord v (ls ++ ts)
other_after v o ls ts h = grind (arith, starts_other)

starts_after : (ls ts : List Lexeme) → starts_at ls ≡ true → starts_at (ls ++ ts) ≡ true
starts_after ls ts h = grind arith

starts_name : (x : Name) (l : Lexeme) → IsName x l → starts l.shape ≡ true
starts_name x l h = ap starts h.word ∙ ap starts_word (keyword_none x.text h.free)

begins : (ks : List Lexeme) (s : Statement) → SpelledStatement ks s → starts_at ks ≡ true
begins ks s (assign l equals last ls x e eq a b c d) = ap starts_at eq ∙ starts_name x l a
begins ks s (store l first last equals end js es x i e eq a b c d f g h) = ap starts_at eq ∙ starts_name x l a
begins ks s (print l last ls e eq a b c) = ap starts_at eq ∙ ap starts a
begins ks s (read l name last x eq a b c) = ap starts_at eq ∙ ap starts a
begins ks s (give l port comma name last n x eq a b c d f) = ap starts_at eq ∙ ap starts a
begins ks s (take l port comma last ls n e eq a b c d f) = ap starts_at eq ∙ ap starts a
begins ks s (call name first last end ls f es eq a b c d g) = ap starts_at eq ∙ starts_name f name a
begins ks s (called l equals name first last end ls x f es eq a b c d g h j) = grind (arith, starts_name)
begins ks s (choice l first last ls xs ys e a b eq c d f g h j) = ap starts_at eq ∙ ap starts c
begins ks s (while l first last ls bs e body eq a b c d f) = ap starts_at eq ∙ ap starts a

test_done : (first last : Lexeme) (ls ts : List Lexeme) (e : Expression) → Is mark.LParen first
    → Spelled 0 ls e → Is mark.RParen last → test_at (first ∷ (ls ++ (last ∷ ts))) ≡ Done e ts
unfolding test_at
test_done first last ls ts e f s z = grind (arith, expect_mark, whole, paren)

if_done : (body : Reader Statements) (at : Place) (x r q ts : List Lexeme) (e : Expression) (a b : Statements)
    → test_at x ≡ Done e r → block_by body r ≡ Done a q → else_by body q ≡ Done b ts
    → if_by body at x ≡ Done (If at e a b) ts
unfolding if_by
if_done body at x r q ts e a b t h k = rw (t, h, k) refl

while_done : (body : Reader Statements) (at : Place) (x r ts : List Lexeme) (e : Expression) (b : Statements)
    → test_at x ≡ Done e r → block_by body r ≡ Done b ts → while_by body at x ≡ Done (While at e b) ts
unfolding while_by
while_done body at x r ts e b t h = rw (t, h) refl

statements_done : (l : Lexeme) (x r q : List Lexeme) (s : Statement) (b : Statements) → starts l.shape ≡ true
    → statement_by statements_at (l ∷ x) ≡ Done s r → statements_at r ≡ Done b q
    → statements_at (l ∷ x) ≡ Done (Then s b) q
unfolding statements_by
statements_done l x r q s b h e k = statements_at_is (l ∷ x) ∙ rw (h, e, k) refl

statements_go : (x r q : List Lexeme) (s : Statement) (b : Statements) → starts_at x ≡ true
    → statement_by statements_at x ≡ Done s r → statements_at r ≡ Done b q
    → statements_at x ≡ Done (Then s b) q
statements_go x r q s b h e k = grind (arith, statements_done)

statements_stay : (ts : List Lexeme) → starts_at ts ≡ false → statements_at ts ≡ Done Nothing ts
unfolding statements_by
statements_stay ts h = grind (arith, statements_at_is)

block_done : (first last : Lexeme) (x ts : List Lexeme) (b : Statements) → Is mark.LBrace first
    → statements_at x ≡ Done b (last ∷ ts) → Is mark.RBrace last → block_by statements_at (first ∷ x)
    ≡ Done b ts
unfolding block_by
block_done first last x ts b f e z = grind (arith, expect_mark)

else_stay : (ts : List Lexeme) → NoWord (codes "else") ts → else_by statements_at ts ≡ Done Nothing ts
unfolding else_by
else_stay ts h = grind arith

else_go : (l : Lexeme) (x : List Lexeme) → IsWord (codes "else") l → else_by statements_at (l ∷ x) ≡ block_by
    statements_at x
unfolding else_by
else_go l x h = rw h refl

-- in front of statements, and of what stands after them, stands no word that starts none
pub statements_other : (v : List ℕ) → starts (shape.Word v) ≡ false → (rs : List Lexeme) (b : Statements)
    → SpelledStatements rs b → (ts : List Lexeme) → NoWord v ts → NoWord v (rs ++ ts)
statements_other v o rs b h ts n = grind (arith, other_after, starts_after, begins)

mutual
  pub complete_statement : (ks : List Lexeme) (s : Statement) → SpelledStatement ks s → (ts : List Lexeme)
      → NoWord (codes "else") ts → statement_by statements_at (ks ++ ts) ≡ Done s ts
  complete_statement ks s (assign l equals last ls x e eq a b c d) ts n =
      rw (eq, append_assoc) (statement_name statements_at l x (equals ∷ (ls ++ (last ∷ ts))) a
      ∙ named_assign x equals (ls ++ (last ∷ ts)) b
      ∙ value_assigned (Assign x.place x) (Call x.place (Some x)) (ls ++ (last ∷ ts)) e last ts d
      (whole mark.Semi semi ls e last ts d c))
  complete_statement ks s (store l first last equals end js es x i e eq a b c d f g h) ts n =
      rw (eq, append_assoc)
      (rw append_assoc
      (statement_name statements_at l x (first ∷ (js ++ (last ∷ equals ∷ (es ++ (end ∷ ts))))) a
      ∙ named_store x first (js ++ (last ∷ equals ∷ (es ++ (end ∷ ts)))) b
      ∙ stored_done x js i last equals es e end ts c d f g h))
  complete_statement ks s (print l last ls e eq a b c) ts n =
      rw (eq, append_assoc) (statement_print statements_at l (ls ++ (last ∷ ts)) a
      ∙ complete_value (Print l.place) ls e last ts b c)
  complete_statement ks s (read l name last x eq a b c) ts n =
      rw eq (statement_read statements_at l (name ∷ last ∷ ts) a ∙ read_done l.place name last x ts b c)
  complete_statement ks s (give l port comma name last m x eq a b c d f) ts n =
      rw eq (statement_give statements_at l (port ∷ comma ∷ name ∷ last ∷ ts) a
      ∙ give_done l.place port comma name last m x ts b c d f)
  complete_statement ks s (take l port comma last ls m e eq a b c d f) ts n =
      rw (eq, append_assoc) (statement_take statements_at l (port ∷ comma ∷ (ls ++ (last ∷ ts))) a
      ∙ take_done l.place port comma last m ls e ts b c d f)
  complete_statement ks s (call name first last end ls f es eq a b c d g) ts n =
      rw (eq, append_assoc) (statement_name statements_at name f (first ∷ (ls ++ (last ∷ end ∷ ts))) a
      ∙ named_call f first (ls ++ (last ∷ end ∷ ts)) b
      ∙ complete_call (Call f.place None f) ls es last end ts c d g)
  complete_statement ks s (called l equals name first last end ls x f es eq a b c d g h j) ts n =
      rw (eq, append_assoc)
      (statement_name statements_at l x (equals ∷ name ∷ first ∷ (ls ++ (last ∷ end ∷ ts))) a
      ∙ named_assign x equals (name ∷ first ∷ (ls ++ (last ∷ end ∷ ts))) b
      ∙ assigned_call (Assign x.place x) (Call x.place (Some x)) name first f (ls ++ (last ∷ end ∷ ts)) c d
      ∙ complete_call (Call x.place (Some x) f) ls es last end ts g h j)
  complete_statement ks s (choice l first last ls xs ys e a b eq c d f g h j) ts n =
      rw (eq, append_assoc)
      (rw append_assoc (statement_if statements_at l (first ∷ (ls ++ (last ∷ (xs ++ (ys ++ ts))))) c
      ∙ if_done statements_at l.place (first ∷ (ls ++ (last ∷ (xs ++ (ys ++ ts))))) (xs ++ (ys ++ ts))
      (ys ++ ts) ts e a b
      (test_done first last ls (xs ++ (ys ++ ts)) e d f g) (complete_block xs a h (ys ++ ts))
      (complete_else ys b j ts n)))
  complete_statement ks s (while l first last ls bs e body eq a b c d f) ts n =
      rw (eq, append_assoc) (statement_while statements_at l (first ∷ (ls ++ (last ∷ (bs ++ ts)))) a
      ∙ while_done statements_at l.place (first ∷ (ls ++ (last ∷ (bs ++ ts)))) (bs ++ ts) ts e body
      (test_done first last ls (bs ++ ts) e b c d) (complete_block bs body f ts))

  pub complete_block : (ks : List Lexeme) (b : Statements) → SpelledBlock ks b → (ts : List Lexeme)
      → block_by statements_at (ks ++ ts) ≡ Done b ts
  complete_block ks b (block first last ls body eq f h z) ts =
      rw (eq, append_assoc) (block_done first last (ls ++ (last ∷ ts)) ts b f
      (complete_statements ls b h (last ∷ ts) (ap (is_word (codes "else")) z) (ap starts z)) z)

  pub complete_else : (ks : List Lexeme) (b : Statements) → SpelledElse ks b → (ts : List Lexeme)
      → NoWord (codes "else") ts → else_by statements_at (ks ++ ts) ≡ Done b ts
  complete_else ks b no_else ts n = else_stay ts n
  complete_else ks b (with_else l ls body h k) ts n = else_go l (ls ++ ts) h ∙ complete_block ls b k ts

  -- what is spelled as statements is read as them
  pub complete_statements : (ks : List Lexeme) (b : Statements) → SpelledStatements ks b → (ts : List Lexeme)
      → NoWord (codes "else") ts → starts_at ts ≡ false → statements_at (ks ++ ts) ≡ Done b ts
  complete_statements ks b nothing ts n h = statements_stay ts h
  complete_statements ks b (first_then ls rs s rest eq p k) ts n h =
      rw (eq, append_assoc) (statements_go (ls ++ (rs ++ ts)) (rs ++ ts) ts s rest
      (starts_after ls (rs ++ ts) (begins ls s p))
      (complete_statement ls s p (rs ++ ts) (statements_other (codes "else") refl rs rest k ts n))
      (complete_statements rs rest k ts n h))
