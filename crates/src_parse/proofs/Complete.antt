-- What is spelled so is read so, where what stands after it doesn't continue it.
use Rattle.std.specs.Prelude.{◌≡◌, ℕ, ◌+◌, ◌≤◌, List, [], ◌∷◌, ◌++◌, Option, Some, None, false, refl}
use Rattle.std.proofs.Common.{sym, ◌∙◌, ap, subst, append_assoc, arith}
use Rattle.std.proofs.lemmas.Bool.{lt-ltb, le-ltb}
use Rattle.ws_words.specs.declared.alu.Alu.{Alu}
use Rattle.src_ast.specs.declared.lexeme.Name.{Name}
use Rattle.src_ast.specs.declared.lexeme.Lexeme.{Lexeme}
use Rattle.src_ast.specs.declared.lexeme.Shape.TheVariants as shape
use Rattle.src_ast.specs.declared.lexeme.Mark.{Mark}
use Rattle.src_ast.specs.declared.lexeme.Mark.TheVariants as mark
use Rattle.src_ast.specs.declared.tree.Unary.{Unary}
use Rattle.src_ast.specs.declared.tree.Unary.TheVariants.{Flip, Not, Neg}
use Rattle.src_ast.specs.Syntax.{Expression, Number, Variable, Cell, Signed, Binary}
use Rattle.src_ast.specs.Grammar.{level_of, mark_of, sign_mark, Is, IsName, IsNumber, Spelled, number}
use Rattle.src_ast.specs.Grammar.{variable, cell, round, signed, binary}
use Rattle.src_parse.specs.Expressions.{operator_of, operator_in, named, operand_mark, operand_shape, further}
use Rattle.src_parse.specs.Expressions.{operators, operand_at, operators_at, expression_at}
use Rattle.src_parse.specs.Reading.{Reading, Reader, Done, ◌|>◌, is_mark, expect}
use Rattle.src_parse.proofs.Tokens.{is_mark-same}
use Rattle.src_parse.proofs.Expressions.{OpBelow, Below, below_8, below_9}
use Rattle.src_parse.proofs.Steady.{operators_at_is, operand_after}

-- no index begins here
abbrev pub NoIndex : List Lexeme → Type 0
NoIndex [] = Unit {0}
NoIndex (l ∷ ls) = is_mark mark.LSquare l.shape ≡ false

-- after an expression this mark ends it
pub record Closes (m : Mark) : Type 0 where
  pub operator : operator_of m ≡ None
  pub index : is_mark mark.LSquare (shape.Mark m) ≡ false

op_below_more : (m n : ℕ) → m ≤ n → (o : Option Alu) → OpBelow m o → OpBelow n o
op_below_more m n le o h = grind arith

pub below_more : (m n : ℕ) → m ≤ n → (ts : List Lexeme) → Below m ts → Below n ts
below_more m n le ts h = grind (arith, op_below_more)

further_stays : (whole : ℕ → Reader Expression) (again : Expression → Reader Expression) (min : ℕ)
    (left : Expression) (o : Option Alu) (l : Lexeme) (ls : List Lexeme)
    → OpBelow min o → further whole again min left o l ls ≡ Done left (l ∷ ls)
unfolding further
further_stays whole again min left o l ls h = grind (arith, lt-ltb)

-- no operator of this level stands there: the operand is all
pub operators_stay : (min : ℕ) (left : Expression) (ts : List Lexeme) → Below min ts
    → operators_at min left ts ≡ Done left ts
unfolding operators
operators_stay min left ts h = grind (arith, operators_at_is, further_stays, expression_at, operators_at)

-- a mark that is no operator ends an expression
pub below_mark : (m : Mark) (n : ℕ) (last : Lexeme) (ts : List Lexeme) → operator_of m ≡ None → Is m last
    → Below n (last ∷ ts)
below_mark m n last ts o h = subst (OpBelow n) (sym (ap operator_in h ∙ o)) tt

pub no_index_mark : (m : Mark) (last : Lexeme) (ts : List Lexeme) → is_mark mark.LSquare (shape.Mark m)
    ≡ false → Is m last → NoIndex (last ∷ ts)
no_index_mark m last ts i h = ap (is_mark mark.LSquare) h ∙ i

-- a mark that is there is read
pub expect_mark : (m : Mark) (l : Lexeme) (ts : List Lexeme) → Is m l → expect m (l ∷ ts) ≡ Done tt ts
unfolding expect
expect_mark m l ts h = rw (is_mark-same m l.shape h) refl

-- an expression with a mark after it
pub closed : (m : Mark) → Closes m → (ls : List Lexeme) (e : Expression) (last : Lexeme) (ts : List Lexeme)
    → Is m last
    → ((ts : List Lexeme) → Below 1 ts → NoIndex ts → expression_at 0 (ls ++ ts) ≡ operators_at 0 e ts)
    → expression_at 0 ((ls ++ last ∷ []) ++ ts) ≡ Done e (last ∷ ts)
closed m c ls e last ts h ih = grind (arith, append_assoc, below_mark, no_index_mark, c.index, operators_stay)

-- after an operand come the operators
from_operand : (ls ts : List Lexeme) (e : Expression) (m : ℕ) → operand_at (ls ++ ts) ≡ Done e ts
    → expression_at m (ls ++ ts) ≡ operators_at m e ts
unfolding expression_at
from_operand ls ts e m h = ap (λ y. y |> operators_at m) h

bind_same : {A : Type 0} (x : Reading A) (f : A → Reader A) → ((a : A) (r : List Lexeme) → f a r ≡ Done a r)
    → (x |> f) ≡ x
bind_same x f h = grind arith

expression_8 : (x : List Lexeme) → expression_at 8 x ≡ operand_at x
unfolding expression_at
expression_8 x = bind_same (operand_at x) (operators_at 8) (λ a r. operators_stay 8 a r (below_8 r))

named_index : (whole : Reader Expression) (a : Name) (first last : Lexeme) (rest ts : List Lexeme)
    (e : Expression)
    → Is mark.LSquare first → Is mark.RSquare last → whole rest ≡ Done e (last ∷ ts)
    → named whole a (first ∷ rest) ≡ Done (Cell a e) ts
unfolding named
named_index whole a first last rest ts e f z h = rw (
  is_mark-same mark.LSquare first.shape f,
  h,
  expect_mark mark.RSquare last ts z,
) refl

-- a name with no index is a variable
pub named_alone : (whole : Reader Expression) (a : Name) (ts : List Lexeme) → NoIndex ts
    → named whole a ts ≡ Done (Variable a) ts
unfolding named
named_alone whole a ts h = grind arith

-- a name is an operand, with its index if it has one
pub operand_name : (l : Lexeme) (x : Name) (ts : List Lexeme) → IsName x l
    → operand_at (l ∷ ts) ≡ named (expression_at 0) x ts
unfolding operand_shape
operand_name l x ts h = operand_after (l ∷ ts) l ts refl ∙ rw (h.word, h.free, h.place) refl

operand_number : (l : Lexeme) (v : ℕ) (ts : List Lexeme) → IsNumber v l
    → operand_at (l ∷ ts) ≡ Done (Number v) ts
unfolding operand_shape
operand_number l v ts h = operand_after (l ∷ ts) l ts refl ∙ rw h refl

operand_round : (first last : Lexeme) (rest ts : List Lexeme) (e : Expression) → Is mark.LParen first
    → Is mark.RParen last
    → expression_at 0 rest ≡ Done e (last ∷ ts) → operand_at (first ∷ rest) ≡ Done e ts
unfolding operand_shape operand_mark
operand_round first last rest ts e f z h = operand_after (first ∷ rest) first rest refl
    ∙ rw (f, h, expect_mark mark.RParen last ts z) refl

operand_sign : (s : Unary) (l : Lexeme) (rest ts : List Lexeme) (e : Expression) → Is (sign_mark s) l
    → operand_at rest ≡ Done e ts → operand_at (l ∷ rest) ≡ Done (Signed s e) ts
unfolding operand_shape operand_mark
operand_sign Flip l rest ts e h p = operand_after (l ∷ rest) l rest refl ∙ rw (h, p) refl
operand_sign Not l rest ts e h p = operand_after (l ∷ rest) l rest refl ∙ rw (h, p) refl
operand_sign Neg l rest ts e h p = operand_after (l ∷ rest) l rest refl ∙ rw (h, p) refl

operator_of_mark : (op : Alu) → operator_of (mark_of op) ≡ Some op
operator_of_mark op = grind arith

operator_no_index : (op : Alu) → is_mark mark.LSquare (shape.Mark (mark_of op)) ≡ false
operator_no_index op = grind arith

further_goes : (whole : ℕ → Reader Expression) (again : Expression → Reader Expression) (min : ℕ)
    (left right : Expression) (op : Alu) (l : Lexeme) (ls ts : List Lexeme)
    → min ≤ level_of op → whole (level_of op + 1) ls ≡ Done right ts → further whole again min left (Some op)
    l ls ≡ again (Binary op left right) ts
unfolding further
further_goes whole again min left right op l ls ts le h = rw (le-ltb (level_of op) min le, h) refl

operators_go : (min : ℕ) (left right : Expression) (op : Alu) (l : Lexeme) (ls ts : List Lexeme)
    → Is (mark_of op) l → min ≤ level_of op
    → expression_at (level_of op + 1) ls ≡ Done right ts → operators_at min left (l ∷ ls) ≡ operators_at min
    (Binary op left right) ts
unfolding operators
operators_go min left right op l ls ts h le e =
    let o : operator_in l.shape ≡ Some op = ap operator_in h ∙ operator_of_mark op in
    operators_at_is min left (l ∷ ls) ∙ ap (λ o. further expression_at (operators_at min) min left o l ls) o
    ∙ further_goes expression_at (operators_at min) min left right op l ls ts le e

-- a semicolon ends an expression
pub semi : Closes mark.Semi
semi = record { operator = refl; index = refl }

-- so does a comma
pub comma : Closes mark.Comma
comma = record { operator = refl; index = refl }

-- so does a `]`
pub square : Closes mark.RSquare
square = record { operator = refl; index = refl }

-- so does a `)`
pub paren : Closes mark.RParen
paren = record { operator = refl; index = refl }

-- what is spelled as an expression is read as it
pub complete : (n : ℕ) (ws : List Lexeme) (e : Expression) → Spelled n ws e
    → (m : ℕ) → m ≤ n → (ts : List Lexeme) → Below (n + 1) ts → NoIndex ts
    → expression_at m (ws ++ ts) ≡ operators_at m e ts
complete n ws e (number l v h) m le ts b i = from_operand ws ts e m (operand_number l v ts h)
complete n ws e (variable l x h) m le ts b i =
    from_operand ws ts e m (operand_name l x ts h ∙ named_alone (expression_at 0) x ts i)
complete n ws e (cell l first last ls a j eq h f s z) m le ts b i =
    from_operand ws ts e m (rw eq (operand_name l a (first ∷ ((ls ++ last ∷ []) ++ ts)) h
    ∙ named_index (expression_at 0) a first last ((ls ++ last ∷ []) ++ ts) ts j f z
    (closed mark.RSquare square ls j last ts z (complete 0 ls j s 0 (omega arith)))))
complete n ws e (round first last ls eq f s z) m le ts b i =
    from_operand ws ts e m
    (rw eq (operand_round first last ((ls ++ last ∷ []) ++ ts) ts e f z
    (closed mark.RParen paren ls e last ts z (complete 0 ls e s 0 (omega arith)))))
complete n ws e (signed l ls s j lt h k) m le ts b i =
    from_operand ws ts e m (operand_sign s l (ls ++ ts) ts j h
    (sym (expression_8 (ls ++ ts)) ∙ complete 8 ls j k 8 (omega arith) ts (below_9 ts) i
    ∙ operators_stay 8 j ts (below_8 ts)))
complete n ws e (binary l ls rs op a c lt eq h p q) m le ts b i =
    let right : expression_at (level_of op + 1) (rs ++ ts) ≡ Done c ts =
    complete (level_of op + 1) rs c q (level_of op + 1) (omega arith) ts
    (below_more (n + 1) (level_of op + 1 + 1) (omega arith) ts b) i
    ∙ operators_stay (level_of op + 1) c ts (below_more (n + 1) (level_of op + 1) (omega arith) ts b) in
    rw (eq, append_assoc) (complete (level_of op) ls a p m (omega arith) (l ∷ (rs ++ ts))
    (subst (OpBelow (level_of op + 1)) (sym (ap operator_in h ∙ operator_of_mark op)) (omega arith))
    (ap (is_mark mark.LSquare) h ∙ operator_no_index op)
    ∙ operators_go m a c op l (rs ++ ts) ts h (omega arith) right)

-- an expression in front of a mark that ends it
pub whole : (m : Mark) → Closes m → (ls : List Lexeme) (e : Expression) (last : Lexeme) (ts : List Lexeme)
    → Is m last → Spelled 0 ls e → expression_at 0 (ls ++ (last ∷ ts)) ≡ Done e (last ∷ ts)
whole m c ls e last ts h s = grind (arith, complete, below_mark, no_index_mark, c.index, operators_stay)
