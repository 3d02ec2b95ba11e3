-- The bound on the depth is never met: the readers go on as if there were none.
use Rattle.std.specs.Prelude.{◌≡◌, ℕ, zero, suc, ◌+◌, ◌-◌, ◌≤◌, ◌<◌, length, List, [], ◌∷◌, Option}
use Rattle.std.specs.Prelude.{Some, refl, if◌then◌else◌}
use Rattle.std.proofs.Common.{◌∙◌, ap, length-append, arith, zero-add, suc-add}
use Rattle.std.proofs.lemmas.Bool.{le-ltb}
use Rattle.ws_words.specs.declared.alu.Alu.{Alu}
use Rattle.src_ast.specs.declared.lexeme.Name.{Name}
use Rattle.src_ast.specs.declared.lexeme.Lexeme.{Lexeme}
use Rattle.src_ast.specs.declared.lexeme.Shape.{Shape}
use Rattle.src_ast.specs.declared.lexeme.Shape.TheVariants as shape
use Rattle.src_ast.specs.declared.lexeme.Mark.{Mark}
use Rattle.src_ast.specs.declared.lexeme.Mark.TheVariants as mark
use Rattle.src_ast.specs.Syntax.{Expression}
use Rattle.src_ast.specs.Grammar.{level_of, is_reserved, Spelled}
use Rattle.src_parse.specs.Expressions.{named, operand_mark, operand_shape, operand, further}
use Rattle.src_parse.specs.Expressions.{operators, operand_in, operators_in, operand_at, operators_at}
use Rattle.src_parse.specs.Expressions.{expression_at, expression_in, operator_at}
use Rattle.src_parse.specs.Reading.{Reader, Done, Stuck, ◌|>◌}
use Rattle.src_parse.specs.declared.stop.Stop.{Stop}
use Rattle.src_parse.specs.Gives.{Stops}
use Rattle.src_parse.proofs.Exact.{Exact}
use Rattle.src_parse.proofs.Expressions.{exact_operand_in, exact_expression, level-bound}

-- the two readers answer alike on lists shorter than this
abbrev pub Alike : {A : Type 0} → ℕ → Reader A → Reader A → Type 0
Alike n P Q = (x : List Lexeme) → length x < n → P x ≡ Q x

-- what is left is no longer
abbrev pub Shrinks : {A : Type 0} → Reader A → Type 0
Shrinks {A} P = (x : List Lexeme) (a : A) (r : List Lexeme) → P x ≡ Done a r → length r ≤ length x

-- an exact reader leaves no more lexemes
pub shrinks : {A : Type 0} (L : List Lexeme → A → Type 0) (P : Reader A) → ((x : List Lexeme) → Exact L P x)
    → Shrinks P
shrinks L P g x a r e = grind (arith, length-append)

-- readers in a row that agree
pub bind_alike : {A B : Type 0} (n : ℕ) (P P' : Reader A) (Q Q' : A → Reader B) → Shrinks P → Alike n P P'
    → ((a : A) → Alike n (Q a) (Q' a))
    → Alike n (λ x. P x |> Q) (λ x. P' x |> Q')
bind_alike n P P' Q Q' s p q x lt = grind arith

alike_named : (n : ℕ) (whole whole' : Reader Expression) → Alike n whole whole'
    → (x : Name) (ls : List Lexeme) → length ls < suc n → named whole x ls ≡ named whole' x ls
unfolding named
alike_named n whole whole' w x ls lt = grind arith

alike_operand_mark : (n : ℕ) (part part' whole whole' : Reader Expression) → Alike n part part'
    → Alike n whole whole'
    → (m : Mark) (l : Lexeme) (ls : List Lexeme) → length ls < n → operand_mark part whole m l ls
    ≡ operand_mark part' whole' m l ls
unfolding operand_mark
alike_operand_mark n part part' whole whole' p w m l ls lt = grind arith

pub alike_operand : (n : ℕ) (part part' whole whole' : Reader Expression) → Alike n part part'
    → Alike n whole whole'
    → Alike (suc n) (operand part whole) (operand part' whole')
unfolding operand operand_shape
alike_operand n part part' whole whole' p w [] lt = refl
alike_operand n part part' whole whole' p w (l ∷ ls) lt = go l.shape
  where
    go : (s : Shape) → operand_shape part whole s l ls ≡ operand_shape part' whole' s l ls
    go (shape.Number v) = refl
    go (shape.Word t) = ap (λ y. if is_reserved t then Stuck (l ∷ ls) else y)
        (alike_named n whole whole' w (record { text = t; place = l.place }) ls (omega arith))
    go (shape.Mark m) = grind (arith, alike_operand_mark)

alike_further : (n : ℕ) (whole whole' : ℕ → Reader Expression) (again again' : Expression → Reader Expression)
    → ((op : Alu) → Shrinks (whole (level_of op + 1)))
    → ((m : ℕ) → Alike n (whole m) (whole' m)) → ((e : Expression) → Alike n (again e) (again' e))
    → (min : ℕ) (left : Expression) (o : Option Alu) (l : Lexeme) (ls : List Lexeme) → length ls < n
    → further whole again min left o l ls ≡ further whole' again' min left o l ls
unfolding further
alike_further n whole whole' again again' s w a min left o l ls lt = grind (arith, bind_alike)

alike_operators : (n : ℕ) (whole whole' : ℕ → Reader Expression) (again again' : Expression
    → Reader Expression) → ((op : Alu) → Shrinks (whole (level_of op + 1)))
    → ((m : ℕ) → Alike n (whole m) (whole' m)) → ((e : Expression) → Alike n (again e) (again' e))
    → (min : ℕ) (left : Expression) → Alike (suc n) (operators whole again min left)
    (operators whole' again' min left)
unfolding operators
alike_operators n whole whole' again again' s w a min left h lt = grind (arith, alike_further)

shrinks_operand : (k : ℕ) → Shrinks (operand_in k)
shrinks_operand k = shrinks (Spelled 8) (operand_in k) (exact_operand_in k)

shrinks_whole : (k : ℕ) (op : Alu) → Shrinks (λ x. operand_in k x |> operators_in k (level_of op + 1))
unfolding expression_in
shrinks_whole k op = let h : level_of op ≤ 7 = level-bound op in shrinks (Spelled (level_of op + 1))
    (expression_in k (level_of op + 1)) (exact_expression k (level_of op + 1) (omega arith))

mutual
  unfolding operand_in operators_in

  steady_operand : (k : ℕ) → Alike k (operand_in (suc k)) (operand_in k)
  steady_operand zero x lt = absurd (omega arith)
  steady_operand (suc k) x lt =
      alike_operand k (operand_in (suc k)) (operand_in k) (λ r. operand_in (suc k) r |> operators_in (suc k)
      0) (λ r. operand_in k r |> operators_in k 0)
      (steady_operand k)
      (bind_alike k (operand_in (suc k)) (operand_in k) (operators_in (suc k) 0) (operators_in k 0)
      (shrinks_operand (suc k)) (steady_operand k) (steady_operators k 0)) x lt

  steady_operators : (k min : ℕ) (left : Expression) → Alike k (operators_in (suc k) min left)
      (operators_in k min left)
  steady_operators zero min left x lt = absurd (omega arith)
  steady_operators (suc k) min left x lt =
      alike_operators k (λ n r. operand_in (suc k) r |> operators_in (suc k) n)
      (λ n r. operand_in k r |> operators_in k n)
      (λ e. operators_in (suc k) min e) (λ e. operators_in k min e)
      (shrinks_whole (suc k))
      (λ m. bind_alike k (operand_in (suc k)) (operand_in k) (operators_in (suc k) m) (operators_in k m)
      (shrinks_operand (suc k)) (steady_operand k) (steady_operators k m))
      (λ e. steady_operators k min e) min left x lt

-- a bound that is high enough is as good as any
enough_operand : (d : ℕ) (x : List Lexeme) → operand_in (d + suc (length x)) x ≡ operand_at x
unfolding operand_at
enough_operand zero x = rw zero-add refl
enough_operand (suc d) x = rw suc-add (steady_operand (d + suc (length x)) x (omega arith)
    ∙ enough_operand d x)

enough_operators : (d min : ℕ) (left : Expression) (x : List Lexeme) → operators_in (d + suc (length x)) min
    left x ≡ operators_at min left x
unfolding operators_at
enough_operators zero min left x = rw zero-add refl
enough_operators (suc d) min left x =
    rw suc-add (steady_operators (d + suc (length x)) min left x (omega arith)
    ∙ enough_operators d min left x)

pub alike_operand_at : (k : ℕ) → Alike k (operand_in k) operand_at
alike_operand_at k x lt = let e : k ≡ (k - suc (length x)) + suc (length x) = omega arith in
    grind (arith, operand_in, enough_operand)

-- fuel enough for operators
pub alike_operators_at : (k min : ℕ) (left : Expression) → Alike k (operators_in k min left)
    (operators_at min left)
alike_operators_at k min left x lt = let e : k ≡ (k - suc (length x)) + suc (length x) = omega arith in
    grind (arith, operators_in, enough_operators)

-- fuel enough for an expression
pub alike_expression_at : (k min : ℕ) → Alike k (expression_in k min) (expression_at min)
unfolding expression_in expression_at
alike_expression_at k min = bind_alike k (operand_in k) operand_at (operators_in k min) (operators_at min)
    (shrinks_operand k) (alike_operand_at k) (alike_operators_at k min)

alike_whole : (k min : ℕ) → Alike k (λ r. operand_in k r |> operators_in k min) (expression_at min)
unfolding expression_in
alike_whole k min = alike_expression_at k min

-- what the readers do, with no bound
pub operand_at_is : (x : List Lexeme) → operand_at x ≡ operand operand_at (expression_at 0) x
unfolding operand_at operand_in
operand_at_is x = alike_operand (length x) (operand_in (length x)) operand_at
    (λ r. operand_in (length x) r |> operators_in (length x) 0) (expression_at 0)
    (alike_operand_at (length x)) (alike_whole (length x) 0) x (omega arith)

-- the operator reader, one operator on
pub operators_at_is : (min : ℕ) (left : Expression) (x : List Lexeme) → operators_at min left x ≡ operators
    expression_at (operators_at min) min left x
unfolding operators_at operators_in
operators_at_is min left x =
    alike_operators (length x) (λ n r. operand_in (length x) r |> operators_in (length x) n) expression_at
    (λ e. operators_in (length x) min e) (operators_at min)
    (shrinks_whole (length x)) (alike_whole (length x)) (alike_operators_at (length x) min) min left x
    (omega arith)

-- for the code: what a reader does at these lexemes
pub operand_after : (ls : List Lexeme) (l : Lexeme) (r : List Lexeme) → ls ≡ l ∷ r
    → operand_at ls ≡ operand_shape operand_at (expression_at 0) l.shape l r
unfolding operand
operand_after ls l r e = operand_at_is ls ∙ ap (operand operand_at (expression_at 0)) e

-- no operand stands at the end
pub operand_at_end : (ls : List Lexeme) → length ls ≡ 0 → operand_at ls ≡ Stuck ls
unfolding operand
operand_at_end ls e = grind (arith, operand_at_is)

-- operators stop at a right operand
pub operators_stop : (min : ℕ) (left : Expression) (ls : List Lexeme) (op : Alu) (l : Lexeme)
    (following : List Lexeme) (n : ℕ) (e : Stop)
    → ls ≡ l ∷ following → operator_at ls ≡ Some op → min ≤ n → n ≡ level_of op
    → Stops e (expression_at (n + 1) following) → Stops e (operators_at min left ls)
unfolding operators further
operators_stop min left ls op l following n e p o le eq s =
    grind (arith, expression_at, operators_at_is, operators, operators_at, le-ltb)
