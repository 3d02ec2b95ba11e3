-- The reader of expressions is exact.
use Rattle.std.specs.Prelude.{◌≡◌, ℕ, zero, suc, ◌+◌, ◌≤◌, ◌<◌, nat_lt, List, [], ◌∷◌, ◌++◌, Option, Some}
use Rattle.std.specs.Prelude.{None, Bool, true, false, refl}
use Rattle.std.proofs.Common.{sym, ◌∙◌, subst, append_assoc, append-nil, arith}
use Rattle.std.proofs.lemmas.Bool.{ltb-true, ltb-false}
use Rattle.ws_words.specs.declared.alu.Alu.{Alu}
use Rattle.src_ast.specs.declared.lexeme.Name.{Name}
use Rattle.src_ast.specs.declared.lexeme.Lexeme.{Lexeme}
use Rattle.src_ast.specs.declared.lexeme.Shape.{Shape}
use Rattle.src_ast.specs.declared.lexeme.Shape.TheVariants as shape
use Rattle.src_ast.specs.declared.lexeme.Mark.{Mark}
use Rattle.src_ast.specs.declared.lexeme.Mark.TheVariants as mark
use Rattle.src_ast.specs.declared.tree.Unary.{Unary}
use Rattle.src_ast.specs.declared.tree.Unary.TheVariants.{Flip, Not, Neg}
use Rattle.src_ast.specs.Syntax.{Expression, Number, Variable, Cell, Signed, Binary}
use Rattle.src_ast.specs.Grammar.{level_of, sign_mark, is_reserved, Is, IsName, Spelled, number, variable}
use Rattle.src_ast.specs.Grammar.{cell, round, signed, binary}
use Rattle.src_parse.specs.Expressions.{operator_in, named, operand_mark, operand_shape, operand, further}
use Rattle.src_parse.specs.Expressions.{operators, operand_in, operators_in, expression_in}
use Rattle.src_parse.specs.Reading.{Reading, Reader, Done, ◌|>◌, is_mark, expect}
use Rattle.src_parse.proofs.Exact.{Exact, exact_done_end, exact_stuck_end, exact_done, exact_stuck}
use Rattle.src_parse.proofs.Exact.{exact_shift, exact_always, exact_never, exact_bind}
use Rattle.src_parse.proofs.Tokens.{is_mark-true, operator_in-is, lexeme_with, exact_closed}

pub looser : (m n : ℕ) (ls : List Lexeme) (e : Expression) → m ≤ n → Spelled n ls e → Spelled m ls e
looser m n ls e le (number l v h) = number l v h
looser m n ls e le (variable l x h) = variable l x h
looser m n ls e le (cell l first last js a i eq h f s z) = cell l first last js a i eq h f s z
looser m n ls e le (round first last js eq f s z) = round first last js eq f s z
looser m n ls e le (signed l js s i lt h k) = signed l js s i (omega arith) h k
looser m n ls e le (binary l js rs op a b lt eq h p q) = binary l js rs op a b (omega arith) eq h p q

-- levels go to 7
pub level-bound : (op : Alu) → level_of op ≤ 7
level-bound op = grind arith

-- an operator in front is of a level below the bound
abbrev pub OpBelow : ℕ → Option Alu → Type 0
OpBelow bound None = Unit {0}
OpBelow bound (Some op) = level_of op < bound

-- no operator of this level or tighter is in front
abbrev pub Below : ℕ → List Lexeme → Type 0
Below bound [] = Unit {0}
Below bound (l ∷ ls) = OpBelow bound (operator_in l.shape)

op_below_8 : (o : Option Alu) → OpBelow 8 o
op_below_8 o = grind (arith, level-bound)

-- no operator is of level 8
pub below_8 : (ls : List Lexeme) → Below 8 ls
below_8 ls = grind (arith, op_below_8)

op_below_9 : (o : Option Alu) → OpBelow 9 o
op_below_9 o = grind (arith, level-bound)

-- nor of level 9
pub below_9 : (ls : List Lexeme) → Below 9 ls
below_9 ls = grind (arith, op_below_9)

-- a word that is no reserved one, as a name
abbrev pub name_at : List ℕ → Lexeme → Name
name_at w l = record { text = w; place = l.place }

spelled_nought : (n : ℕ) → Spelled n (lexeme_with (shape.Number 0) ∷ []) (Number 0)
spelled_nought n = number (lexeme_with (shape.Number 0)) 0 refl

-- a name, with its index if it has one
pub exact_named : (n : ℕ) (whole : Reader Expression) → ((x : List Lexeme) → Exact (Spelled 0) whole x)
    → (l : Lexeme) (x : Name) → IsName x l → (ls : List Lexeme) → Exact (λ ws e. Spelled n (l ∷ ws) e)
    (named whole x) ls
unfolding named
exact_named n whole g l x h [] = exact_done_end (λ ws e. Spelled n (l ∷ ws) e) (named whole x) (Variable x)
    refl (variable l x h)
exact_named n whole g l x h (first ∷ ls) = go (is_mark mark.LSquare first.shape) refl
  where
    go : (b : Bool) → is_mark mark.LSquare first.shape ≡ b → Exact (λ ws e. Spelled n (l ∷ ws) e)
        (named whole x) (first ∷ ls)
    go true e =
        exact_shift (λ ws e. Spelled n (l ∷ ws) e) (λ ws e. Spelled n (l ∷ first ∷ ws) e) (named whole x)
        (λ r. whole r |> λ i rest. (expect mark.RSquare rest |> λ _ rest. Done (Cell x i) rest)) first ls
        (λ r. rw e refl) (λ ws a k. k)
        (exact_closed mark.RSquare (λ i. Cell x i) (Spelled 0) (λ ws e. Spelled n (l ∷ first ∷ ws) e) whole ls
        (λ us i last s z. cell l first last us x i refl h (is_mark-true mark.LSquare first.shape e) s z)
        (g ls))
    go false e = exact_done (λ ws e. Spelled n (l ∷ ws) e) (named whole x) (Variable x) first ls
        (λ r. rw e refl) (variable l x h)

exact_sign : (s : Unary) (part : Reader Expression) → ((x : List Lexeme) → Exact (Spelled 8) part x)
    → (l : Lexeme) → Is (sign_mark s) l → (ls : List Lexeme) → Exact (λ ws e. Spelled 8 (l ∷ ws) e)
    (λ r. part r |> λ e rest. Done (Signed s e) rest) ls
exact_sign s part g l h ls =
    exact_bind (Spelled 8) (λ e vs b. (vs ≡ []) × (b ≡ Signed s e)) (λ ws e. Spelled 8 (l ∷ ws) e) part
    (λ e rest. Done (Signed s e) rest) ls
    (λ us vs e b p q. subst (λ v. Spelled 8 (l ∷ (us ++ v)) b) (sym q.0)
    (subst (λ b. Spelled 8 (l ∷ (us ++ [])) b) (sym q.1)
    (rw append-nil (signed {n = 8} l us s e (omega arith) h p))))
    (λ us e p. ([], Signed s e, rw append-nil (signed {n = 8} l us s e (omega arith) h p)))
    (g ls)
    (grind (arith, exact_always))

exact_operand_mark : (part whole : Reader Expression) → ((x : List Lexeme) → Exact (Spelled 8) part x)
    → ((x : List Lexeme) → Exact (Spelled 0) whole x)
    → (m : Mark) (l : Lexeme) → Is m l → (P : Reader Expression)
    → ((x : List Lexeme) → P (l ∷ x) ≡ operand_mark part whole m l x)
    → (ls : List Lexeme) → Exact (Spelled 8) P (l ∷ ls)
unfolding operand_mark
exact_operand_mark part whole p w mark.LParen l h P e ls =
    exact_shift (Spelled 8) (λ ws e. Spelled 8 (l ∷ ws) e) P (λ r. whole r |> λ i rest.
    (expect mark.RParen rest |> λ _ rest. Done i rest)) l ls e (λ ws a k. k)
    (exact_closed mark.RParen (λ i. i) (Spelled 0) (λ ws e. Spelled 8 (l ∷ ws) e) whole ls
    (λ us i last s z. round l last us refl h s z) (w ls))
exact_operand_mark part whole p w mark.Tilde l h P e ls =
    exact_shift (Spelled 8) (λ ws e. Spelled 8 (l ∷ ws) e) P (λ r. part r |> λ i rest.
    Done (Signed Flip i) rest) l ls e (λ ws a k. k) (exact_sign Flip part p l h ls)
exact_operand_mark part whole p w mark.Bang l h P e ls =
    exact_shift (Spelled 8) (λ ws e. Spelled 8 (l ∷ ws) e) P (λ r. part r |> λ i rest.
    Done (Signed Not i) rest) l ls e (λ ws a k. k) (exact_sign Not part p l h ls)
exact_operand_mark part whole p w mark.Minus l h P e ls =
    exact_shift (Spelled 8) (λ ws e. Spelled 8 (l ∷ ws) e) P (λ r. part r |> λ i rest.
    Done (Signed Neg i) rest) l ls e (λ ws a k. k) (exact_sign Neg part p l h ls)
exact_operand_mark part whole p w _ l h P e ls = exact_stuck (Spelled 8) P (lexeme_with (shape.Number 0) ∷ [])
    (Number 0) l ls e (spelled_nought 8)

exact_operand_shape : (part whole : Reader Expression) → ((x : List Lexeme) → Exact (Spelled 8) part x)
    → ((x : List Lexeme) → Exact (Spelled 0) whole x)
    → (s : Shape) (l : Lexeme) → l.shape ≡ s → (P : Reader Expression)
    → ((x : List Lexeme) → P (l ∷ x) ≡ operand_shape part whole s l x)
    → (ls : List Lexeme) → Exact (Spelled 8) P (l ∷ ls)
unfolding operand_shape
exact_operand_shape part whole p w (shape.Number v) l h P e ls =
    exact_shift (Spelled 8) (λ ws a. (ws ≡ []) × (a ≡ Number v)) P (λ r. Done (Number v) r) l ls e
    (λ ws a k. subst (λ u. Spelled 8 (l ∷ u) a) (sym k.0)
    (subst (λ a. Spelled 8 (l ∷ []) a) (sym k.1) (number l v h)))
    (grind (arith, exact_always))
exact_operand_shape part whole p w (shape.Word t) l h P e ls = go (is_reserved t) refl
  where
    go : (b : Bool) → is_reserved t ≡ b → Exact (Spelled 8) P (l ∷ ls)
    go true r = exact_stuck (Spelled 8) P (lexeme_with (shape.Number 0) ∷ []) (Number 0) l ls
        (λ x. e x ∙ rw r refl) (spelled_nought 8)
    go false r =
        exact_shift (Spelled 8) (λ ws e. Spelled 8 (l ∷ ws) e) P (named whole (name_at t l)) l ls
        (λ x. e x ∙ rw r refl) (λ ws a k. k)
        (exact_named 8 whole w l (name_at t l) (record { word = h; place = refl; free = r }) ls)
exact_operand_shape part whole p w (shape.Mark m) l h P e ls = exact_operand_mark part whole p w m l h P e ls

exact_operand : (part whole : Reader Expression) → ((x : List Lexeme) → Exact (Spelled 8) part x)
    → ((x : List Lexeme) → Exact (Spelled 0) whole x)
    → (ls : List Lexeme) → Exact (Spelled 8) (operand part whole) ls
unfolding operand
exact_operand part whole p w [] = exact_stuck_end (Spelled 8) (operand part whole)
    (lexeme_with (shape.Number 0) ∷ []) (Number 0) refl (spelled_nought 8)
exact_operand part whole p w (l ∷ ls) = exact_operand_shape part whole p w l.shape l refl (operand part whole)
    (λ x. refl) ls

-- what operators and operands after an operand of level t make of it
abbrev pub Behind : ℕ → ℕ → Expression → List Lexeme → Expression → Type 0
Behind t min left vs e = (us : List Lexeme) → Spelled t us left → Spelled min (us ++ vs) e

-- an operand with nothing after it
pub after_nothing : (t min : ℕ) (left : Expression) → min ≤ t → Behind t min left [] left
after_nothing t min left le us h = rw append-nil (looser min t us left le h)

exact_expression_of : (P : Reader Expression) (Q : ℕ → Expression → Reader Expression)
    → ((x : List Lexeme) → Exact (Spelled 8) P x)
    → ((min : ℕ) (left : Expression) (x : List Lexeme) → min ≤ 8 → Exact (Behind 8 min left) (Q min left) x)
    → (min : ℕ) → min ≤ 8 → (ls : List Lexeme) → Exact (Spelled min) (λ r. P r |> Q min) ls
exact_expression_of P Q p q min le ls =
    exact_bind (Spelled 8) (Behind 8 min) (Spelled min) P (Q min) ls (λ us vs a b h k. k us h)
    (λ us a h. ([], a, after_nothing 8 min a le us h))
    (p ls) (λ a rest _. q min a rest le)

bind_done : {A B : Type 0} (x : Reading A) (f : A → Reader B) (b : B) (r : List Lexeme) → (x |> f) ≡ Done b r
    → (a : A) × (q : List Lexeme) × (x ≡ Done a q) × (f a q ≡ Done b r)
bind_done x f b r e = grind arith

-- After an expression stands no operator of its level or a tighter one.
further_below : (k min : ℕ) (left : Expression) (o : Option Alu) (l : Lexeme) → operator_in l.shape ≡ o
    → ((e left : Expression) (x r : List Lexeme) → operators_in k min left x ≡ Done e r → Below min r)
    → (ls : List Lexeme) (e : Expression) (r : List Lexeme)
    → further (λ n r. operand_in k r |> operators_in k n) (λ e. operators_in k min e) min left o l ls
    ≡ Done e r → Below min r
unfolding further
further_below k min left None l h again ls e r p = grind arith
further_below k min left (Some op) l h again ls e r p = go (nat_lt (level_of op) min) refl
  where
    go : (b : Bool) → nat_lt (level_of op) min ≡ b → Below min r
    go true t = grind (arith, ltb-true)
    go false t =
        let q : (operand_in k ls |> operators_in k (level_of op + 1)) |>
        (λ right. operators_in k min (Binary op left right)) ≡ Done e r = sym (rw t refl) ∙ p in
        let d = bind_done (operand_in k ls |> operators_in k (level_of op + 1))
        (λ right. operators_in k min (Binary op left right)) e r q in
        again e (Binary op left d.0) d.1 r d.3

operators_below : (k min : ℕ) (e left : Expression) (ls r : List Lexeme)
    → operators_in k min left ls ≡ Done e r → Below min r
unfolding operators operators_in
operators_below (suc k) min e left (l ∷ ls) r p = further_below k min left (operator_in l.shape) l refl
    (operators_below k min) ls e r p
operators_below k min e left ls r p = grind arith

expression_below : (k min : ℕ) (ls : List Lexeme) (e : Expression) (r : List Lexeme)
    → (operand_in k ls |> operators_in k min) ≡ Done e r → Below min r
expression_below k min ls e r p = grind (arith, bind_done, operand_in, operators_in, operators_below)

exact_further : (k min t : ℕ) (left : Expression) → min ≤ t → t ≤ 8 → (o : Option Alu) (l : Lexeme)
    → operator_in l.shape ≡ o → OpBelow (t + 1) o
    → ((n : ℕ) → n ≤ 8 → (x : List Lexeme) → Exact (Spelled n) (λ r. operand_in k r |> operators_in k n) x)
    → ((t : ℕ) (left : Expression) (x : List Lexeme) → min ≤ t → t ≤ 8 → Below (t + 1) x
    → Exact (Behind t min left) (operators_in k min left) x)
    → (P : Reader Expression)
    → ((x : List Lexeme) → P (l ∷ x) ≡ further (λ n r. operand_in k r |> operators_in k n)
    (λ e. operators_in k min e) min left o l x)
    → (ls : List Lexeme) → Exact (Behind t min left) P (l ∷ ls)
unfolding further
exact_further k min t left le le8 None l h b whole again P e ls = exact_done (Behind t min left) P left l ls e
    (after_nothing t min left le)
exact_further k min t left le le8 (Some op) l h b whole again P e ls = go (nat_lt (level_of op) min) refl
  where
    go : (test : Bool) → nat_lt (level_of op) min ≡ test → Exact (Behind t min left) P (l ∷ ls)
    go true q = exact_done (Behind t min left) P left l ls (λ x. e x ∙ rw q refl)
        (after_nothing t min left le)
    go false q =
        let ge : min ≤ level_of op = ltb-false (level_of op) min q in
        let up : level_of op ≤ t = omega arith in
        let seven : level_of op ≤ 7 = level-bound op in
        let join : (us : List Lexeme) (right : Expression) → Spelled (level_of op + 1) us right
        → (ps : List Lexeme) → Spelled t ps left → Spelled (level_of op) (ps ++ l ∷ us) (Binary op left right)
        = λ us right hr ps hl. binary {n = level_of op} l ps us op left right (omega arith) refl
        (operator_in-is l.shape op h) (looser (level_of op) t ps left up hl) hr in
        exact_shift (Behind t min left) (λ ws a. Behind t min left (l ∷ ws) a) P
        (λ x. (operand_in k x |> operators_in k (level_of op + 1)) |> λ right.
        operators_in k min (Binary op left right))
        l ls (λ x. e x ∙ rw q refl) (λ ws a k. k)
        (exact_bind (Spelled (level_of op + 1)) (λ right. Behind (level_of op) min (Binary op left right))
        (λ ws a. Behind t min left (l ∷ ws) a)
        (λ x. operand_in k x |> operators_in k (level_of op + 1))
        (λ right. operators_in k min (Binary op left right)) ls
        (λ us vs right e hr hb ps hl. subst (λ w. Spelled min w e) (append_assoc ps (l ∷ us) vs)
        (hb (ps ++ l ∷ us) (join us right hr ps hl)))
        (λ us right hr. (
          [],
          Binary op left right,
          λ ps hl. rw append-nil (looser min (level_of op) (ps ++ l ∷ us) (Binary op left right) ge
              (join us right hr ps hl)),
        ))
        (whole (level_of op + 1) (omega arith) ls)
        (λ right rest p. again (level_of op) (Binary op left right) rest ge (omega arith)
        (expression_below k (level_of op + 1) ls right rest p)))

mutual
  unfolding operand_in operators_in operators

  -- an operand
  pub exact_operand_in : (k : ℕ) (ls : List Lexeme) → Exact (Spelled 8) (operand_in k) ls
  exact_operand_in zero ls = exact_never (Spelled 8) (operand_in zero) (lexeme_with (shape.Number 0) ∷ [])
      (Number 0) ls (λ x. refl) (spelled_nought 8)
  exact_operand_in (suc k) ls =
      exact_operand (operand_in k) (λ r. operand_in k r |> operators_in k 0) (exact_operand_in k)
      (exact_expression_of (operand_in k) (operators_in k) (exact_operand_in k)
      (λ min left x le. exact_operators_in k min 8 left le (omega arith) x (below_9 x)) 0 (omega arith))
      ls

  -- operators after an operand
  pub exact_operators_in : (k min t : ℕ) (left : Expression) → min ≤ t → t ≤ 8 → (ls : List Lexeme)
      → Below (t + 1) ls → Exact (Behind t min left) (operators_in k min left) ls
  exact_operators_in zero min t left le le8 ls b = exact_never (Behind t min left)
      (operators_in zero min left) [] left ls (λ x. refl) (after_nothing t min left le)
  exact_operators_in (suc k) min t left le le8 [] b = exact_done_end (Behind t min left)
      (operators_in (suc k) min left) left refl (after_nothing t min left le)
  exact_operators_in (suc k) min t left le le8 (l ∷ ls) b =
      exact_further k min t left le le8 (operator_in l.shape) l refl b
      (exact_expression_of (operand_in k) (operators_in k) (exact_operand_in k)
      (λ min left x le. exact_operators_in k min 8 left le (omega arith) x (below_9 x)))
      (λ t left x le le8 b. exact_operators_in k min t left le le8 x b)
      (operators_in (suc k) min left) (λ x. refl) ls

-- an expression
pub exact_expression : (k min : ℕ) → min ≤ 8 → (ls : List Lexeme) → Exact (Spelled min) (expression_in k min)
    ls
unfolding expression_in
exact_expression k min le ls =
    exact_expression_of (operand_in k) (operators_in k) (exact_operand_in k)
    (λ min left x le. exact_operators_in k min 8 left le (omega arith) x (below_9 x)) min le ls
