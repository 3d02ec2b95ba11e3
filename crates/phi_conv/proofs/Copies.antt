-- An arm on copies of its variables: after it the copies have what the variables would have.
use Rattle.std.proofs.Common.{ℕ, ◌+◌, ◌≡◌, ◌<◌, ◌≤◌, ◌&&◌, Bool, true, if◌then◌else◌}
use Rattle.std.proofs.Common.{List, [], ◌∷◌, length, get_or, set, refl, sym, ap, ◌∙◌, subst, inl, inr, arith}
use Rattle.std.specs.List.{AllByRecursion}
use Rattle.std.proofs.lemmas.Bool.{cases_eq}
use Rattle.std.proofs.lemmas.List.{get_or-set_same, get_or-set_other, length-set}
use Rattle.ws_words.specs.Operators.{applied}
use Rattle.ws_words.specs.Outside.{ProcState, Outside, write}
use Rattle.cfg_core.specs.Graph.{Term, Cell, Flip, Not, Neg, Binary, Op, Assign, Store, Print}
use Rattle.cfg_core.specs.Graph.{Read, Give, Take, Choose, Tick, TickBy, Graph}
use Rattle.cfg_core.specs.Rules.{TermIn, OpIn}
use Rattle.cfg_core.specs.Walk.{value}
use Rattle.live_vars.specs.Live.{Mentions}
use Rattle.phi_conv.specs.Short.{is_bare, all_light}
use Rattle.phi_conv.specs.Joined.{turns_of, added, copied, renamed, arm, written}
use Rattle.phi_conv.proofs.Picked.{added_here, added_other}
use Rattle.phi_conv.proofs.Light.{after}
use Rattle.ws_words.proofs.Bools.{and_left as left_true, and_right as right_true}
use Rattle.live_vars.proofs.Needed.{Needs}

-- the variables of which P holds have in the first list what their copies have in the second
abbrev pub Copies : ℕ → ℕ → List ℕ → (ℕ → Type 0) → List ℕ → List ℕ → Type 0
Copies v base done P vs ws = (x : ℕ) → x < v → P x → get_or vs x 0 ≡ get_or ws (copied base done x) 0

-- a variable that an arm wrote stands in its copy
pub copied_here : (base x : ℕ) (done : List ℕ) → copied base (added done x) x ≡ base + x
copied_here base x done = ap (λ b. if b then base + x else x) (added_here done x)

-- another stands where it stood
pub copied_other : (base x y : ℕ) (done : List ℕ) → (y ≡ x → ⊥) → copied base (added done x) y ≡ copied base
    done y
copied_other base x y done ne = ap (λ b. if b then base + y else y) (added_other done x y ne)

-- one of two numbers that differ from a third differs from it
pub if_apart : (b : Bool) (m n z : ℕ) → (m ≡ z → ⊥) → (n ≡ z → ⊥) → (if b then m else n) ≡ z → ⊥
if_apart b m n z h i e = grind arith

module _ (g : Graph) (v base : ℕ) (past : v ≤ base) where
  -- no other variable stands in the copy of x
  pub copied_apart : (x y : ℕ) (done : List ℕ) → y < v → (y ≡ x → ⊥) → copied base done y ≡ base + x → ⊥
  copied_apart x y done lt ne = grind (arith, if_apart)

  -- a renamed term has the value that the term has
  pub value_copied : (done vs ws : List ℕ) (cells : List (List ℕ)) (t : Term) → TermIn (length g.arrays) v t
      → Copies v base done (Mentions t) vs ws → value t vs cells ≡ value (renamed base done t) ws cells
  value_copied done vs ws cells (Cell a t) i h = grind (arith, value_copied done vs ws cells t i.1 h)
  value_copied done vs ws cells (Flip t) i h = grind (arith, value_copied done vs ws cells t i h)
  value_copied done vs ws cells (Not t) i h = grind (arith, value_copied done vs ws cells t i h)
  value_copied done vs ws cells (Neg t) i h = grind (arith, value_copied done vs ws cells t i h)
  value_copied done vs ws cells (Binary op a b) i h =
      ap (λ n. applied op n (value b vs cells))
      (value_copied done vs ws cells a i.0 (λ x lt m. h x lt (inl m)))
      ∙ ap (λ n. applied op (value (renamed base done a) ws cells) n)
      (value_copied done vs ws cells b i.1 (λ x lt m. h x lt (inr m)))
  value_copied done vs ws cells t i h = grind arith

  -- the variable x is written, and its copy
  written_copies : (done vs ws : List ℕ) (P : ℕ → Type 0) (x a b : ℕ) → x < v → length vs ≡ v
      → base + v ≤ length ws → a ≡ b → ((y : ℕ) → y < v → (y ≡ x → ⊥) → P y
      → get_or vs y 0 ≡ get_or ws (copied base done y) 0) → Copies v base (added done x) P (set vs x a)
      (set ws (base + x) b)
  written_copies done vs ws P x a b lx lv lw e others y ly p = elim (cases_eq y x) [
    | inl same ↦
        subst (λ n. get_or (set vs x a) n 0 ≡ get_or (set ws (base + x) b) (copied base (added done x) n) 0)
        (sym same)
        (get_or-set_same vs x a 0 (omega (arith, lx, lv)) ∙ e
        ∙ sym (get_or-set_same ws (base + x) b 0 (omega (arith, lx, lw)))
        ∙ ap (λ n. get_or (set ws (base + x) b) n 0) (sym (copied_here base x done)))
    | inr ne ↦ get_or-set_other vs x y a 0 ne ∙ others y ly ne p
        ∙ sym (get_or-set_other ws (base + x) (copied base done y) b 0 (copied_apart x y done ly ne))
        ∙ ap (λ n. get_or (set ws (base + x) b) n 0) (sym (copied_other base x y done ne))
  ]

  -- after an arm on copies the copies have what the variables would have
  pub arm_copies : (ops : List Op) (done : List ℕ) (P : ℕ → Type 0) (s r : ProcState)
      → AllByRecursion (OpIn (length g.arrays) v) ops → all_light ops ≡ true → s.out ≡ r.out
      → length s.vars ≡ v → base + v ≤ length r.vars → Copies v base done (Needs ops P) s.vars r.vars
      → Copies v base (written done ops) P (after ops s).vars (after (arm base done ops) r).vars
  arm_copies [] done P s r i l o ls lr h = h
  arm_copies (Assign x t ∷ ops) done P s r i l o ls lr h =
      let e = value_copied done s.vars r.vars s.out.cells t i.0.1 (λ y lt m. h y lt (inl m))
      ∙ ap (λ (p : Outside). value (renamed base done t) r.vars p.cells) o in
      arm_copies ops (added done x) P (write s x (value t s.vars s.out.cells))
      (write r (base + x) (value (renamed base done t) r.vars r.out.cells)) i.1
      (right_true (is_bare t) (all_light ops) l) o (length-set s.vars x _ ∙ ls)
      (subst (λ n. base + v ≤ n) (sym (length-set r.vars (base + x) _)) lr)
      (written_copies done s.vars r.vars (Needs ops P) x _ _ i.0.0 ls lr e
      (λ y ly ne p. h y ly (inr (ne, p))))
  arm_copies (Tick n ∷ ops) done P s r i l o ls lr h = arm_copies ops done P s r i.1 l o ls lr
      (λ y ly p. h y ly (inr ((λ w. w), p)))
  arm_copies (Store a t u ∷ ops) done P s r i l o ls lr h = absurd (cc)
  arm_copies (Print t ∷ ops) done P s r i l o ls lr h = absurd (cc)
  arm_copies (Read x ∷ ops) done P s r i l o ls lr h = absurd (cc)
  arm_copies (Give p x ∷ ops) done P s r i l o ls lr h = absurd (cc)
  arm_copies (Take p t ∷ ops) done P s r i l o ls lr h = absurd (cc)
  arm_copies (Choose x t a b ∷ ops) done P s r i l o ls lr h = absurd (cc)
  arm_copies (TickBy t n m ∷ ops) done P s r i l o ls lr h = absurd (cc)

  -- a variable that is no copy of this arm's keeps its value
  pub arm_keeps : (ops : List Op) (done : List ℕ) (r : ProcState) (y : ℕ)
      → AllByRecursion (OpIn (length g.arrays) v) ops → ((x : ℕ) → x < v → y ≡ base + x → ⊥)
      → get_or (after (arm base done ops) r).vars y 0 ≡ get_or r.vars y 0
  arm_keeps [] done r y i far = refl
  arm_keeps (Assign x t ∷ ops) done r y i far = arm_keeps ops (added done x) (write r (base + x) _) y i.1 far
      ∙ get_or-set_other r.vars (base + x) y _ 0 (far x i.0.0)
  arm_keeps (Tick n ∷ ops) done r y i far = arm_keeps ops done r y i.1 far
  arm_keeps (Store a t u ∷ ops) done r y i far = arm_keeps ops done r y i.1 far
  arm_keeps (Print t ∷ ops) done r y i far = arm_keeps ops done r y i.1 far
  arm_keeps (Read x ∷ ops) done r y i far = arm_keeps ops done r y i.1 far
  arm_keeps (Give p x ∷ ops) done r y i far = arm_keeps ops done r y i.1 far
  arm_keeps (Take p t ∷ ops) done r y i far = arm_keeps ops done r y i.1 far
  arm_keeps (Choose x t a b ∷ ops) done r y i far = arm_keeps ops done r y i.1 far
  arm_keeps (TickBy t n m ∷ ops) done r y i far = arm_keeps ops done r y i.1 far

-- assignments leave what is outside
pub after_out : (ops : List Op) (s : ProcState) → (after ops s).out ≡ s.out
after_out [] s = refl
after_out (Assign x t ∷ ops) s = after_out ops (write s x (value t s.vars s.out.cells))
after_out (Tick n ∷ ops) s = after_out ops s
after_out (Store a t u ∷ ops) s = after_out ops s
after_out (Print t ∷ ops) s = after_out ops s
after_out (Read x ∷ ops) s = after_out ops s
after_out (Give p x ∷ ops) s = after_out ops s
after_out (Take p t ∷ ops) s = after_out ops s
after_out (Choose x t a b ∷ ops) s = after_out ops s
after_out (TickBy t n m ∷ ops) s = after_out ops s

-- there are as many variables as before
pub after_length : (ops : List Op) (s : ProcState) → length (after ops s).vars ≡ length s.vars
after_length [] s = refl
after_length (Assign x t ∷ ops) s = grind (
  arith,
  s.vars,
  length-set,
  after_length ops (write s x (value t s.vars s.out.cells)),
)
after_length (Tick n ∷ ops) s = after_length ops s
after_length (Store a t u ∷ ops) s = after_length ops s
after_length (Print t ∷ ops) s = after_length ops s
after_length (Read x ∷ ops) s = after_length ops s
after_length (Give p x ∷ ops) s = after_length ops s
after_length (Take p t ∷ ops) s = after_length ops s
after_length (Choose x t a b ∷ ops) s = after_length ops s
after_length (TickBy t n m ∷ ops) s = after_length ops s

bare_renamed : (base : ℕ) (done : List ℕ) (t : Term) → is_bare (renamed base done t) ≡ is_bare t
bare_renamed base done (Flip t) = bare_renamed base done t
bare_renamed base done (Not t) = bare_renamed base done t
bare_renamed base done (Neg t) = bare_renamed base done t
bare_renamed base done (Binary op a b) = grind (arith, bare_renamed base done a, bare_renamed base done b)
bare_renamed base done t = grind arith

both_true : (a b : Bool) → a ≡ true → b ≡ true → (a && b) ≡ true
both_true a b e f = grind arith

-- an arm on copies only assigns
pub arm_light : (base : ℕ) (done : List ℕ) (ops : List Op) → all_light ops ≡ true
    → all_light (arm base done ops) ≡ true
arm_light base done (Assign x t ∷ ops) e = grind (
  arith,
  both_true,
  bare_renamed,
  left_true,
  right_true,
  arm_light base (added done x) ops (right_true (is_bare t) (all_light ops) e),
)
arm_light base done (Tick n ∷ ops) e = arm_light base done ops e
arm_light base done ops e = grind arith

-- it takes no turn
pub arm_no_turns : (base : ℕ) (done : List ℕ) (ops : List Op) → turns_of (arm base done ops) ≡ 0
arm_no_turns base done [] = refl
arm_no_turns base done (Assign x t ∷ ops) = arm_no_turns base (added done x) ops
arm_no_turns base done (Tick n ∷ ops) = arm_no_turns base done ops
arm_no_turns base done (Store a t u ∷ ops) = arm_no_turns base done ops
arm_no_turns base done (Print t ∷ ops) = arm_no_turns base done ops
arm_no_turns base done (Read x ∷ ops) = arm_no_turns base done ops
arm_no_turns base done (Give p x ∷ ops) = arm_no_turns base done ops
arm_no_turns base done (Take p t ∷ ops) = arm_no_turns base done ops
arm_no_turns base done (Choose x t a b ∷ ops) = arm_no_turns base done ops
arm_no_turns base done (TickBy t n m ∷ ops) = arm_no_turns base done ops
