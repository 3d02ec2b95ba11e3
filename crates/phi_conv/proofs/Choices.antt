-- Choices after both arms: each variable gets what its copy in the arm of the test has.
use Rattle.std.proofs.Common.{ℕ, ◌+◌, ◌≡◌, ◌<◌, ◌≤◌, ◌==◌, Bool, true, false, if◌then◌else◌, List, [], ◌∷◌}
use Rattle.std.proofs.Common.{length, map, get_or, set, refl, sym, ap, ◌∙◌, subst, inl, inr, arith}
use Rattle.std.specs.List.{AllByRecursion}
use Rattle.std.proofs.lemmas.Bool.{cases_eq}
use Rattle.std.proofs.lemmas.List.{get_or-set_same, get_or-set_other, length-set}
use Rattle.ws_words.specs.Outside.{ProcState, write, with_acts}
use Rattle.cfg_core.specs.Graph.{Term, Var, Op, Choose}
use Rattle.cfg_core.specs.Walk.{value, Done, and_then, run_op, run_ops}
use Rattle.phi_conv.specs.Short.{is_bare}
use Rattle.phi_conv.specs.Joined.{is_among, copied}
use Rattle.phi_conv.proofs.Light.{bare_state}
use Rattle.cfg_core.proofs.Quiet.{no_acts}
use Rattle.phi_conv.proofs.Copies.{if_apart}
use Rattle.ws_words.specs.Items.{In}

-- a choice for a variable, between its copies in two arms
abbrev pub choice_of : Term → ℕ → List ℕ → ℕ → List ℕ → ℕ → Op
choice_of test base done base' done' x = Choose x test (Var (copied base done x)) (Var (copied base' done' x))

-- what choices do, where the test takes this arm
abbrev pub chosen : ℕ → List ℕ → List ℕ → List ℕ → List ℕ
chosen base done [] ws = ws
chosen base done (x ∷ xs) ws = chosen base done xs (set ws x (get_or ws (copied base done x) 0))

-- the test doesn't read x
abbrev pub Steady : Term → List (List ℕ) → ℕ → Type 0
Steady test cells x = (ws : List ℕ) (w : ℕ) → value test (set ws x w) cells ≡ value test ws cells

-- one of the two arms
abbrev pub by_zero : {A : Type 0} → Bool → A → A → A
by_zero true a b = b
by_zero false a b = a

one_choice : (test : Term) (x a b : ℕ) (r : ProcState) (k : ℕ) (z : Bool) → is_bare test ≡ true
    → (value test r.vars r.out.cells == 0) ≡ z → run_op (Choose x test (Var a) (Var b)) r k
    ≡ Done (write r x (get_or r.vars (by_zero z a b) 0)) k
one_choice test x a b r k z bare e =
    ap (λ (q : ProcState). if value test r.vars r.out.cells == 0 then Done
    (write (with_acts q []) x (get_or q.vars b 0)) k
    else Done (write (with_acts q []) x (get_or q.vars a 0)) k) (bare_state test r bare)
    ∙ ap (λ (q : ProcState). if value test r.vars r.out.cells == 0 then Done (write q x (get_or r.vars b 0)) k
    else Done (write q x (get_or r.vars a 0)) k) (no_acts r)
    ∙ ap (λ c. if c then Done (write r x (get_or r.vars b 0)) k else Done (write r x (get_or r.vars a 0)) k) e
    ∙ decided z
  where
    decided : (c : Bool) → (if c then Done (write r x (get_or r.vars b 0)) k
        else Done (write r x (get_or r.vars a 0)) k) ≡ Done (write r x (get_or r.vars (by_zero c a b) 0)) k
    decided c = grind arith

zero_copied : (z : Bool) (base base' : ℕ) (done done' : List ℕ) (x : ℕ)
    → by_zero z (copied base done x) (copied base' done' x) ≡ copied (by_zero z base base')
    (by_zero z done done') x
zero_copied z base base' done done' x = grind arith

-- a state with other variables
abbrev pub with_vars : ProcState → List ℕ → ProcState
with_vars r ws = record { vars = ws; out = r.out }

module _ (test : Term) (base base' : ℕ) (done done' : List ℕ) (bare : is_bare test ≡ true) where
  -- a row of choices gives what the arm of the test has
  pub choices_run : (xs : List ℕ) (r : ProcState) (k : ℕ) (z : Bool)
      → AllByRecursion (Steady test r.out.cells) xs → (value test r.vars r.out.cells == 0) ≡ z →
      run_ops (map (choice_of test base done base' done') xs) r k ≡ Done
      (with_vars r (chosen (by_zero z base base') (by_zero z done done') xs r.vars)) k
  choices_run [] r k z h e = refl
  choices_run (x ∷ xs) r k z h e =
      let w = get_or r.vars (by_zero z (copied base done x) (copied base' done' x)) 0 in
      ap (λ o. and_then o (run_ops (map (choice_of test base done base' done') xs)))
      (one_choice test x (copied base done x) (copied base' done' x) r k z bare e)
      ∙ choices_run xs (write r x w) k z h.1 (ap (λ n. n == 0) (h.0 r.vars w) ∙ e)
      ∙ ap (λ n.
      Done (with_vars r (chosen (by_zero z base base') (by_zero z done done') xs
      (set r.vars x (get_or r.vars n 0)))) k) (zero_copied z base base' done done' x)

module _ (v base : ℕ) (past : v ≤ base) (done : List ℕ) where
  not_written : (x y : ℕ) → x < v → y < v → (y ≡ x → ⊥) → copied base done y ≡ x → ⊥
  not_written x y lx ly ne = if_apart (is_among done y) (base + y) y x (λ e. omega (arith, e, lx, past)) ne

  -- a choice keeps all copies
  one_keeps : (x y : ℕ) (ws : List ℕ) → x < v → y < v → v ≤ length ws
      → get_or (set ws x (get_or ws (copied base done x) 0)) (copied base done y) 0 ≡ get_or ws
      (copied base done y) 0
  one_keeps x y ws lx ly lw = grind (arith, cases_eq, get_or-set_same, not_written, get_or-set_other)

  longer : (x w : ℕ) (ws : List ℕ) → v ≤ length ws → v ≤ length (set ws x w)
  longer x w ws lw = subst (λ n. v ≤ n) (sym (length-set ws x w)) lw

  -- a variable that has what its copy has goes on to have it
  pub stays : (xs : List ℕ) (ws : List ℕ) (y : ℕ) → AllByRecursion (λ x. x < v) xs → y < v → v ≤ length ws
      → get_or ws y 0 ≡ get_or ws (copied base done y) 0 → get_or (chosen base done xs ws) y 0 ≡ get_or ws
      (copied base done y) 0
  stays [] ws y h ly lw e = e
  stays (x ∷ xs) ws y h ly lw e =
      let w = get_or ws (copied base done x) 0 in
      let keep = one_keeps x y ws h.0 ly lw in
      stays xs (set ws x w) y h.1 ly (longer x w ws lw) (
      elim (cases_eq y x) [
        | inl same ↦ ap (λ n. get_or (set ws x w) n 0) same ∙ get_or-set_same ws x w 0
            (omega (arith, h.0, lw)) ∙ ap (λ n. get_or ws (copied base done n) 0) (sym same) ∙ sym keep
        | inr ne ↦ get_or-set_other ws x y w 0 ne ∙ e ∙ sym keep
      ]
      ) ∙ keep

  -- a chosen variable gets what its copy has
  pub gets : (xs : List ℕ) (ws : List ℕ) (y : ℕ) → AllByRecursion (λ x. x < v) xs → y < v → v ≤ length ws
      → In y xs → get_or (chosen base done xs ws) y 0 ≡ get_or ws (copied base done y) 0
  gets [] ws y h ly lw i = absurd i
  gets (x ∷ xs) ws y h ly lw (inl same) = grind (arith, one_keeps, stays, longer, get_or-set_same)
  gets (x ∷ xs) ws y h ly lw (inr i) =
      let w = get_or ws (copied base done x) 0 in
      grind (arith, longer, one_keeps, gets xs (set ws x w) y h.1 ly (longer x w ws lw) i)

-- there are as many variables as before
pub chosen_length : (base : ℕ) (done xs ws : List ℕ) → length (chosen base done xs ws) ≡ length ws
chosen_length base done [] ws = refl
chosen_length base done (x ∷ xs) ws = chosen_length base done xs (set ws x _) ∙ length-set ws x _
