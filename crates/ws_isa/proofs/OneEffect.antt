-- What the first operations of a walk leave is one, whatever number of steps it is taken after.
use Rattle.std.proofs.Common.{ℕ, zero, suc, ◌≡◌, ◌≤◌, ◌⊎◌, Bool, true, false, cond, List, [], ◌∷◌, ◌++◌}
use Rattle.std.proofs.Common.{length, Option, Some, None, refl, ap, ◌∙◌, inl, inr, arith}
use Rattle.std.proofs.lemmas.Bool.{cases_Bool, cases_eq, cases_lt, cond-true, cond-false}
use Rattle.ws_words.specs.Outside.{Outside, World}
use Rattle.ws_isa.specs.Image.{Image, is_memory}
use Rattle.ws_isa.specs.Walk.{Inst, Pos, pos, mem, walk, fires, with_inst, inst_at}
use Rattle.ws_isa.specs.Operations.{operations, ops, Effect}
use Rattle.ws_isa.proofs.Steps.{StepCase, stands, turns, ends, leaves, step_case}

module _ (image : Image) where
  one_more : (xs : List Inst) (x : Inst) → is_memory image x.instr ≡ true
      → length (operations image (xs ++ x ∷ [])) ≡ suc (length (operations image xs))
  one_more [] x e = grind (arith, cond-true)
  one_more (y ∷ xs) x e = go (one_more xs x e) (is_memory image y.instr)
    where
      go : length (operations image (xs ++ x ∷ [])) ≡ suc (length (operations image xs)) → (b : Bool)
          → length (cond b (y ∷ operations image (xs ++ x ∷ [])) (operations image (xs ++ x ∷ [])))
          ≡ suc (length (cond b (y ∷ operations image xs) (operations image xs)))
      go h b = grind arith

  no_more : (xs : List Inst) (x : Inst) → is_memory image x.instr ≡ false
      → length (operations image (xs ++ x ∷ [])) ≡ length (operations image xs)
  no_more [] x e = grind (arith, cond-false)
  no_more (y ∷ xs) x e = go (no_more xs x e) (is_memory image y.instr)
    where
      go : length (operations image (xs ++ x ∷ [])) ≡ length (operations image xs) → (b : Bool)
          → length (cond b (y ∷ operations image (xs ++ x ∷ [])) (operations image (xs ++ x ∷ [])))
          ≡ length (cond b (y ∷ operations image xs) (operations image xs))
      go h b = grind arith

module _ (image : Image) (world : World) where
  -- a step at which no operation fires
  record Quiet (t : ℕ) : Type 0 where
    memory : mem image world (suc t) ≡ mem image world t
    count : length (ops image world (suc t)) ≡ length (ops image world t)

  pub fired_more : (t : ℕ) (x : Inst) → fires image world t ≡ Some x → is_memory image x.instr ≡ true
      → length (ops image world (suc t)) ≡ suc (length (ops image world t))
  unfolding ops walk
  fired_more t x f m = grind (arith, one_more)

  pub fired_other : (t : ℕ) (x : Inst) → fires image world t ≡ Some x → is_memory image x.instr ≡ false
      → length (ops image world (suc t)) ≡ length (ops image world t)
  unfolding ops walk
  fired_other t x f m = grind (arith, no_more)

  pub fired_none : (t : ℕ) → fires image world t ≡ None → length (ops image world (suc t))
      ≡ length (ops image world t)
  unfolding ops walk
  fired_none t f = ap (λ (o : Option Inst). length (operations image (with_inst (walk image world t) o))) f

  step_does : (t : ℕ) → Quiet t ⊎ (length (ops image world (suc t)) ≡ suc (length (ops image world t)))
  unfolding mem
  step_does t = go (step_case image world t) (cases_Bool (is_memory image (pos image world t).next))
    where
      go : StepCase image world t → (is_memory image (pos image world t).next ≡ true)
          ⊎ (is_memory image (pos image world t).next ≡ false) → Quiet t
          ⊎ (length (ops image world (suc t)) ≡ suc (length (ops image world t)))
      go (stands a e f) m = inl (record { memory = ap (λ (p : Pos). p.memory) e; count = fired_none t f })
      go (turns a l e f) (inl m) = inr (fired_more t (inst_at image (pos image world t)) f m)
      go (turns a l e f) (inr m) =
          inl (record {
            memory = ap (λ (p : Pos). p.memory) e ∙ cond-false
                (is_memory image (pos image world t).next) _ (pos image world t).memory m;
            count = fired_other t (inst_at image (pos image world t)) f m;
          })
      go (ends a l s e f) m = inl (record { memory = ap (λ (p : Pos). p.memory) e; count = fired_none t f })
      go (leaves a l s e f) m = inl (record { memory = ap (λ (p : Pos). p.memory) e; count = fired_none t f })

  pub ops_up : (t u : ℕ) → t ≤ u → length (ops image world t) ≤ length (ops image world u)
  ops_up t zero l = let e : t ≡ zero = omega arith in rw e (omega arith)
  ops_up t (suc u) l = elim (cases_eq t (suc u)) [
    | inl e ↦ rw e (omega arith)
    | inr n ↦ (let h : length (ops image world t) ≤ length (ops image world u) = ops_up t u (omega arith) in
        elim (step_does u) [
          | inl q ↦ (let c : length (ops image world (suc u)) ≡ length (ops image world u) = q.count in
              omega arith)
          | inr m ↦ omega arith
        ])
  ]

  same_from : (t u : ℕ) → t ≤ u → length (ops image world u) ≤ length (ops image world t)
      → mem image world u ≡ mem image world t
  same_from t zero l h = let e : t ≡ zero = omega arith in rw e refl
  same_from t (suc u) l h = elim (cases_eq t (suc u)) [
    | inl e ↦ rw e refl
    | inr n ↦ (let up : length (ops image world t) ≤ length (ops image world u) = ops_up t u (omega arith) in
        elim (step_does u) [
          | inl q ↦ (let c : length (ops image world (suc u)) ≡ length (ops image world u) = q.count in
              q.memory ∙ same_from t u (omega arith) (omega arith))
          | inr m ↦ absurd (omega arith)
        ])
  ]

  -- what is left after so many operations is one
  pub one_effect : (p : ℕ) (one other : Outside) → Effect image world p one → Effect image world p other
      → one ≡ other
  one_effect p one other a b = grind (arith, b.left, cases_lt, same_from)
