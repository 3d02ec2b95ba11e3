-- How many instances the first steps of a walk have, and which steps fire those that have fired.
use Rattle.std.proofs.Common.{ℕ, suc, ◌≡◌, ◌≤◌, List, [], ◌∷◌, ◌++◌, length, Some, refl, sym, ap, ◌∙◌}
use Rattle.std.proofs.Common.{subst, inl, inr, arith, length-append}
use Rattle.ws_words.specs.Outside.{World}
use Rattle.ws_isa.specs.Image.{Image}
use Rattle.ws_isa.specs.Walk.{Inst, fires, walk, CostAtMost}
use Rattle.df_core.specs.Core.{Key, HasFired, Once}
use Rattle.df_core.specs.Fit.{FiresAt, NoOp}
use Rattle.df_core.proofs.Walked.Facts.{WalkFacts}
use Rattle.df_core.proofs.Keeping.Passing.{same_fired}
use Rattle.df_core.specs.Answer.{FiringSteps}
use Rattle.ws_words.specs.Items.{In}
use Rattle.ws_isa.proofs.Ending.{goes_up}

module _ (image : Image) (world : World) where
  walk_some : (t : ℕ) (x : Inst) → fires image world t ≡ Some x → walk image world (suc t) ≡ walk image world
      t ++ x ∷ []
  unfolding walk
  walk_some t x e = rw e refl

  one_more : (t : ℕ) (x : Inst) → fires image world t ≡ Some x → length (walk image world (suc t))
      ≡ suc (length (walk image world t))
  one_more t x e = ap length (walk_some t x e) ∙ (grind (arith, length-append))

  -- where the whole walk has fired nothing more does
  pub none_fires : (n t u : ℕ) → CostAtMost image world n → n ≤ length (walk image world t)
      → NoOp image world t u
  none_fires n t u cost l k x a b fx mx = grind (arith, one_more, goes_up)

  -- the steps at which instances fire
  pub record StepsOf (ks : List Key) : Type 0 where
    pub steps : List ℕ
    pub firing : FiringSteps image world steps
    pub count : length steps ≡ length ks
    pub has : (w i t : ℕ) (x : Inst) → HasFired ks w i → FiresAt image world w i t x → In t steps
    pub only : (t : ℕ) (x : Inst) → In t steps → fires image world t ≡ Some x → HasFired ks x.wave x.instr

  module _ (facts : WalkFacts image world) where
    pub steps_of : (ks : List Key) → Once ks
        → ((w i : ℕ) → HasFired ks w i → (t : ℕ) × (x : Inst) × FiresAt image world w i t x) → StepsOf ks
    steps_of [] o f = grind arith
    steps_of (k ∷ ks) o f =
        let here = f k.wave k.instr (inl (refl, refl)) in
        let t0 : ℕ = here.0 in
        let at0 : FiresAt image world k.wave k.instr here.0 here.1 = here.2 in
        let rest : StepsOf ks = steps_of ks o.1 (λ w i h. f w i (inr h)) in
        record {
          steps = here.0 ∷ rest.steps;
          firing = (
            (here.1, at0.fires),
            (λ h. o.0 (subst (λ (n : ℕ). HasFired ks k.wave n) at0.instr
                (subst (λ (n : ℕ). HasFired ks n here.1.instr) at0.wave
                (rest.only here.0 here.1 h at0.fires)))),
            rest.firing,
          );
          count = ap suc rest.count;
          has = λ w i t x h at. elim h [
            | inl e ↦ inl (facts.once t here.0 x here.1 at.fires at0.fires (at.wave ∙ sym e.0 ∙ sym at0.wave)
                (at.instr ∙ sym e.1 ∙ sym at0.instr))
            | inr g ↦ inr (rest.has w i t x g at)
          ];
          only = λ t x h fx. elim h [
            | inl e ↦
                (let g : here.1 ≡ x = same_fired image world facts here.0 t here.1 x at0.fires fx (sym e) in
                inl (
                  sym at0.wave ∙ ap (λ (z : Inst). z.wave) g,
                  sym at0.instr
                      ∙ ap (λ (z : Inst). z.instr) g,
                ))
            | inr g ↦ inr (rest.only t x g fx)
          ];
        }
