-- Where no request is issuable, the operations that have fired without a gap are passed.
use Rattle.std.proofs.Common.{ℕ, zero, suc, ◌≡◌, ◌<◌, ◌≤◌, true, false, Option, Some, None, refl, sym, ap}
use Rattle.std.proofs.Common.{◌∙◌, inl, inr, arith}
use Rattle.std.proofs.lemmas.Bool.{cases_lt}
use Rattle.ws_words.specs.Outside.{World}
use Rattle.ws_isa.specs.Image.{Image, is_memory}
use Rattle.ws_isa.specs.Walk.{Inst, fires}
use Rattle.df_core.specs.Core.{Chain, State, HasFired, Issue, Enabled}
use Rattle.df_core.specs.Fit.{chain_at, NoOp, Fit}
use Rattle.df_core.proofs.Walked.Facts.{WalkFacts}
use Rattle.df_core.proofs.Walked.Pauses.{chain_same}

module _ (image : Image) (world : World) (facts : WalkFacts image world) (s : State) (fit : Fit image world s)
    (going : s.stopped ≡ false) (no_issue : (w i : ℕ) → Enabled image s (Issue w i) → ⊥) where
  -- issued without a gap means passed
  pub gapless : (t : ℕ) → ((k : ℕ) (y : Inst) → k < t → fires image world k ≡ Some y
      → is_memory image y.instr ≡ true → (a : ℕ) × (s.issued y.wave y.instr ≡ Some a)) →
      (u : ℕ) → u ≤ t → NoOp image world fit.legal.cut u
  gapless t below zero l k x a b fx mx = absurd (omega arith)
  gapless t below (suc u) l k x a b fx mx = elim (cases_lt k u) [
    | inl h ↦ gapless t below u (omega arith) k x a h fx mx
    | inr h ↦ (let quiet : NoOp image world fit.legal.cut k = λ k' y a' b'. gapless t below u (omega arith) k'
        y a' (omega arith) in
        let c : chain_at image world k ≡ s.chain = chain_same image world fit.legal.cut k a quiet
        ∙ sym fit.legal.ordered.chain in
        let i = below k x (omega arith) fx mx in
        let wv : x.wave ≡ s.chain.wave = facts.turn_wave k x fx mx ∙ ap (λ (d : Chain). d.wave) c in
        absurd (fit.legal.settled x.instr i.0 (rw (← wv) i.1) (rw (← c) (facts.turn k x fx mx))))
  ]

  op_issued : (t : ℕ) (x : Inst) → ((k : ℕ) (y : Inst) → k < t → fires image world k ≡ Some y
      → is_memory image y.instr ≡ true → (a : ℕ) × (s.issued y.wave y.instr ≡ Some a)) →
      fires image world t ≡ Some x → is_memory image x.instr ≡ true → HasFired s.fired x.wave x.instr
      → (o : Option ℕ) → s.issued x.wave x.instr ≡ o → (a : ℕ) × (s.issued x.wave x.instr ≡ Some a)
  op_issued t x below fx mx f (Some a) e = (a, e)
  op_issued t x below fx mx f None e = elim (cases_lt t fit.legal.cut) [
    | inl h ↦ (x.result, fit.legal.ordered.passed t x h fx mx)
    | inr h ↦ elim (fit.asked t x fx mx f) [
      | inl wt ↦ (let c : chain_at image world t ≡ s.chain = chain_same image world fit.legal.cut t h
          (gapless t below t (omega arith)) ∙ sym fit.legal.ordered.chain in
          absurd (no_issue x.wave x.instr (
            x.operands,
            record {
              waits = wt;
              issuable = record {
                going = going;
                current = facts.turn_wave t x fx mx ∙ ap (λ (d : Chain). d.wave) c;
                fresh = e;
                turn = inl (rw (← c) (facts.turn t x fx mx));
              };
            },
          )))
      | inr i ↦ i
    ]
  ]

  module _ (t : ℕ) (fired : (k : ℕ) (y : Inst) → k < t → fires image world k ≡ Some y
      → is_memory image y.instr ≡ true → HasFired s.fired y.wave y.instr) where
    all_issued : (n : ℕ) → n ≤ t → (k : ℕ) (y : Inst) → k < n → fires image world k ≡ Some y
        → is_memory image y.instr ≡ true → (a : ℕ) × (s.issued y.wave y.instr ≡ Some a)
    all_issued zero l k y h fy my = absurd (omega arith)
    all_issued (suc n) l k y h fy my =
        op_issued k y (λ j z h' fz mz. all_issued n (omega arith) j z (omega arith) fz mz) fy my
        (fired k y (omega arith) fy my) (s.issued y.wave y.instr) refl

    -- no operation of the first t steps is left behind the cut
    pub none_left : NoOp image world fit.legal.cut t
    none_left = gapless t (λ k y h fy my. all_issued t (omega arith) k y h fy my) t (omega arith)
