-- The place of the first operation past the end.
use Rattle.std.proofs.Common.{ℕ, suc, ◌≡◌, ◌<◌, ◌≤◌, true, length, Some, refl, sym, ap, ◌∙◌, subst, inl, inr}
use Rattle.std.proofs.Common.{arith}
use Rattle.std.proofs.lemmas.Bool.{cases_lt}
use Rattle.ws_words.specs.Outside.{World}
use Rattle.ws_isa.specs.Image.{Image, is_memory}
use Rattle.ws_isa.specs.Walk.{Inst, fires, walk}
use Rattle.df_core.specs.Core.{State, HasFired}
use Rattle.df_core.specs.Fit.{StoppedAt, Fit, Grounded}
use Rattle.df_core.proofs.Walked.Facts.{WalkFacts}
use Rattle.df_core.proofs.Keeping.Passing.{same_fired}
use Rattle.df_core.proofs.Telling.Counting.{ops_count}
use Rattle.ws_isa.specs.Operations.{operations, ops, FaultsAt}
use Rattle.df_core.proofs.Walked.Past.{past_is, past_memory}
use Rattle.df_core.proofs.Telling.Ends.{one_fault}
use Rattle.ws_isa.proofs.OneEffect.{fired_more}

module _ (image : Image) (world : World) (facts : WalkFacts image world) (s : State) (fit : Fit image world s)
    (grounded : Grounded image world s) where
  fired_to : (h : StoppedAt image world fit.legal.cut s.waiting s.chain) (u : ℕ) (y : Inst) → u < suc h.time
      → fires image world u ≡ Some y → is_memory image y.instr ≡ true → HasFired s.fired y.wave y.instr
  fired_to h u y l fy my = elim (cases_lt u fit.legal.cut) [
    | inl k ↦ grounded.issued y.wave y.instr y.result (fit.legal.ordered.passed u y k fy my)
    | inr k ↦ elim (cases_lt u h.time) [
      | inl j ↦ absurd (h.passed u y k j fy my)
      | inr j ↦ (let e : h.time ≡ u = omega arith in
          let g : h.fault.inst ≡ y = same_fired image world facts h.time u h.fault.inst y h.fault.fired fy
          e in
          subst (λ (z : Inst). HasFired s.fired z.wave z.instr) g
          (grounded.requests h.fault.inst.wave h.fault.inst.instr h.fault.inst.operands h.waits))
    ]
  ]

  unfolded : (t : ℕ) → ops image world t ≡ operations image (walk image world t)
  unfolding ops
  unfolded t = refl

  pub fault_place : s.stopped ≡ true → (t : ℕ) → FaultsAt image world t
      → length (ops image world t) < length s.fired
  fault_place e t f = let h = fit.legal.halted e in
      let same : h.time ≡ t = one_fault image world facts h.time t h.fault f in
      let all : length (operations image (walk image world (suc h.time))) ≤ length s.fired =
      ops_count image world facts s (suc h.time) (fired_to h) in
      let u : length (ops image world (suc h.time)) ≡ length
      (operations image (walk image world (suc h.time))) = ap length (unfolded (suc h.time)) in
      let mx : is_memory image h.fault.inst.instr ≡ true = past_memory image h.fault.inst.instr
      h.fault.inst.operands (sym (past_is image h.fault.inst) ∙ h.fault.is_past) in
      let c : length (ops image world (suc h.time)) ≡ suc (length (ops image world h.time)) =
      fired_more image world h.time h.fault.inst h.fault.fired mx in
      subst (λ (n : ℕ). length (ops image world n) < length s.fired) same (omega arith)
