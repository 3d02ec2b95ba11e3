-- A fit state at rest has fired every instance of the walk and issued every operation.
use Rattle.std.proofs.Common.{ℕ, zero, suc, ◌≡◌, ◌<◌, ◌≤◌, true, false, length, Option, Some, None, refl, sym}
use Rattle.std.proofs.Common.{ap, ◌∙◌, inl, inr, arith}
use Rattle.std.proofs.lemmas.Bool.{cases_lt}
use Rattle.ws_words.specs.Outside.{World}
use Rattle.ws_isa.specs.Image.{Image, ports, is_memory}
use Rattle.ws_isa.specs.Walk.{Inst, fires}
use Rattle.df_core.specs.Core.{Chain, State, HasFired, Match, Issue, Rest}
use Rattle.df_core.specs.Fit.{chain_at, NoOp, IsThere, Fit}
use Rattle.df_core.proofs.Walked.Facts.{WalkFacts}
use Rattle.df_core.proofs.Walked.Pauses.{chain_same}
use Rattle.ws_words.specs.Items.{nth}
use Rattle.ws_words.proofs.Places.{nth_there}

-- the instance has fired, and was issued if it is a memory one
pub record IsDone (image : Image) (s : State) (x : Inst) : Type 0 where
  pub fired : HasFired s.fired x.wave x.instr
  pub issued : is_memory image x.instr ≡ true → (a : ℕ) × (s.issued x.wave x.instr ≡ Some a)

module _ (image : Image) (world : World) (facts : WalkFacts image world) (s : State) (fit : Fit image world s)
    (rest : Rest image s) (going : s.stopped ≡ false) where
  held_of : (w i p v : ℕ) → IsThere s w i p v → (u : ℕ) × (s.held w i p ≡ Some u)
  held_of w i p v (inl e) = (v, e)
  held_of w i p v (inr e) = absurd (rest (Match w i p) (v, e))

  has_fired : (t : ℕ) (x : Inst) → ((k : ℕ) (y : Inst) → k < t → fires image world k ≡ Some y
      → IsDone image s y) → fires image world t ≡ Some x → HasFired s.fired x.wave x.instr
  has_fired t x below fx = fit.full_fired x.wave x.instr (facts.has_port t x fx) (λ p l.
      let len : length x.operands ≡ ports image x.instr = facts.filled t x fx in
      let n : (v : ℕ) × (nth x.operands p ≡ Some v) = nth_there x.operands p (omega arith) in
      elim (facts.made t x fx p n.0 n.1) [
        | inl h ↦ held_of x.wave x.instr p n.0 (fit.start_there x.wave x.instr p n.0 h)
        | inr m ↦ (let d : IsDone image s m.inst = below m.time m.inst m.earlier m.fires in
            held_of x.wave x.instr p n.0 (fit.sent_there m.time m.inst m.fires
            (record { fired = λ e. d.fired; issued = d.issued }) x.wave x.instr p n.0 m.sent))
      ])

  no_op : (t : ℕ) → ((k : ℕ) (y : Inst) → k < t → fires image world k ≡ Some y → IsDone image s y) → (u : ℕ)
      → u ≤ t → NoOp image world fit.legal.cut u
  no_op t below zero l k x a b fx mx = absurd (omega arith)
  no_op t below (suc u) l k x a b fx mx = elim (cases_lt k u) [
    | inl h ↦ no_op t below u (omega arith) k x a h fx mx
    | inr h ↦ (let e : k ≡ u = omega arith in
        let quiet : NoOp image world fit.legal.cut k = λ k' y a' b'. no_op t below u (omega arith) k' y a'
        (omega arith) in
        let c : chain_at image world k ≡ s.chain = chain_same image world fit.legal.cut k a quiet
        ∙ sym fit.legal.ordered.chain in
        let i : (n : ℕ) × (s.issued x.wave x.instr ≡ Some n) = (below k x (omega arith) fx).issued mx in
        let wv : x.wave ≡ s.chain.wave = facts.turn_wave k x fx mx ∙ ap (λ (d : Chain). d.wave) c in
        absurd (fit.legal.settled x.instr i.0 (rw (← wv) i.1) (rw (← c) (facts.turn k x fx mx))))
  ]

  has_issued : (t : ℕ) (x : Inst) → ((k : ℕ) (y : Inst) → k < t → fires image world k ≡ Some y
      → IsDone image s y) → fires image world t ≡ Some x → is_memory image x.instr ≡ true →
      (o : Option ℕ) → s.issued x.wave x.instr ≡ o → (a : ℕ) × (s.issued x.wave x.instr ≡ Some a)
  has_issued t x below fx mx (Some a) e = (a, e)
  has_issued t x below fx mx None e = elim (cases_lt t fit.legal.cut) [
    | inl h ↦ (x.result, fit.legal.ordered.passed t x h fx mx)
    | inr h ↦ elim (fit.asked t x fx mx (has_fired t x below fx)) [
      | inl wt ↦ (let c : chain_at image world t ≡ s.chain = chain_same image world fit.legal.cut t h
          (no_op t below t (omega arith)) ∙ sym fit.legal.ordered.chain in
          absurd (rest (Issue x.wave x.instr) (
            x.operands,
            record {
              waits = wt;
              issuable = record {
                going = going;
                current = facts.turn_wave t x fx mx ∙ ap (λ (d : Chain). d.wave) c;
                fresh = e;
                turn = inl (rw (← c) (facts.turn t x fx mx));
              };
            },
          )))
      | inr i ↦ i
    ]
  ]

  done_step : (t : ℕ) (x : Inst) → ((k : ℕ) (y : Inst) → k < t → fires image world k ≡ Some y
      → IsDone image s y) → fires image world t ≡ Some x → IsDone image s x
  done_step t x below fx = record {
    fired = has_fired t x below fx;
    issued = λ mx.
        has_issued t x below fx mx (s.issued x.wave x.instr) refl;
  }

  done_below : (t k : ℕ) (x : Inst) → k < t → fires image world k ≡ Some x → IsDone image s x
  done_below zero k x l fx = absurd (omega arith)
  done_below (suc t) k x l fx = done_step k x (λ j y l' fy. done_below t j y (omega arith) fy) fx

  pub rest_done : (t : ℕ) (x : Inst) → fires image world t ≡ Some x → IsDone image s x
  rest_done t x fx = done_below (suc t) t x (omega arith) fx
