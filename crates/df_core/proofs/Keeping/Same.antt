-- What is true of a state is true of one that answers alike.
use Rattle.std.proofs.Common.{arith, ℕ, sym, ◌∙◌, refl}
use Rattle.ws_words.specs.Outside.{World}
use Rattle.ws_isa.specs.Image.{Image, ports}
use Rattle.ws_isa.specs.Walk.{Inst}
use Rattle.df_core.specs.Core.{State, HasFired, Same}
use Rattle.df_core.specs.Fit.{IsThere, IsFilled, HasTold, Fit, Grounded, StoppedAt, Legal}

module _ (image : Image) (world : World) (s t : State) (same : Same s t) where
  fired_to : (w i : ℕ) → HasFired s.fired w i → HasFired t.fired w i
  fired_to w i h = rw same.fired at h

  fired_back : (w i : ℕ) → HasFired t.fired w i → HasFired s.fired w i
  fired_back w i h = rw same.fired h

  there_back : (w i p v : ℕ) → IsThere t w i p v → IsThere s w i p v
  there_back w i p v h = grind (arith, same.held, same.way)

  there_to : (w i p v : ℕ) → IsThere s w i p v → IsThere t w i p v
  there_to w i p v h = grind (arith, same.held, same.way)

  told_to : (x : Inst) → HasTold image s x → HasTold image t x
  told_to x h = grind (arith, fired_to, x.instr, h.fired, h.issued, same.issued)

  told_back : (x : Inst) → HasTold image t x → HasTold image s x
  told_back x h = grind (arith, fired_back, x.instr, h.fired, h.issued, same.issued)

  filled_to : (w i n : ℕ) → IsFilled s w i n → IsFilled t w i n
  filled_to w i n f p l = let r = f p l in (r.0, sym (same.held w i p) ∙ r.1)

  filled_back : (w i n : ℕ) → IsFilled t w i n → IsFilled s w i n
  filled_back w i n f p l = let r = f p l in (r.0, same.held w i p ∙ r.1)

  stopped_back : (cut : ℕ) → StoppedAt image world cut t.waiting t.chain
      → StoppedAt image world cut s.waiting s.chain
  stopped_back cut h = grind (arith, same.waiting)

  legal_back : Legal image world t.issued t.waiting t.stopped t.chain t.memory
      → Legal image world s.issued s.waiting s.stopped s.chain s.memory
  legal_back l = grind (arith, stopped_back)

  pub fit_same : Fit image world t → Fit image world s
  fit_same fit = record {
    held_right = grind (arith, fit.held_right, same.held);
    way_right = grind (arith, fit.way_right, same.way);
    request_right = grind (arith, fit.request_right, same.waiting);
    one = grind (arith, same.way, fit.one, same.held);
    fired_full = λ w i h. (let f = fit.fired_full w i (fired_to w i h) in
        (f.0, filled_back w i (ports image i) f.1));
    full_fired = λ w i pos f. fired_back w i (fit.full_fired w i pos (filled_to w i (ports image i) f));
    start_there = λ w i p v h. there_back w i p v (fit.start_there w i p v h);
    sent_there = λ u x fx told w i p v h. there_back w i p v
        (fit.sent_there u x fx (told_to x told) w i p v h);
    asked = grind (arith, fit.asked, fired_to, same.waiting, same.issued);
    legal = legal_back fit.legal;
  }

  pub grounded_same : Grounded image world t → Grounded image world s
  grounded_same g = grind (arith, there_to, fired_back, told_back)

-- a state answers like itself
pub same_refl : (s : State) → Same s s
same_refl s = record {
  held = λ w i p. refl;
  way = λ w i p. refl;
  fired = refl;
  waiting = λ w i. refl;
  issued = λ w i. refl;
  chain = refl;
  stopped = refl;
  memory = refl;
}
