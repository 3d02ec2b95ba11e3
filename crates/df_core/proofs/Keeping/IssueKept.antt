-- An issue keeps Fit and Grounded.
use Rattle.std.proofs.Common.{arith, ℕ, ◌≡◌, ◌⊎◌, true, false, List, Option, Some, None, refl, sym, ap, ◌∙◌}
use Rattle.std.proofs.Common.{inl, inr}
use Rattle.std.proofs.lemmas.Bool.{cases_Bool, both_ways}
use Rattle.ws_words.specs.Outside.{World}
use Rattle.ws_isa.specs.Image.{Image, Token, is_memory, answer, sends, is_past}
use Rattle.ws_isa.specs.Walk.{Inst}
use Rattle.df_core.specs.Effect.{effect_after}
use Rattle.df_core.specs.Core.{Chain, State, HasFired, IsSent, Passes, with_key, put_all, Issuable}
use Rattle.df_core.specs.Core.{issued_with, issue}
use Rattle.df_core.specs.Ends.{Meets}
use Rattle.df_core.specs.Fit.{FiresAt, RightToken, Legal, IsThere, Fit, Grounded}
use Rattle.df_core.proofs.Walked.Facts.{WalkFacts}
use Rattle.df_core.proofs.Keeping.Ports.{SameKey, with_key_cases, with_key_same, put_all_keeps, put_all_held}
use Rattle.df_core.proofs.Keeping.Ports.{put_all_from, put_all_lands}
use Rattle.df_core.proofs.Keeping.BufferKept as B
use Rattle.df_core.proofs.Keeping.MatchKept.{same_inst, same_value}

module _ (image : Image) (world : World) (facts : WalkFacts image world) (s : State) (fit : Fit image world s)
    (w i : ℕ) (xs : List ℕ) (waits : s.waiting w i ≡ Some xs) (may : Issuable image s.issued s.chain s.stopped
    w i xs)
    (u : ℕ) (x : Inst) (at : FiresAt image world w i u x) (xs_are : x.operands ≡ xs)
    (mi : is_memory image i ≡ true) where
  answer_right : answer image i xs s.memory ≡ x.result
  answer_right = B.answer_right image world facts s.issued s.chain s.stopped s.memory fit.legal.settled w i xs
      may u x at xs_are mi fit.legal.cut fit.legal.ordered

  here : issued_with image s.issued s.memory w i xs x.wave x.instr ≡ Some x.result
  here = B.here image world facts s.issued s.chain s.stopped s.memory fit.legal.settled w i xs may u x at
      xs_are mi fit.legal.cut fit.legal.ordered

  issued_from : (a b n : ℕ) → issued_with image s.issued s.memory w i xs a b ≡ Some n
      → (SameKey w i a b × (n ≡ x.result)) ⊎ (s.issued a b ≡ Some n)
  issued_from = B.issued_from image world facts s.issued s.chain s.stopped s.memory fit.legal.settled w i xs
      may u x at xs_are mi fit.legal.cut fit.legal.ordered

  new_legal : is_past image i xs ≡ false → (waiting : ℕ → ℕ → Option (List ℕ)) → (c : Chain)
      → Passes image (issued_with image s.issued s.memory w i xs) s.chain c
      → Legal image world (issued_with image s.issued s.memory w i xs) waiting s.stopped c
      (effect_after image i xs s.memory)
  new_legal = B.new_legal image world facts s.issued s.chain s.stopped s.memory fit.legal.settled w i xs may u
      x at xs_are mi fit.legal.cut fit.legal.ordered

  new_tokens : List Token
  new_tokens = sends image w i xs (answer image i xs s.memory)

  the_tokens : new_tokens ≡ sends image x.wave x.instr x.operands x.result
  unfolding new_tokens
  the_tokens = rw (answer_right, ← xs_are, ← at.wave, ← at.instr) refl

  tokens_right : (a b q v : ℕ) → IsSent new_tokens a b q v → RightToken image world a b q v
  tokens_right a b q v h = facts.sent u x at.fires a b q v (rw the_tokens at h)

  new_way_right : (a b q v : ℕ) → put_all s.held new_tokens s.way a b q ≡ Some v
      → RightToken image world a b q v
  new_way_right a b q v e = grind (arith, put_all_from, s.held, s.way, fit.way_right, tokens_right)

  new_there : (a b q v : ℕ) → IsSent new_tokens a b q v → (s.held a b q ≡ Some v)
      ⊎ (put_all s.held new_tokens s.way a b q ≡ Some v)
  new_there a b q v h =
      let r = put_all_lands s.held new_tokens s.way a b q v h in
      elim r.1 [
        | inl k ↦
            inl (k ∙ ap (λ (n : ℕ). Some n) (same_value image world facts a b q r.0 v
            (fit.held_right a b q r.0 k) (tokens_right a b q v h)))
        | inr k ↦
            inr (k ∙ ap (λ (n : ℕ). Some n) (same_value image world facts a b q r.0 v
            (new_way_right a b q r.0 k) (tokens_right a b q v h)))
      ]

  still_there : (a b q v : ℕ) → IsThere s a b q v → (s.held a b q ≡ Some v)
      ⊎ (put_all s.held new_tokens s.way a b q ≡ Some v)
  still_there a b q v h = grind (arith, put_all_keeps, s.held, s.way)

  still_issued : (a b : ℕ) → (n : ℕ) × (s.issued a b ≡ Some n) → (n : ℕ)
      × (issued_with image s.issued s.memory w i xs a b ≡ Some n)
  still_issued a b h = grind (arith, with_key_cases, s.issued)

  pub issue_fit' : is_past image i xs ≡ false → (c : Chain)
      → Passes image (issued_with image s.issued s.memory w i xs) s.chain c
      → Fit image world (issue image s w i xs c)
  unfolding issue new_tokens
  issue_fit' inside c p = record {
    held_right = fit.held_right;
    way_right = new_way_right;
    request_right = grind (arith, with_key_cases, s.waiting, fit.request_right);
    one = λ a b q v e. put_all_held s.held new_tokens s.way a b q v e ∙ fit.one a b q v e;
    fired_full = fit.fired_full;
    full_fired = fit.full_fired;
    start_there = λ a b q v h. still_there a b q v (fit.start_there a b q v h);
    sent_there = λ t y fy told a b q v h. elim (cases_Bool (is_memory image y.instr)) [
      | inl m ↦ (let r = told.issued m in elim (issued_from y.wave y.instr r.0 r.1) [
        | inl k ↦
            (let e : x ≡ y = same_inst image world facts w i u t x y at
            (record { fires = fy; wave = sym k.0.wave; instr = sym k.0.instr }) in
            let g : new_tokens ≡ sends image y.wave y.instr y.operands y.result =
            the_tokens ∙ ap (λ (z : Inst). sends image z.wave z.instr z.operands z.result) e in
            new_there a b q v (rw g h))
        | inr k ↦
            still_there a b q v
            (fit.sent_there t y fy (record { fired = told.fired; issued = λ m'. (r.0, k) }) a b q v h)
      ])
      | inr m ↦
          still_there a b q v
          (fit.sent_there t y fy
          (record { fired = told.fired; issued = λ m'. absurd (both_ways (is_memory image y.instr) m m') }) a
          b q v h)
    ];
    asked = λ t y fy m f. elim (with_key_cases w i None s.waiting y.wave y.instr) [
      | inl h ↦
          inr (
            answer image i xs s.memory,
            rw (← h.0.wave, ← h.0.instr)
                (with_key_same w i (Some (answer image i xs s.memory)) s.issued),
          )
      | inr h ↦ elim (fit.asked t y fy m f) [
        | inl k ↦ inl (h.1 ∙ k)
        | inr k ↦
            inr (still_issued y.wave y.instr k)
      ]
    ];
    legal = new_legal inside (with_key w i None s.waiting) c p;
  }

  pub issue_grounded' : Grounded image world s → (c : Chain) → Grounded image world (issue image s w i xs c)
  unfolding issue new_tokens
  issue_grounded' g c = record {
    tokens = λ a b q v h. elim (came a b q v h) [
      | inl k ↦ elim (g.tokens a b q v k) [
        | inl l ↦ inl l
        | inr l ↦ inr (record {
          time = l.time;
          inst = l.inst;
          fires = l.fires;
          fired = l.fired;
          sent = l.sent;
          told = record {
            fired = l.told.fired;
            issued = λ m. still_issued l.inst.wave l.inst.instr
                (l.told.issued m);
          };
        })
      ]
      | inr k ↦ inr (record {
        time = u;
        inst = x;
        fires = at.fires;
        fired = x_fired;
        sent = rw the_tokens at k;
        told = record { fired = λ m. x_fired; issued = λ m. (x.result, here) };
      })
    ];
    requests = λ a b ys e. elim (with_key_cases w i None s.waiting a b) [
      | inl h ↦ (let f : None ≡ Some ys = sym h.1 ∙ e in cc)
      | inr h ↦ g.requests a b ys (sym h.1 ∙ e)
    ];
    issued = λ a b n e. elim (issued_from a b n e) [
      | inl h ↦ rw (← h.0.wave, ← h.0.instr) (g.requests w i xs waits)
      | inr h ↦ g.issued a b n h
    ];
  }
    where
      x_fired : HasFired s.fired x.wave x.instr
      x_fired = rw (at.wave, at.instr) (g.requests w i xs waits)

      came : (a b q v : ℕ) → (s.held a b q ≡ Some v) ⊎ (put_all s.held new_tokens s.way a b q ≡ Some v)
          → IsThere s a b q v ⊎ IsSent new_tokens a b q v
      came a b q v (inl e) = inl (inl e)
      came a b q v (inr e) = elim (put_all_from s.held new_tokens s.way a b q v e)
          [ inl h ↦ inl (inr h) | inr h ↦ inr h ]

module _ (image : Image) (world : World) (facts : WalkFacts image world) (s : State) (fit : Fit image world s)
    (w i : ℕ) (xs : List ℕ) (waits : s.waiting w i ≡ Some xs) (may : Issuable image s.issued s.chain s.stopped
    w i xs) (c : Chain) (p : Passes image (issued_with image s.issued s.memory w i xs) s.chain c) where
  pub issue_fit : is_past image i xs ≡ false → Fit image world (issue image s w i xs c)
  issue_fit inside = let r = fit.request_right w i xs waits in
      issue_fit' image world facts s fit w i xs waits may r.time r.inst r.at r.operands r.memory inside c p

  pub issue_grounded : Grounded image world s → Grounded image world (issue image s w i xs c)
  issue_grounded g = let r = fit.request_right w i xs waits in
      issue_grounded' image world facts s fit w i xs waits may r.time r.inst r.at r.operands r.memory g c

module _ (image : Image) (world : World) (facts : WalkFacts image world) (s : State) (fit : Fit image world s)
    (w i : ℕ) (xs : List ℕ) (waits : s.waiting w i ≡ Some xs) (may : Issuable image s.issued s.chain s.stopped
    w i xs) where
  pub stop_fit : is_past image i xs ≡ true → Fit image world (record s { stopped = true })
  stop_fit beyond = let r = fit.request_right w i xs waits in record {
    held_right = fit.held_right;
    way_right = fit.way_right;
    request_right = fit.request_right;
    one = fit.one;
    fired_full = fit.fired_full;
    full_fired = fit.full_fired;
    start_there = fit.start_there;
    sent_there = λ t y fy told a b q v h. fit.sent_there t y fy
        (record { fired = told.fired; issued = told.issued }) a b q v h;
    asked = fit.asked;
    legal = B.stop_legal image world facts s.issued s.chain s.stopped s.memory fit.legal.settled w i xs may
        r.time r.inst r.at r.operands r.memory fit.legal.cut fit.legal.ordered beyond s.waiting waits;
  }

  -- it is the walk's first load or store past the end
  pub stop_fault : is_past image i xs ≡ true → Meets image world w i
  unfolding B.fault_here
  stop_fault beyond = let r = fit.request_right w i xs waits in record {
    time = r.time;
    fault = B.fault_here image world facts s.issued s.chain s.stopped s.memory fit.legal.settled w i xs may
        r.time r.inst r.at r.operands r.memory fit.legal.cut fit.legal.ordered beyond s.waiting waits;
    wave = r.at.wave;
    instr = r.at.instr;
  }

module _ (image : Image) (world : World) (s : State) where
  pub stop_grounded : Grounded image world s → Grounded image world (record s { stopped = true })
  stop_grounded g = grind (arith, g.tokens)
