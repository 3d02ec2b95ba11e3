-- A match keeps Fit and Grounded.
use Rattle.std.proofs.Common.{ℕ, ◌+◌, ◌≡◌, ◌<◌, ◌⊎◌, true, false, List, length, Some, None, refl, sym}
use Rattle.std.proofs.Common.{ap, ◌∙◌, subst, inl, inr, arith}
use Rattle.std.proofs.lemmas.Bool.{cases_Bool, cases_eq, cond_both, both_ways}
use Rattle.ws_words.specs.Outside.{World}
use Rattle.ws_isa.specs.Image.{Image, Token, ports, is_memory, result_of, sends}
use Rattle.ws_isa.specs.Walk.{Inst, Ports, start_tokens, gather}
use Rattle.df_core.specs.Core.{State, HasFired, IsSent, with_key, put_all, is_full, operands_in, arrived}
use Rattle.df_core.specs.Core.{asks, tells, matched}
use Rattle.df_core.specs.Fit.{FiresAt, RightToken, RightRequest, IsThere, IsFilled, Fit, StoppedAt, FromInst}
use Rattle.df_core.specs.Fit.{Grounded}
use Rattle.df_core.proofs.Walked.Facts.{WalkFacts}
use Rattle.df_core.proofs.Keeping.Ports.{SamePlace, SameKey, with_at_cases, with_key_cases, put_all_keeps}
use Rattle.df_core.proofs.Keeping.Ports.{put_all_held, put_all_from, put_all_lands, full_all, all_full}
use Rattle.df_core.proofs.Keeping.Ports.{gather_is}
use Rattle.ws_words.specs.Items.{nth}
use Rattle.ws_words.proofs.Places.{nth_short}

module _ (image : Image) (world : World) (facts : WalkFacts image world) where
  -- one instance, one value at each port
  pub same_inst : (w i t u : ℕ) (x y : Inst) → FiresAt image world w i t x → FiresAt image world w i u y
      → x ≡ y
  same_inst w i t u x y a b = grind (arith, facts.once, a.fires, b.fires)

  pub same_value : (w i p v u : ℕ) → RightToken image world w i p v → RightToken image world w i p u → v ≡ u
  same_value w i p v u a b = grind (arith, same_inst, a.at)

  -- the operands held at the ports of a full instance of the walk are the walk's
  pub right_operands : (held : Ports) (w i t : ℕ) (x : Inst) → FiresAt image world w i t x →
      ((p v : ℕ) → held w i p ≡ Some v → RightToken image world w i p v)
      → ((p : ℕ) → p < ports image i → (v : ℕ) × (held w i p ≡ Some v)) →
      operands_in image held w i ≡ x.operands
  right_operands held w i t x at right filled =
      let len : length x.operands ≡ ports image i = facts.filled t x at.fires ∙ ap (ports image) at.instr in
      let each : (q v : ℕ) → nth x.operands q ≡ Some v → held w i (0 + q) ≡ Some v =
      λ q v e.
      let l : q < length x.operands = nth_short x.operands q v e in
      let f : (u : ℕ) × (held w i q ≡ Some u) = filled q (omega arith) in
      let g : f.0 ≡ v = same_value w i q f.0 v (right q f.0 f.1)
      (record { time = t; inst = x; at = at; operand = e }) in
      let z : 0 + q ≡ q = omega arith in
      rw z (f.1 ∙ ap (λ (u : ℕ). Some u) g) in
      subst (λ n. gather held w i 0 n ≡ x.operands) len (gather_is held w i 0 x.operands each)

  module _ (s : State) (fit : Fit image world s) (w i p v : ℕ) (way : s.way w i p ≡ Some v) where
    held_from : (a b q u : ℕ) → (arrived s w i p v).held a b q ≡ Some u → (s.held a b q ≡ Some u)
        ⊎ (SamePlace w i p a b q × (v ≡ u))
    held_from a b q u e = grind (arith, with_at_cases, s.held)

    way_from : (a b q u : ℕ) → (arrived s w i p v).way a b q ≡ Some u → s.way a b q ≡ Some u
    way_from a b q u e = grind (arith, with_at_cases, s.way)

    held_keeps : (a b q u : ℕ) → s.held a b q ≡ Some u → (arrived s w i p v).held a b q ≡ Some u
    held_keeps a b q u e = grind (arith, with_at_cases, s.held, fit.one)

    there_keeps : (a b q u : ℕ) → IsThere s a b q u → IsThere (arrived s w i p v) a b q u
    there_keeps a b q u h = grind (arith, held_keeps, with_at_cases, s.held, s.way)

    held_right' : (a b q u : ℕ) → (arrived s w i p v).held a b q ≡ Some u → RightToken image world a b q u
    held_right' a b q u e = grind (arith, held_from, fit.held_right, fit.way_right)

    way_right' : (a b q u : ℕ) → (arrived s w i p v).way a b q ≡ Some u → RightToken image world a b q u
    way_right' a b q u e = fit.way_right a b q u (way_from a b q u e)

    one' : (a b q u : ℕ) → (arrived s w i p v).held a b q ≡ Some u → (arrived s w i p v).way a b q ≡ None
    one' a b q u e = grind (arith, with_at_cases, s.way, held_from, fit.one)

    fired_full' : (a b : ℕ) → HasFired s.fired a b → (0 < ports image b)
        × IsFilled (arrived s w i p v) a b (ports image b)
    fired_full' a b h = let f : (0 < ports image b) × IsFilled s a b (ports image b) = fit.fired_full a b h in
        (f.0, λ q l. (let g : (u : ℕ) × (s.held a b q ≡ Some u) = f.1 q l in (g.0, held_keeps a b q g.0 g.1)))

    -- an instance that is full now and is not this one was full before
    full_before : (a b : ℕ) → (SameKey w i a b → ⊥) → IsFilled (arrived s w i p v) a b (ports image b)
        → IsFilled s a b (ports image b)
    full_before a b n f q l = let g : (u : ℕ) × ((arrived s w i p v).held a b q ≡ Some u) = f q l in
        grind (arith, held_from)

    not_full : is_full (arrived s w i p v).held w i (ports image i) ≡ false
        → Fit image world (arrived s w i p v)
    not_full less = record {
      held_right = held_right';
      way_right = way_right';
      request_right = fit.request_right;
      one = one';
      fired_full = fired_full';
      full_fired = λ a b pos full. fit.full_fired a b pos (full_before a b
          (λ k. both_ways (is_full (arrived s w i p v).held w i (ports image i)) less
          (all_full (arrived s w i p v).held w i (ports image i) (rw (← k.wave, ← k.instr) at full))) full);
      start_there = grind (arith, there_keeps, fit.start_there);
      sent_there = λ t x fx told a b q u h. there_keeps a b q u
          (fit.sent_there t x fx (record { fired = told.fired; issued = told.issued }) a b q u h);
      asked = fit.asked;
      legal = fit.legal;
    }

    -- the walk's instance
    the_token : RightToken image world w i p v
    the_token = fit.way_right w i p v way

    module _ (full : is_full (arrived s w i p v).held w i (ports image i) ≡ true) where
      all_held : IsFilled (arrived s w i p v) w i (ports image i)
      all_held = full_all (arrived s w i p v).held w i (ports image i) full

      the_operands : operands_in image (arrived s w i p v).held w i ≡ the_token.inst.operands
      the_operands = right_operands (arrived s w i p v).held w i the_token.time the_token.inst the_token.at
          (held_right' w i) all_held

      has_port' : 0 < ports image i
      has_port' = rw the_token.at.instr at (facts.has_port the_token.time the_token.inst the_token.at.fires)

      fired_full'' : (a b : ℕ) → ((w ≡ a) × (i ≡ b)) ⊎ HasFired s.fired a b
          → (0 < ports image b) × IsFilled (arrived s w i p v) a b (ports image b)
      fired_full'' a b (inl h) = rw (← h.0, ← h.1) (has_port', all_held)
      fired_full'' a b (inr h) = fired_full' a b h

      full_fired'' : (a b : ℕ) → 0 < ports image b → IsFilled (arrived s w i p v) a b (ports image b)
          → ((w ≡ a) × (i ≡ b)) ⊎ HasFired s.fired a b
      full_fired'' a b pos f = go (cases_eq w a) (cases_eq i b)
        where
          go : (w ≡ a) ⊎ (w ≡ a → ⊥) → (i ≡ b) ⊎ (i ≡ b → ⊥) → ((w ≡ a) × (i ≡ b)) ⊎ HasFired s.fired a b
          go h g = grind (arith, fit.full_fired, full_before)

      -- the instance asks memory
      when_asks : is_memory image i ≡ true → Fit image world (asks image w i (arrived s w i p v))
      when_asks mem = record {
        held_right = held_right';
        way_right = way_right';
        request_right =
            λ a b xs e. elim (with_key_cases w i (Some (operands_in image (arrived s w i p v).held w i))
            s.waiting a b) [
              | inl h ↦ (let k : RightRequest image world w i xs =
                  record {
                    time = the_token.time;
                    inst = the_token.inst;
                    at = the_token.at;
                    memory = mem;
                    operands = sym the_operands
                        ∙ (let f : Some (operands_in image (arrived s w i p v).held w i)
                        ≡ Some xs = sym h.1 ∙ e in cc);
                  } in
                  rw (← h.0.wave, ← h.0.instr) k)
              | inr h ↦ fit.request_right a b xs (sym h.1 ∙ e)
            ];
        one = one';
        fired_full = fired_full'';
        full_fired = full_fired'';
        start_there = λ a b q u h. there_keeps a b q u (fit.start_there a b q u h);
        sent_there = λ t x fx told a b q u h. there_keeps a b q u (fit.sent_there t x fx
            (record {
              fired = λ m. elim (told.fired m) [
                | inl k ↦ absurd (both_ways (is_memory image i) (ap (is_memory image) k.1 ∙ m) mem)
                | inr k ↦
                    k
              ];
              issued = told.issued;
            }) a b q u h);
        asked = λ t x fx m f. elim (with_key_cases w i (Some (operands_in image (arrived s w i p v).held w i))
            s.waiting x.wave x.instr) [
              | inl h ↦ inl (h.1 ∙ ap (λ (xs : List ℕ). Some xs) (the_operands ∙ ap (λ (y : Inst). y.operands)
                  (same_inst w i the_token.time t the_token.inst x the_token.at
                  (record { fires = fx; wave = sym h.0.wave; instr = sym h.0.instr }))))
              | inr h ↦
                  elim (fit.asked t x fx m
                  (elim f [ inl k ↦ absurd (h.0 (record { wave = k.0; instr = k.1 })) | inr k ↦ k ])) [
                    | inl k ↦ inl (h.1 ∙ k)
                    | inr k ↦ inr k
                  ]
            ];
        legal = record {
          cut = fit.legal.cut;
          ordered = fit.legal.ordered;
          settled = fit.legal.settled;
          halted = λ e. still_stopped (fit.legal.halted e);
        };
      }
        where
          still_stopped : StoppedAt image world fit.legal.cut s.waiting s.chain →
              StoppedAt image world fit.legal.cut
              (with_key w i (Some (operands_in image (arrived s w i p v).held w i)) s.waiting) s.chain
          still_stopped h = record {
            time = h.time;
            fault = h.fault;
            from = h.from;
            passed = h.passed;
            wave = h.wave;
            next = h.next;
            waits = elim (with_key_cases w i (Some (operands_in image (arrived s w i p v).held w i)) s.waiting
                h.fault.inst.wave h.fault.inst.instr) [
                  | inl k ↦ k.1 ∙ ap (λ (xs : List ℕ). Some xs) (the_operands ∙ ap (λ (y : Inst). y.operands)
                      (same_inst w i the_token.time h.time the_token.inst h.fault.inst the_token.at
                      (record { fires = h.fault.fired; wave = sym k.0.wave; instr = sym k.0.instr })))
                  | inr k ↦ k.1 ∙ h.waits
                ];
          }

      -- the instance sends its result
      module _ (plain : is_memory image i ≡ false) where
        the_result : result_of image i (operands_in image (arrived s w i p v).held w i)
            ≡ the_token.inst.result
        the_result = grind (arith, the_operands, the_token.at.instr, facts.plain, the_token.at.fires)

        new_tokens : List Token
        new_tokens = sends image w i (operands_in image (arrived s w i p v).held w i)
            (result_of image i (operands_in image (arrived s w i p v).held w i))

        the_tokens : new_tokens ≡ sends image the_token.inst.wave the_token.inst.instr the_token.inst.operands
            the_token.inst.result
        unfolding new_tokens
        the_tokens = rw (the_result, the_operands, the_token.at.wave, the_token.at.instr) refl

        tokens_right : (a b q u : ℕ) → IsSent new_tokens a b q u → RightToken image world a b q u
        tokens_right a b q u h = grind (arith, facts.sent, the_token.at.fires, the_tokens)

        new_way_right : (a b q u : ℕ) → put_all (arrived s w i p v).held new_tokens (arrived s w i p v).way a
            b q ≡ Some u → RightToken image world a b q u
        new_way_right a b q u e = grind (arith, put_all_from, way_right', tokens_right)

        -- each token of the list is held or on the way
        new_there : (a b q u : ℕ) → IsSent new_tokens a b q u → ((arrived s w i p v).held a b q ≡ Some u)
            ⊎ (put_all (arrived s w i p v).held new_tokens (arrived s w i p v).way a b q ≡ Some u)
        new_there a b q u h =
            let r = put_all_lands (arrived s w i p v).held new_tokens (arrived s w i p v).way a b q u h in
            elim r.1 [
              | inl k ↦
                  inl (k ∙ ap (λ (n : ℕ). Some n) (same_value a b q r.0 u (held_right' a b q r.0 k)
                  (tokens_right a b q u h)))
              | inr k ↦
                  inr (k ∙ ap (λ (n : ℕ). Some n) (same_value a b q r.0 u (new_way_right a b q r.0 k)
                  (tokens_right a b q u h)))
            ]

        still_there : (a b q u : ℕ) → IsThere s a b q u → ((arrived s w i p v).held a b q ≡ Some u)
            ⊎ (put_all (arrived s w i p v).held new_tokens (arrived s w i p v).way a b q ≡ Some u)
        still_there a b q u h = grind (arith, there_keeps, put_all_keeps)

        when_tells : Fit image world (tells image w i (arrived s w i p v))
        unfolding new_tokens
        when_tells = record {
          held_right = held_right';
          way_right = new_way_right;
          request_right = fit.request_right;
          one = λ a b q u e. put_all_held (arrived s w i p v).held new_tokens (arrived s w i p v).way a b q u
              e ∙ one' a b q u e;
          fired_full = fired_full'';
          full_fired = full_fired'';
          start_there = λ a b q u h. still_there a b q u (fit.start_there a b q u h);
          sent_there = λ t x fx told a b q u h. elim (cases_Bool (is_memory image x.instr)) [
            | inl m ↦
                still_there a b q u
                (fit.sent_there t x fx
                (record {
                  fired = λ m'. absurd (both_ways (is_memory image x.instr) m' m);
                  issued = told.issued;
                }) a b q u h)
            | inr m ↦ elim (told.fired m) [
              | inl k ↦
                  (let e : the_token.inst ≡ x = same_inst w i the_token.time t the_token.inst x the_token.at
                  (record { fires = fx; wave = sym k.0; instr = sym k.1 }) in
                  let g : new_tokens ≡ sends image x.wave x.instr x.operands x.result =
                  the_tokens ∙ ap (λ (y : Inst). sends image y.wave y.instr y.operands y.result) e in
                  new_there a b q u (rw g h))
              | inr k ↦
                  still_there a b q u
                  (fit.sent_there t x fx (record { fired = λ m'. k; issued = told.issued }) a b q u h)
            ]
          ];
          asked = λ t x fx m f. fit.asked t x fx m
              (elim f [
                | inl k ↦ absurd (both_ways (is_memory image i) plain (ap (is_memory image) k.1 ∙ m))
                | inr k ↦ k
              ]);
          legal = fit.legal;
        }

    pub match_fit : Fit image world (matched image s w i p v)
    unfolding matched
    match_fit = grind (arith, cond_both, when_asks, when_tells, not_full)

    -- what stood in s comes from the same instance
    from_keeps : (new : State) → ((a b : ℕ) → HasFired s.fired a b → HasFired new.fired a b)
        → ((a b : ℕ) → new.issued a b ≡ s.issued a b) →
        (a b q u : ℕ) → IsSent (start_tokens image) a b q u ⊎ FromInst image world s a b q u
        → IsSent (start_tokens image) a b q u ⊎ FromInst image world new a b q u
    from_keeps new more same a b q u i = grind arith

    there_before : (a b q u : ℕ) → IsThere (arrived s w i p v) a b q u → IsThere s a b q u
    there_before a b q u h = grind (arith, held_from, way_from)

    module _ (grounded : Grounded image world s) where
      not_full_grounded : Grounded image world (arrived s w i p v)
      not_full_grounded = grind (arith, from_keeps, grounded.tokens, there_before)

      asks_grounded : Grounded image world (asks image w i (arrived s w i p v))
      asks_grounded = grind (
        arith,
        from_keeps,
        grounded.tokens,
        there_before,
        with_key_cases,
        s.waiting,
        grounded.requests,
        grounded.issued,
      )

      module _ (full : is_full (arrived s w i p v).held w i (ports image i) ≡ true)
          (plain : is_memory image i ≡ false) where
        tells_from : (a b q u : ℕ) → IsThere (tells image w i (arrived s w i p v)) a b q u
            → IsThere s a b q u ⊎ IsSent (new_tokens full plain) a b q u
        unfolding new_tokens
        tells_from a b q u h = grind (arith, there_before, put_all_from)

        tells_grounded : Grounded image world (tells image w i (arrived s w i p v))
        tells_grounded = record {
          tokens = λ a b q u h. elim (tells_from a b q u h) [
            | inl k ↦ from_keeps (tells image w i (arrived s w i p v)) (λ c d k'. inr k') (λ c d. refl) a b q
                u (grounded.tokens a b q u k)
            | inr k ↦ inr (record {
              time = the_token.time;
              inst = the_token.inst;
              fires = the_token.at.fires;
              fired = inl (sym the_token.at.wave, sym the_token.at.instr);
              told = record {
                fired = λ m. inl (sym the_token.at.wave, sym the_token.at.instr);
                issued = λ m.
                    absurd (both_ways (is_memory image i) plain (ap (is_memory image) (sym the_token.at.instr)
                    ∙ m));
              };
              sent = rw (the_tokens full plain) at k;
            })
          ];
          requests = λ a b xs e. inr (grounded.requests a b xs e);
          issued = λ a b n e. inr (grounded.issued a b n e);
        }

      pub match_grounded : Grounded image world (matched image s w i p v)
      unfolding matched
      match_grounded = grind (arith, cond_both, asks_grounded, tells_grounded, not_full_grounded)
