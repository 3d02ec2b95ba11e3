-- An issue keeps the buffer legal.
use Rattle.std.proofs.Common.{ℕ, suc, ◌≡◌, ◌<◌, ◌≤◌, ◌⊎◌, Bool, true, false, List, Option, Some, sym, ap, ◌∙◌}
use Rattle.std.proofs.Common.{inl, inr, arith}
use Rattle.std.proofs.lemmas.Bool.{cases_Bool, cases_lt, both_ways}
use Rattle.ws_words.specs.Outside.{Outside, World}
use Rattle.ws_isa.specs.Image.{Image, is_memory, is_load, note_of, answer, is_past}
use Rattle.ws_isa.specs.Walk.{Inst, fires}
use Rattle.df_core.specs.Effect.{effect_at, effect_after}
use Rattle.df_core.specs.Core.{Chain, IsNext, NoneNext, Passes, stays, passes, pass, Issuable, issued_with}
use Rattle.df_core.specs.Fit.{FiresAt, chain_at, NoWrite, NoOp, Ordered, Legal}
use Rattle.df_core.proofs.Walked.Facts.{WalkFacts}
use Rattle.df_core.proofs.Keeping.Ports.{SameKey, with_key_cases, with_key_same}
use Rattle.ws_isa.specs.Operations.{FaultsAt}
use Rattle.df_core.proofs.Walked.Past.{past_is, plain_within}
use Rattle.df_core.proofs.Walked.Effects.{effect_quiet}
use Rattle.df_core.proofs.Walked.Pauses.{load_quiet, no_op_no_write, mem_same}
use Rattle.df_core.proofs.Keeping.Passing.{later_op, later, passes_legal}

module _ (image : Image) (world : World) (facts : WalkFacts image world) (issued : ℕ → ℕ → Option ℕ)
    (chain : Chain) (stopped : Bool) (memory : Outside) (settled : NoneNext image issued chain) (w i : ℕ)
    (xs : List ℕ) (may : Issuable image issued chain stopped w i xs)
    (u : ℕ) (x : Inst) (at : FiresAt image world w i u x) (xs_are : x.operands ≡ xs)
    (mi : is_memory image i ≡ true)
    (cut : ℕ) (ord : Ordered image world cut issued chain memory) where
  mx : is_memory image x.instr ≡ true
  mx = ap (is_memory image) at.instr ∙ mi

  wave_now : x.wave ≡ (chain_at image world cut).wave
  wave_now = at.wave ∙ may.current ∙ ap (λ (d : Chain). d.wave) ord.chain

  pub from : cut ≤ u
  from = grind (arith, cases_lt, mx)

  quiet : NoWrite image world cut u
  quiet = elim may.turn [
    | inl n ↦ no_op_no_write image world cut u (facts.only_first cut u x at.fires mx wave_now
        (rw (at.instr, ← ord.chain) n))
    | inr l ↦ grind (arith, facts.rippled, from, at.fires, wave_now)
  ]

  memory_now : effect_at image world u ≡ memory
  memory_now = mem_same image world facts cut u from quiet ∙ sym ord.memory

  pub answer_right : answer image i xs memory ≡ x.result
  answer_right = rw (← memory_now, ← xs_are, ← at.instr) (sym (facts.answered u x at.fires mx))

  pub here : issued_with image issued memory w i xs x.wave x.instr ≡ Some x.result
  here = grind (arith, with_key_same, answer_right)

  still_passed : (t : ℕ) (y : Inst) → t < cut → fires image world t ≡ Some y → is_memory image y.instr ≡ true
      → issued_with image issued memory w i xs y.wave y.instr ≡ Some y.result
  still_passed t y l fy my = grind (arith, with_key_cases)

  -- an issued operation: this one, or one that was issued before
  pub issued_from : (a b n : ℕ) → issued_with image issued memory w i xs a b ≡ Some n
      → (SameKey w i a b × (n ≡ x.result)) ⊎ (issued a b ≡ Some n)
  issued_from a b n e = grind (arith, with_key_cases, answer_right)

  module _ (inside : is_past image i xs ≡ false) (waiting : ℕ → ℕ → Option (List ℕ)) where
    here_within : is_past image x.instr x.operands ≡ false
    here_within = rw (xs_are, at.instr) inside

    pub next_ordered : IsNext chain (note_of image i) → Ordered image world (suc u)
        (issued_with image issued memory w i xs) (pass chain (note_of image x.instr))
        (effect_after image i xs memory)
    next_ordered nx =
        let nx' : IsNext (chain_at image world cut) (note_of image x.instr) = rw (at.instr, ← ord.chain) nx in
        let first : NoOp image world cut u = facts.only_first cut u x at.fires mx wave_now nx' in
        let after_u : effect_after image i xs memory ≡ effect_at image world (suc u) =
        rw (← memory_now, ← xs_are, ← at.instr) (sym (facts.mem_op u x at.fires mx)) in
        later image world facts cut u x from first at.fires mx (issued_with image issued memory w i xs) chain
        (effect_after image i xs memory) still_passed ord.within here_within ord.chain after_u here
        (λ a b n e. elim (issued_from a b n e) [
          | inl h ↦ (record {
            time = u;
            inst = x;
            at = record { fires = at.fires; wave = at.wave ∙ h.0.wave; instr = at.instr ∙ h.0.instr };
            memory = ap (is_memory image) (sym h.0.instr) ∙ mi;
            answer = h.1;
            place = inl (omega arith);
          })
          | inr h ↦ later_op image world facts cut u x from first at.fires mx a b n (ord.others a b n h)
        ])

    pub early_ordered : is_load image i ≡ true → Ordered image world cut
        (issued_with image issued memory w i xs) chain (effect_after image i xs memory)
    early_ordered l = record {
      passed = still_passed;
      within = ord.within;
      chain = ord.chain;
      memory = grind (arith, effect_quiet, load_quiet);
      others = λ a b n e. elim (issued_from a b n e) [
        | inl h ↦ (record {
          time = u;
          inst = x;
          at = record { fires = at.fires; wave = at.wave ∙ h.0.wave; instr = at.instr ∙ h.0.instr };
          memory = ap (is_memory image) (sym h.0.instr) ∙ mi;
          answer = h.1;
          place = inr (
            from,
            record {
              load = ap (is_load image) at.instr ∙ l;
              within = here_within;
              wave = wave_now;
              no_write = quiet;
            },
          );
        })
        | inr h ↦ ord.others a b n h
      ];
    }

    new_legal_next : IsNext chain (note_of image i) → (c : Chain)
        → Passes image (issued_with image issued memory w i xs) chain c
        → Legal image world (issued_with image issued memory w i xs) waiting stopped c
        (effect_after image i xs memory)
    new_legal_next nx c (stays none) =
        absurd (none i (answer image i xs memory)
        (rw (← may.current) (with_key_same w i (Some (answer image i xs memory)) issued)) nx)
    new_legal_next nx c (passes j a e nj rest) =
        let ij : i ≡ j = elim (issued_from chain.wave j a e) [
          | inl h ↦ h.0.instr
          | inr h ↦
              absurd (settled j a h nj)
        ] in
        let e' : x.instr ≡ j = at.instr ∙ ij in
        let o : Ordered image world (suc u) (issued_with image issued memory w i xs)
        (pass chain (note_of image x.instr)) (effect_after image i xs memory) = next_ordered nx in
        passes_legal image world facts (issued_with image issued memory w i xs) waiting stopped may.going
        (pass chain (note_of image j)) c (effect_after image i xs memory) (suc u) rest (rw e' at o)

    new_legal_early : is_load image i ≡ true → (c : Chain)
        → Passes image (issued_with image issued memory w i xs) chain c
        → Legal image world (issued_with image issued memory w i xs) waiting stopped c
        (effect_after image i xs memory)
    new_legal_early l c p = grind (arith, passes_legal, early_ordered)

    pub new_legal : (c : Chain) → Passes image (issued_with image issued memory w i xs) chain c
        → Legal image world (issued_with image issued memory w i xs) waiting stopped c
        (effect_after image i xs memory)
    new_legal c p = elim may.turn [ inl n ↦ new_legal_next n c p | inr l ↦ new_legal_early l.0 c p ]

  -- past the end: it is next, and all before it are passed
  module _ (beyond : is_past image i xs ≡ true) (waiting : ℕ → ℕ → Option (List ℕ))
      (waits : waiting w i ≡ Some xs) where
    pub here_past : is_past image x.instr x.operands ≡ true
    here_past = rw (xs_are, at.instr) beyond

    is_next : IsNext chain (note_of image i)
    is_next = elim may.turn [ inl n ↦ n | inr l ↦ absurd (both_ways (is_past image i xs) l.1 beyond) ]

    pub none_between : NoOp image world cut u
    none_between = facts.only_first cut u x at.fires mx wave_now (rw (at.instr, ← ord.chain) is_next)

    unfoldable pub fault_here : FaultsAt image world u
    fault_here = record {
      inst = x;
      fired = at.fires;
      is_past = past_is image x ∙ here_past;
      first = λ t y l fy. past_is image y ∙ elim (cases_Bool (is_memory image y.instr)) [
        | inl my ↦ elim (cases_lt t cut) [
          | inl h ↦ ord.within t y h fy my
          | inr h ↦
              absurd (none_between t y h l fy my)
        ]
        | inr my ↦ plain_within image y.instr y.operands my
      ];
    }

    pub stop_legal : Legal image world issued waiting true chain memory
    unfolding fault_here
    stop_legal = record {
      cut = cut;
      ordered = ord;
      settled = settled;
      halted = λ e. record {
        time = u;
        fault = fault_here;
        from = from;
        passed = none_between;
        wave = at.wave ∙ may.current;
        next = rw at.instr is_next;
        waits = rw (at.wave, at.instr) (waits ∙ ap (λ (ys : List ℕ). Some ys) (sym xs_are));
      };
    }
