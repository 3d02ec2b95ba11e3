-- Where a fit state is at rest, stopped, or has no request that is issuable.
use Rattle.std.proofs.Common.{ℕ, suc, ◌+◌, ◌≡◌, ◌<◌, ◌≤◌, ◌⊎◌, true, false, length, Some, refl, sym, ◌∙◌}
use Rattle.std.proofs.Common.{subst, inl, inr, arith}
use Rattle.std.proofs.lemmas.Bool.{cases_Bool, cases_lt, both_ways}
use Rattle.ws_words.specs.Outside.{Outside, World}
use Rattle.ws_isa.specs.Image.{Image, is_memory, is_past}
use Rattle.ws_isa.specs.Walk.{Inst, fires}
use Rattle.ws_isa.specs.Operations.{ops, past, Effect, FaultsAt}
use Rattle.df_core.specs.Effect.{effect_at}
use Rattle.df_core.specs.Core.{State, HasFired, Issue, Enabled, Rest}
use Rattle.df_core.specs.Fit.{IssuedOp, NoOp, Fit, Grounded}
use Rattle.df_core.specs.Ends.{WholeRun, AtFault, FirstWithin, AfterFired, Passed}
use Rattle.df_core.proofs.Walked.Facts.{WalkFacts}
use Rattle.df_core.proofs.Walked.Past.{past_is, plain_within}
use Rattle.df_core.proofs.Walked.Effects.{effect_is}
use Rattle.df_core.proofs.Walked.Pauses.{no_op_no_write, mem_same}
use Rattle.df_core.proofs.Telling.Progress.{rest_done}
use Rattle.df_core.proofs.Telling.OpsPassed.{none_left}
use Rattle.df_core.proofs.Telling.OpsCount.{count_same}
use Rattle.df_core.proofs.Keeping.MatchKept.{same_inst}
use Rattle.ws_isa.proofs.OneEffect.{fired_more, ops_up}

module _ (image : Image) (world : World) (facts : WalkFacts image world) where
  -- two first faults are one
  pub one_fault : (t u : ℕ) → FaultsAt image world t → FaultsAt image world u → t ≡ u
  one_fault t u f g = grind (arith, cases_lt, both_ways)

  mem_quiet : (cut t : ℕ) → cut ≤ t → NoOp image world cut t → effect_at image world t ≡ effect_at image world
      cut
  mem_quiet cut t l n = mem_same image world facts cut t l (no_op_no_write image world cut t n)

  -- what was issued is within its array
  issued_within : (s : State) → Fit image world s → (t : ℕ) (x : Inst) → fires image world t ≡ Some x
      → (a : ℕ) → s.issued x.wave x.instr ≡ Some a → is_past image x.instr x.operands ≡ false
  issued_within s fit t x fx a e =
      let op : IssuedOp image world fit.legal.cut x.wave x.instr a = fit.legal.ordered.others x.wave x.instr a
      e in grind (arith, same_inst, x.instr, op.at, op.place, fit.legal.ordered.within, op.at.fires)

  pub at_fault : (s : State) → Fit image world s → s.stopped ≡ true → AtFault image world s
  at_fault s fit e = let h = fit.legal.halted e in record {
    stopped = e;
    time = h.time;
    fault = h.fault;
    memory = record {
      steps = h.time;
      count = refl;
      left = sym (effect_is image world h.time)
          ∙ mem_quiet fit.legal.cut h.time h.from h.passed ∙ sym fit.legal.ordered.memory;
    };
  }

  module _ (s : State) (fit : Fit image world s) (going : s.stopped ≡ false) where
    first_below : (t u : ℕ) (x : Inst) → fires image world u ≡ Some x → is_memory image x.instr ≡ true
        → length (ops image world u) < length (ops image world t) → u < t
    first_below t u x fx mx l = grind (arith, cases_lt, ops_up)

    few_left : (t : ℕ) → NoOp image world fit.legal.cut t → length (ops image world t)
        ≤ length (ops image world fit.legal.cut)
    few_left t n = grind (arith, cases_lt, ops_up, count_same)

    below_first : (t u : ℕ) (x : Inst) → u < t → fires image world u ≡ Some x → is_memory image x.instr ≡ true
        → length (ops image world u) < length (ops image world t)
    below_first t u x l fx mx =
        let a : length (ops image world (suc u)) ≡ suc (length (ops image world u)) =
        fired_more image world u x fx mx in grind (arith, ops_up)

    -- no operation that is passed is past the end
    steps_within : (t : ℕ) → length (ops image world t) ≤ length (ops image world fit.legal.cut)
        → FirstWithin image world t
    steps_within t c u x l fx = past_is image x ∙ elim (cases_Bool (is_memory image x.instr)) [
      | inl mx ↦
          fit.legal.ordered.within u x (first_below fit.legal.cut u x fx mx
          (omega (arith, c, below_first t u x l fx mx))) fx mx
      | inr mx ↦ plain_within image x.instr x.operands mx
    ]

    pub passed : ((w i : ℕ) → Enabled image s (Issue w i) → ⊥)
        → Passed image world s (length (ops image world fit.legal.cut))
    passed no_issue = record {
      memory = grind (arith, effect_is);
      within = steps_within;
      most = λ t f. few_left t (none_left image world facts s fit going no_issue t
          (λ k y l fy my. f k y fy my (below_first t k y l fy my)));
    }

    pub after_fired : Grounded image world s → ((w i : ℕ) → Enabled image s (Issue w i) → ⊥)
        → AfterFired image world s (length (ops image world fit.legal.cut))
    after_fired grounded no_issue = record {
      memory = (passed no_issue).memory;
      within = (passed no_issue).within;
      fired = λ t x fx mx l. grounded.issued x.wave x.instr x.result
          (fit.legal.ordered.passed t x (first_below fit.legal.cut t x fx mx l) fx mx);
      most = (passed no_issue).most;
    }

    module _ (rest : Rest image s) where
      has_fired : (t : ℕ) (x : Inst) → fires image world t ≡ Some x → HasFired s.fired x.wave x.instr
      has_fired t x fx = (rest_done image world facts s fit rest going t x fx).fired

      has_issued : (t : ℕ) (x : Inst) → fires image world t ≡ Some x → is_memory image x.instr ≡ true
          → (a : ℕ) × (s.issued x.wave x.instr ≡ Some a)
      has_issued t x fx mx = (rest_done image world facts s fit rest going t x fx).issued mx

      all_passed : (t : ℕ) → NoOp image world fit.legal.cut t
      all_passed t = none_left image world facts s fit going (λ w i e. rest (Issue w i) e) t
          (λ k y l fy my. has_fired k y fy)

      no_fault : (t : ℕ) (x : Inst) → fires image world t ≡ Some x → past image x ≡ false
      no_fault t x fx = grind (arith, past_is, cases_Bool, has_issued, issued_within, plain_within)

      pub whole : WholeRun image world s
      whole = record {
        going = going;
        fired = has_fired;
        issued = has_issued;
        within = no_fault;
        end = fit.legal.cut;
        memory = λ t l. mem_quiet fit.legal.cut t l (all_passed t) ∙ sym fit.legal.ordered.memory;
      }

  pub rest_ends : (s : State) → Fit image world s → Rest image s → WholeRun image world s
      ⊎ AtFault image world s
  rest_ends s fit rest = grind (arith, cases_Bool, at_fault, whole)

  -- two effects of as many operations are one
  pub same_effect : (p : ℕ) (m n : Outside) → Effect image world p m → Effect image world p n → m ≡ n
  same_effect p m n a b = sym a.left ∙ sym (effect_is image world a.steps) ∙ between
      ∙ effect_is image world b.steps ∙ b.left
    where
      quiet : (t u : ℕ) → t ≤ u → length (ops image world t) ≡ length (ops image world u)
          → NoOp image world t u
      quiet t u l e k x c d fx mx =
          let f : length (ops image world (suc k)) ≡ suc (length (ops image world k)) =
          fired_more image world k x fx mx in
          let g : length (ops image world t) ≤ length (ops image world k) = ops_up image world t k c in
          let h : length (ops image world (suc k)) ≤ length (ops image world u) =
          ops_up image world (suc k) u d in
          omega arith

      between : effect_at image world a.steps ≡ effect_at image world b.steps
      between = elim (cases_lt a.steps b.steps) [
        | inl l ↦
            sym (mem_quiet a.steps b.steps (omega arith)
            (quiet a.steps b.steps (omega arith) (a.count ∙ sym b.count)))
        | inr l ↦ mem_quiet b.steps a.steps l (quiet b.steps a.steps l (b.count ∙ sym a.count))
      ]

  -- two states that end leave the same memory
  pub same_memory : (s t : State) → WholeRun image world s ⊎ AtFault image world s
      → WholeRun image world t ⊎ AtFault image world t → s.memory ≡ t.memory
  same_memory s t (inl a) (inl b) = sym (a.memory (a.end + b.end) (omega arith))
      ∙ b.memory (a.end + b.end) (omega arith)
  same_memory s t (inl a) (inr b) = grind (arith, both_ways, a.within)
  same_memory s t (inr a) (inl b) = grind (arith, both_ways, b.within)
  same_memory s t (inr a) (inr b) = let e : a.time ≡ b.time = one_fault a.time b.time a.fault b.fault in
      same_effect (length (ops image world b.time)) s.memory t.memory
      (subst (λ (n : ℕ). Effect image world (length (ops image world n)) s.memory) e a.memory) b.memory
