-- Where a run ends.
use Rattle.std.proofs.Common.{◌≡◌, ◌+◌, ◌<◌, ◌≤◌, ◌⊎◌, inl, inr, ℕ, true, false, List, Option, Some, None}
use Rattle.std.proofs.Common.{is_some, length, sym, refl, ap, ◌∙◌, subst, arith}
use Rattle.std.proofs.lemmas.Bool.{both_ways, and_parts}
use Rattle.ws_words.specs.Outside.{Outside, World}
use Rattle.ws_isa.specs.Image.{Image, Token, ports, is_memory}
use Rattle.ws_isa.specs.Formed.{Formed}
use Rattle.ws_isa.specs.Walk.{Inst, mem, walk}
use Rattle.ws_isa.specs.Operations.{ops, effect_of, Effect}
use Rattle.ws_isa.specs.Sound.{Sound}
use Rattle.df_core.specs.Effect.{effect_at}
use Rattle.df_core.specs.Core.{State, Issue, Enabled, HasFired, Once, has, operands_in}
use Rattle.df_core.specs.Fit.{Fit, FiresAt, NoOp, RightToken}
use Rattle.df_core.specs.Ends.{WholeRun, AtFault, Passed}
use Rattle.df_core.specs.Shown.{Tables, Buffer, TablesOk, OwesNothing, NoneIssuable, owed, shown, lists}
use Rattle.df_core.proofs.Walked.Facts.{WalkFacts}
use Rattle.df_core.proofs.Walked.FromSound.{facts_of}
use Rattle.df_core.proofs.Walked.PortsThere.{ports_there}
use Rattle.df_core.proofs.Walked.Effects.{effect_is}
use Rattle.df_core.proofs.Walked.Pauses.{no_op_no_write, mem_same}
use Rattle.df_core.proofs.Telling.Ends.{one_fault}
use Rattle.df_core.proofs.Telling.ShownFit.{lists_true}
use Rattle.df_core.proofs.Telling.Firings.{StepsOf, none_fires, steps_of}
use Rattle.df_core.specs.Began.{Began}
use Rattle.df_core.specs.Rights.{IsRight}
use Rattle.store_buf.specs.declared.kept.Kept.{Kept}
use Rattle.store_buf.specs.Requests.{entry_of, operands_if}
use Rattle.store_buf.specs.Contents.{Content, FaultIs, IsBuffer, buffer_in}
use Rattle.store_buf.specs.Outdoors.{HoldsOut}
use Rattle.store_buf.proofs.Outside.{out_of}
use Rattle.fire_crew.specs.Owing.{AllKnown, HaveCome, IsMissing}
use Rattle.fire_crew.specs.Ends.{AllRun, SomeRun, FaultRun}
use Rattle.df_core.proofs.Telling.Owing.{nothing, some_only, waits_cases}
use Rattle.ws_words.proofs.Places.{nth_short}

kept_of : (image : Image) (o : Option Kept) → is_some o ≡ true → (xs : List ℕ)
    × (operands_if image o ≡ Some xs)
kept_of image None e = cc
kept_of image (Some k) e = (_, refl)

module _ (image : Image) (world : World) (formed : Formed image) (sound : Sound image)
    (began : List (Option Began)) (t : Tables) (tok : TablesOk image world t) (once : Once t.fired)
    (c : Content) (m : Outside) (is : IsBuffer image world began c m)
    (fit : Fit image world (shown image t (buffer_in image c m))) where
  facts : WalkFacts image world
  facts = facts_of image world (ports_there image formed) sound

  abbrev b : Buffer
  b = buffer_in image c m

  abbrev s : State
  s = shown image t b

  fired_is : s.fired ≡ t.fired
  unfolding shown
  fired_is = refl

  pub shown_once : Once s.fired
  shown_once = subst Once (sym fired_is) once

  memory_is : s.memory ≡ m
  unfolding shown
  memory_is = refl

  stopped_is : s.stopped ≡ has c.fault
  unfolding shown
  stopped_is = refl

  pub not_stopped : c.fault ≡ None → s.stopped ≡ false
  not_stopped e = stopped_is ∙ ap has e

  requests : AllKnown image t c.kept → (w i : ℕ) → HasFired t.fired w i → is_memory image i ≡ true
      → (xs : List ℕ) × (b.kept w i ≡ Some xs)
  requests known w i h mm = kept_of image (entry_of c.kept w i) (known w i h mm)

  out_at : (n : ℕ) → effect_at image world n ≡ s.memory → HoldsOut began (mem image world n) c.outside
  out_at n e = out_of began (mem image world n) c.outside (subst (λ (o : Outside). HoldsOut began o c.outside)
      (sym memory_is ∙ sym e ∙ effect_is image world n) is.outside)

  pub owes : AllKnown image t c.kept → HaveCome t.held (owed image t b) → OwesNothing image t b
  owes known come = record { tokens = come; requests = requests known }

  whole_only : c.fault ≡ None → WholeRun image world s ⊎ AtFault image world s → WholeRun image world s
  whole_only v0 v1 = grind (arith, both_ways, not_stopped)

  pub all_run : c.fault ≡ None → WholeRun image world s ⊎ AtFault image world s
      → ((w : WholeRun image world s) (n : ℕ) → length (walk image world n) ≤ length s.fired)
      → (n : ℕ) × (length s.fired ≤ length (walk image world n)) → AllRun image world began t.fired c.outside
  all_run e either counted f =
      let w = whole_only e either in
      let all : (n : ℕ) → length (walk image world n) ≤ length t.fired = λ n. rw (← fired_is) (counted w n) in
      record {
        no_fault = w.within;
        cost = all;
        steps = f.0;
        count = (let a = all f.0 in let d : length t.fired ≤ length (walk image world f.0) =
            rw (← fired_is) f.1 in omega (arith, a, d));
        all = λ n x fx. rw (← fired_is) (w.fired n x fx);
        left = λ n l. out_at _ (
            let quiet : NoOp image world n (n + w.end) = none_fires _ _ _ _ _ all l in
            sym (mem_same _ _ facts _ _ (omega arith)
            (no_op_no_write _ _ _ _ quiet)) ∙ w.memory (n + w.end) (omega arith));
      }

  -- nothing may be issued
  pub none_issues : AllKnown image t c.kept → NoneIssuable image b → (w i : ℕ) → Enabled image s (Issue w i)
      → ⊥
  unfolding shown
  none_issues known none w i e = elim (waits_cases (b.issued w i) (b.kept w i) _ e.0 e.1.waits) [
    | inl h ↦
        none w i e.0 h (grind arith)
    | inr h ↦
        (let q = and_parts (lists t.fired w i) (is_memory image i)
        (some_only _ (operands_in image t.held w i) e.0 h.1) in
        let r = requests known w i (lists_true t.fired w i q.0) q.1 in
        nothing r.0 (sym h.0 ∙ r.1))
  ]

  -- an instance of which a token is missing hasn't fired
  pub not_fired : (x : Token) (right : IsRight image world x) → IsMissing t.held x
      → HasFired s.fired right.inst.wave right.inst.instr → ⊥
  not_fired x right missing h =
      let f = tok.fired_full x.wave x.instr (grind (arith, fired_is)) in
      let l = nth_short right.inst.operands x.port x.value right.operand in
      let n : length right.inst.operands ≡ ports image x.instr = facts.filled right.time right.inst
      right.at.fires ∙ ap (ports image) right.at.instr in
      let g = f.1 x.port (omega (arith, l, n)) in
      nothing g.0 (sym missing ∙ g.1)

  fired_at : (w i : ℕ) → HasFired s.fired w i → (t : ℕ) × (x : Inst) × FiresAt image world w i t x
  fired_at w i has =
      let f = fit.fired_full w i has in
      let g = f.1 0 f.0 in
      let r : RightToken image world w i 0 g.0 = fit.held_right w i 0 g.0 g.1 in
      (r.time, r.inst, r.at)

  pub some_run : (n : ℕ) × (length s.fired < length (walk image world n)) → (p : ℕ) × Passed image world s p
      → SomeRun image world began t.fired c.outside
  some_run r q =
      let of : StepsOf image world s.fired = steps_of image world facts s.fired shown_once fired_at in
      let count : length (ops image world q.1.memory.steps) ≡ q.0 = q.1.memory.count in
      record {
        dear = λ cost. (grind (arith, fired_is));
        steps = of.steps;
        firing = of.firing;
        listed_there = λ n x at fx. subst (λ ks. HasFired ks x.wave x.instr) fired_is (of.only n x at fx);
        count = of.count ∙ ap length fired_is;
        front = q.1.memory.steps;
        most = λ n f. (let k : length (ops image world n) ≤ q.0 =
            q.1.most n (λ u x fx mx l. of.only u x (f u x fx mx l) fx) in omega (arith, k, count));
        within = q.1.within q.1.memory.steps (omega (arith, count));
        left = out_at q.1.memory.steps (effect_is image world q.1.memory.steps ∙ q.1.memory.left);
      }

  pub stopped_so : (array : ℕ) → c.fault ≡ Some array → s.stopped ≡ true
  stopped_so array e = stopped_is ∙ ap has e

  pub fault_run : (array : ℕ) → c.fault ≡ Some array → AtFault image world s
      → ((p : ℕ) (one other : Outside) → Effect image world p one → Effect image world p other → one ≡ other)
      → FaultRun image world began array c.outside
  fault_run array e at same =
      let f = subst (λ (o : Option ℕ). FaultIs image world o) e is.fault in
      let times : at.time ≡ f.0 = one_fault image world facts at.time f.0 at.fault f.1 in
      let left : Effect image world (length (ops image world f.0)) s.memory = rw (← times) at.memory in
      let here : Effect image world (length (ops image world f.0)) (effect_of (mem image world f.0)) =
      record { steps = f.0; count = refl; left = refl } in
      record {
        time = f.0;
        fault = f.1;
        array_is = f.2;
        left = out_at f.0 (effect_is image world f.0 ∙ same (length (ops image world f.0))
            (effect_of (mem image world f.0)) s.memory here left);
      }
