-- What the end of a run says of the walk.
use Rattle.std.proofs.Common.{ℕ, ◌+◌, ◌≡◌, ◌<◌, ◌≤◌, ◌⊎◌, true, false, List, [], length, refl, sym, ◌∙◌}
use Rattle.std.proofs.Common.{subst, ap, drop, arith}
use Rattle.std.proofs.lemmas.Bool.{both_ways}
use Rattle.ws_words.specs.Outside.{Outside, World, printed_words}
use Rattle.ws_isa.specs.Image as plain
use Rattle.ws_isa.specs.Image.{Image}
use Rattle.ws_isa.specs.Formed.{Formed}
use Rattle.ws_isa.specs.Walk.{mem, walk, CostAtMost}
use Rattle.ws_isa.specs.Operations.{ops, effect_of, Effect, FaultsAt, NoFault}
use Rattle.ws_isa.specs.Sound.{Sound}
use Rattle.df_core.specs.Effect.{effect_at}
use Rattle.df_core.specs.Core.{State, core_opening}
use Rattle.df_core.specs.Fit.{NoOp}
use Rattle.df_core.specs.Ends.{WholeRun, AtFault, AfterFired}
use Rattle.df_core.proofs.Walked.Facts.{WalkFacts}
use Rattle.df_core.proofs.Walked.FromSound.{facts_of}
use Rattle.df_core.proofs.Walked.PortsThere.{ports_there}
use Rattle.df_core.proofs.Walked.Effects.{effect_is}
use Rattle.df_core.proofs.Walked.Pauses.{no_op_no_write, mem_same}
use Rattle.df_core.proofs.Keeping.Reached.{Kept}
use Rattle.df_core.proofs.Telling.Ends.{rest_ends, at_fault, after_fired, same_effect, one_fault}
use Rattle.df_core.proofs.Telling.Counting.{rest_count, fired_count, way_count}
use Rattle.df_core.proofs.Telling.Place.{fault_place}
use Rattle.df_core.specs.declared.drive.Finish.{Finish}
use Rattle.df_core.specs.declared.drive.Finish.TheVariants as finish
use Rattle.df_core.specs.declared.flow.Flow.{Flow}
use Rattle.df_core.specs.declared.memory.Memory.{Memory}
use Rattle.df_core.specs.Flows.{IsFault, FlowIs, Reaches}
use Rattle.df_core.specs.Finishes.{FinishIs, IsSpent, Ended, is_budget}
use Rattle.df_core.specs.declared.answer.Done.{Done}
use Rattle.df_core.specs.Told.{done_with, done_of, run_from, run_of}
use Rattle.df_core.specs.Answer.{Tells, Rested, CutShort, Faulted, RunSo}
use Rattle.df_core.proofs.Parts.Issuing.{printed_alike, ports_alike}
use Rattle.df_core.proofs.Telling.Firings.{none_fires}
use Rattle.df_core.specs.Outdoors.{MemoryIs}

pub no_fault_at : (image : Image) (world : World) → NoFault image world → (t : ℕ) → FaultsAt image world t → ⊥
no_fault_at image world none t f = both_ways _ (none t f.inst f.fired) f.is_past

going_rest : (image : Image) (world : World) (s : State) → s.stopped ≡ false
    → WholeRun image world s ⊎ AtFault image world s → WholeRun image world s
going_rest image world s going h = grind (arith, both_ways)

-- an effect tells what is outside: loads neither print, nor store, nor give words to ports
tells : (o : Outside) (flow : Flow) → MemoryIs (effect_of o) flow.memory
    → Tells o (done_with (printed_words (effect_of o).acts) flow)
tells o flow h = grind (arith, printed_alike, ports_alike)

-- what a flow tells, with all words that were printed
abbrev pub told_at : State → Flow → Done
told_at s flow = done_with (printed_words s.memory.acts) flow

-- where none were let go, all words are kept
pub all_kept : (o : Outside) (m : Memory) → MemoryIs o m → m.gone ≡ 0 → printed_words o.acts ≡ m.printed.items
all_kept o m h none = sym (h.same_printed ∙ ap (λ (n : ℕ). drop n (printed_words o.acts)) none)

pub told_whole : (o : Outside) (flow : Flow) → MemoryIs o flow.memory → flow.memory.gone ≡ 0
    → done_with (printed_words o.acts) flow ≡ done_of flow
told_whole o flow h none =
    ap (λ (words : List ℕ). done_with words flow) (all_kept o flow.memory h none)

module _ (image : Image) (world : World) (facts : WalkFacts image world) (budget : ℕ)
    (taken : List plain.Token) (flow : Flow) (s : State) (k : Kept image world s)
    (h : FlowIs image world taken flow s) where
  tells_at : (t : ℕ) → effect_at image world t ≡ s.memory → Tells (mem image world t) (told_at s flow)
  tells_at t e =
      let same : s.memory ≡ effect_of (mem image world t) = sym e ∙ effect_is image world t in
      subst (λ (words : List ℕ). Tells (mem image world t) (done_with words flow))
      (ap (λ (o : Outside). printed_words o.acts) (sym same))
      (tells (mem image world t) flow (subst (λ (o : Outside). MemoryIs o flow.memory) same h.memory_is))

  rested : flow.fired ≤ budget → WholeRun image world s → Rested image world budget (told_at s flow)
  rested within w =
      let f = fired_count image world facts s k.fit k.once in
      let n : length s.fired ≡ flow.fired = h.count_is in
      let all : (t : ℕ) → length (walk image world t) ≤ length s.fired =
      rest_count image world facts s k.fit w.fired in
      let cost : CostAtMost image world flow.fired =
      λ t. (let a : length (walk image world t) ≤ length s.fired = all t in omega arith) in
      record {
        no_fault = w.within;
        steps = f.0;
        fired = (let a : length (walk image world f.0) ≤ length s.fired = all f.0 in
            let b : length s.fired ≤ length (walk image world f.0) = f.1 in omega arith);
        cost = cost;
        within = within;
        left = λ t l. tells_at t (
            let quiet : NoOp image world t (t + w.end) = none_fires image world flow.fired t (t + w.end) cost
            l in
            sym (mem_same image world facts t (t + w.end) (omega arith)
            (no_op_no_write image world t (t + w.end) quiet)) ∙ w.memory (t + w.end) (omega arith)
            );
      }

  cut : IsSpent image budget s → CutShort image world budget (told_at s flow)
  cut p =
      let after = after_fired image world facts s k.fit p.going k.grounded p.settled in
      record {
        dear = λ cost. (let r = way_count image world facts s k.fit k.once p.wave p.instr p.port p.value
            p.on_way in let l : length s.fired < length (walk image world r.0) = r.1 in
            let c : length (walk image world r.0) ≤ budget = cost r.0 in omega (arith, p.count));
        fired = sym h.count_is ∙ p.count;
        state = s;
        fit = k.fit;
        grounded = k.grounded;
        once = k.once;
        count = p.count;
        passed = _;
        after = after;
        front = after.memory.steps;
        front_has = after.memory.count;
        within = after.within after.memory.steps (let e : length (ops image world after.memory.steps) ≡ _ =
            after.memory.count in omega arith);
        left = tells_at after.memory.steps (effect_is image world after.memory.steps ∙ after.memory.left);
      }

  faulted : flow.fired ≤ budget → s.stopped ≡ true → (array : ℕ) → IsFault image world array
      → Faulted image world budget array (told_at s flow)
  faulted within e array f =
      let at : AtFault image world s = at_fault image world facts s k.fit e in
      let same : at.time ≡ f.time = one_fault image world facts at.time f.time at.fault f.fault in
      let left : Effect image world (length (ops image world f.time)) s.memory =
      subst (λ (t : ℕ). Effect image world (length (ops image world t)) s.memory) same at.memory in
      let here : Effect image world (length (ops image world f.time)) (effect_of (mem image world f.time)) =
      record { steps = f.time; count = refl; left = refl } in
      record {
        time = f.time;
        fault = f.fault;
        array_is = f.array_is;
        place = (let n : length (ops image world f.time) < length s.fired = fault_place image world facts s
            k.fit k.grounded e f.time f.fault in omega (arith, h.count_is));
        within = within;
        left = tells_at f.time (effect_is image world f.time ∙ same_effect image world facts
            (length (ops image world f.time)) (effect_of (mem image world f.time)) s.memory here left);
      }

  pub says : (finish : Finish) → flow.fired ≤ budget → FinishIs image world budget finish s
      → RunSo image world budget (run_from finish (told_at s flow))
  says finish le f = grind (arith, rested, going_rest, rest_ends, no_fault_at, cut, both_ways, faulted)

-- a run from what was opened
pub opened_none : (image : Image) (world : World) (flow : Flow)
    → FlowIs image world [] flow (core_opening image world) → flow.fired ≡ 0
unfolding core_opening
opened_none image world flow h = sym h.count_is

-- how a run led on from a state, and what is told of its end
pub record Answered (image : Image) (world : World) (budget : ℕ) (finish : Finish) (new : Flow) (s : State)
    : Type 0 where
  pub state : State
  pub reached : Reaches image s state
  pub holds : FlowIs image world [] new state
  pub so : RunSo image world budget (run_from finish (told_at state new))

-- a run from wherever the parts stood
pub answers : (image : Image) (world : World) (budget : ℕ) (finish : Finish) (old new : Flow) (s : State)
    → Formed image → Sound image → FlowIs image world [] old s → new.fired ≤ budget
    → Ended image budget old new finish → Answered image world budget finish new s
answers image world budget finish old new s formed sound h le f =
    let r = f world s formed sound h in
    let held : FlowIs image world [] new r.0 = r.2 in
    let k : Kept image world r.0 = record {
      fit = held.stands.fit;
      grounded = held.stands.grounded;
      once = held.stands.once;
    } in
    record {
      state = r.0;
      reached = r.1;
      holds = r.2;
      so = says image world (facts_of image world (ports_there image formed) sound) budget [] new r.0 k held
          finish le r.3;
    }

-- what is told of a run whose words were all kept
pub whole : (image : Image) (world : World) (budget : ℕ) (finish : Finish) (new : Flow) (s : State)
    → Answered image world budget finish new s → new.memory.gone ≡ 0
    → RunSo image world budget (run_of finish new)
whole image world budget finish new s a none =
    subst (λ (d : Done). RunSo image world budget (run_from finish d))
    (told_whole a.state.memory new a.holds.memory_is none) a.so

-- where the budget is spent: the operations that the chain has passed are the most that have fired
pub spends : (image : Image) (world : World) (budget : ℕ) (finish : Finish) (s : State) → Formed image
    → Sound image → Kept image world s → FinishIs image world budget finish s → is_budget finish ≡ true
    → (p : ℕ) × AfterFired image world s p
spends image world budget finish.Rest s formed sound k f e = absurd (both_ways false refl e)
spends image world budget finish.Budget s formed sound k f e = (
  _,
  after_fired image world (facts_of image world (ports_there image formed) sound) s k.fit f.going
      k.grounded f.settled,
)
spends image world budget (finish.Fault array) s formed sound k f e = absurd (both_ways false refl e)
