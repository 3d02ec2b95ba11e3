-- What the run of an image of a program tells in the program's words, and its status.
use Rattle.std.specs.Prelude.{◌≡◌, ℕ, suc, ◌*◌, ◌≤◌, true, List, length, Option, Some, refl}
use Rattle.std.specs.List.{AllByRecursion}
use Rattle.std.proofs.Common.{subst, inl, inr, arith}
use Rattle.ws_words.specs.Outside.{Outside, World, printed_words, IsMachineWord, WorldOfWords}
use Rattle.src_ast.specs.declared.lexeme.Place.{Place}
use Rattle.src_ast.specs.Syntax.{Part}
use Rattle.src_ast.specs.Bound.{bound}
use Rattle.src_ast.specs.Meaning.{Passes}
use Rattle.src_ast.specs.Runs.{Goes}
use Rattle.ws_isa.specs.Image.{Image, array_at, instr_at}
use Rattle.ws_isa.specs.Shown.{shown_cells}
use Rattle.ws_isa.specs.Walk.{Inst, fires, mem, walk, has_ended, CostAtMost}
use Rattle.ws_isa.specs.Operations.{NoFault, FaultsAt, effect_of}
use Rattle.df_core.specs.Ends.{FirstWithin}
use Rattle.port_set.specs.Ports.{Told}
use Rattle.store_buf.specs.Outdoors.{RoseAt, port_of, world_with}
use Rattle.wave_build.specs.Compiled.{WalksAsRun, shown}
use Rattle.seq_run.proofs.OneAnswer.{end_no_fault, end_no_going, fault_no_going}
use Rattle.wsc_top.specs.declared.status.Status.{Status}
use Rattle.wsc_top.specs.declared.status.Status.TheVariants.{Done, Usage, Refused, Budget, ReadFault}
use Rattle.wsc_top.specs.declared.status.Status.TheVariants.{WriteFault, PortFault, NoMemory, Fault}
use Rattle.wsc_top.specs.declared.task.RunOptions.{RunOptions}
use Rattle.wsc_top.specs.declared.task.JobTask.TheVariants.{Run}
use Rattle.wsc_top.specs.Texts.{names_of, array_name}
use Rattle.run_text.specs.Texts.{shown_names, called}
use Rattle.asm_read.specs.Sections.{InputWords, InputItems, stop, next}
use Rattle.wsc_top.specs.Executions.{PortsAre, StopsShort, Executes, rested, stopped, OrFailed}
use Rattle.run_text.specs.Reports.{end_report, fault_report, spent_report, failed_report}
use Rattle.wsc_top.specs.Executions as executions
use Rattle.wsc_top.specs.Answers.{TellWords, TellsRun, Yields, ran, JobEndsSo, ComesToItsEnd}
use Rattle.wave_build.specs.Compiled.{IsCompiled}
use Rattle.wsc_top.specs.Answers.{MeetsFault}
use Rattle.wsc_top.specs.Answers as answers
use Rattle.wsc_top.proofs.Told.PortActs.{ports_moved}
use Rattle.wsc_top.proofs.Reading.AssembliesOnce.{WalksOnce, either_way, one_walk, one_effect, one_print}
use Rattle.wsc_top.proofs.Reading.AssembliesOnce.{one_cells}
use Rattle.wsc_top.proofs.Told.Headline.{end_told, end_ports, act_ports, front_told, front_words, fail_told}
use Rattle.wsc_top.proofs.Told.Headline.{fault_told, same_names}
use Rattle.df_core.proofs.Parts.Issuing.{took_alike}

-- the words of an input section are words
items_words : (at place : Place) (text words rest : List ℕ) → InputItems at text words place rest
    → AllByRecursion IsMachineWord words
items_words at place text words rest (stop blanks e all starts is) = tt
items_words at place text words rest (next word blanks bytes further e all item is items) =
    (is.2, items_words _ place further _ rest items)

pub input_words : (at : Place) (text words : List ℕ) → InputWords at text words
    → AllByRecursion IsMachineWord words
input_words at text words h = items_words at h.place text words _ h.items

-- what is known of a walk that has ended
abbrev pub WalksEnd : Type 0
WalksEnd = (image : Image) (world : World) (t : ℕ) → has_ended image world t ≡ true
    → CostAtMost image world (length (walk image world t))

module _ (known : WalksOnce) (whole : WalksEnd) (options : RunOptions) (parts : List Part) (image : Image)
    (c : IsCompiled parts image) (world : World) (words : WorldOfWords world)
    (handed back : List (Option Told)) where
  walks : WalksAsRun parts image world
  walks = c.walk world words

  names_are : shown_names image.arrays ≡ names_of parts
  names_are = same_names parts image world c.formed c.arrays walks

  rest_tells : (t : ℕ) → NoFault image world → CostAtMost image world (length (walk image world t))
      → length (walk image world t) ≤ options.budget → PortsAre handed (mem image world t) back
      → TellsRun options parts world handed Done
      (end_report options.report (shown_names image.arrays) (printed_words (mem image world t).acts)
      (shown_cells image.arrays (mem image world t).cells) (length (walk image world t))) back
  rest_tells t none cost le ports =
      let fired = length (walk image world t) in
      let b = walks.bounded fired cost in
      let e = walks.ends b.0 b.1 b.2 in
      let up : fired ≤ length (walk image world e.0) = whole image world e.0 e.1 t in
      let down : length (walk image world e.0) ≤ fired = cost e.0 in
      let same : effect_of (mem image world t) ≡ effect_of (mem image world e.0) = one_effect known image
      world t e.0 (one_walk known image world t e.0 (either_way t e.0) (omega (arith, up, down))) in
      let r = end_told parts image world c.formed c.arrays walks e.0 none e.1 (printed_words (mem image world
      t).acts) (mem image world t).cells (grind (arith, one_print)) (grind (arith, one_cells)) in
      let there : PortsAre handed (mem image world e.0) back = grind (arith, ports_moved, took_alike) in
      let rows = shown_cells image.arrays (mem image world t).cells in
      let text : end_report options.report (names_of parts) (printed_words r.end.acts) r.end.cells fired ≡
      end_report options.report (shown_names image.arrays) (printed_words (mem image world t).acts) rows fired
      = grind (arith, names_are) in
      subst (λ (o : List ℕ). TellsRun options parts world handed Done o back) text (answers.TellsRun.ended
      r.turns fired r.end r.runs le (grind (arith, end_ports, walks)))

  spent_tells : (t : ℕ) → StopsShort image world options.budget t → PortsAre handed (mem image world t) back
      → TellsRun options parts world handed Budget
      (spent_report options.report (printed_words (mem image world t).acts) options.budget) back
  spent_tells t s ports = let r = front_told parts image world c.formed c.arrays walks t s.within in
      subst (λ (ws : List ℕ). TellsRun options parts world handed Budget (spent_report options.report ws
      options.budget) back) (grind (arith, front_words, walks)) (answers.TellsRun.spent r.turns (shown image
      (mem image world t).acts) r.more r.does (grind (arith, act_ports, walks)))

  fault_tells : (t : ℕ) (fault : FaultsAt image world t) → PortsAre handed (mem image world t) back
      → TellsRun options parts world handed Fault
      (fault_report options.report (called image.arrays (array_at image fault.inst.instr))
      (shown_names image.arrays) (printed_words (mem image world t).acts)
      (shown_cells image.arrays (mem image world t).cells)) back
  fault_tells t fault ports =
      let array = array_at image fault.inst.instr in
      let printed = printed_words (mem image world t).acts in
      let rows = shown_cells image.arrays (mem image world t).cells in
      let r = fault_told parts image world c.formed c.arrays walks t fault array printed (mem image world
      t).cells refl refl refl in
      let text : fault_report options.report (array_name (names_of parts) r.place) (names_of parts)
      (printed_words r.state.acts) r.state.cells ≡ fault_report options.report (called image.arrays array)
      (shown_names image.arrays) printed rows = grind (arith, names_are) in
      subst (λ (o : List ℕ). TellsRun options parts world handed Fault o back) text (answers.TellsRun.faulted
      r.turn r.place r.state r.faults (grind arith))

  fail_tells : (t port : ℕ) (x : Inst) → fires image world t ≡ Some x → port_of (instr_at image x.instr).op
      ≡ Some port → FirstWithin image world t → RoseAt port handed back
      → PortsAre handed (mem image world t) back
      → TellsRun options parts world handed (PortFault port)
      (failed_report options.report (printed_words (mem image world t).acts) port) back
  fail_tells t port x e is within rose ports =
      let r = fail_told parts image world c.formed c.arrays walks t port x e is within in
      subst (λ (ws : List ℕ). TellsRun options parts world handed (PortFault port) (failed_report
      options.report ws port) back) (grind (arith, front_words, walks)) (answers.TellsRun.failed r.turns port
      (shown image (mem image world t).acts) r.more r.act r.does r.on rose (grind (arith, act_ports, walks)))

  pub run_tells : (status : Status) (out : List ℕ) → Executes options image world handed status out back
      → TellsRun options parts world handed status out back
  run_tells status out (rested t none cost le ports) = rest_tells t none cost le ports
  run_tells status out (executions.Executes.spent t s ports) = spent_tells t s ports
  run_tells status out (stopped t fault ports) = fault_tells t fault ports
  run_tells status out (executions.Executes.failed t port x e is within rose ports) =
      fail_tells t port x e is within rose ports

-- the world of a run is one of words
pub given_words : (input : List ℕ) (handed : List (Option Told)) → AllByRecursion IsMachineWord input
    → TellWords handed → WorldOfWords (world_with input handed)
given_words input handed h told = (h, told.1)

-- a run without an end has the status of its budget
tells_budget : (options : RunOptions) (parts : List Part) (world : World) (handed back : List (Option Told))
    (status : Status) (out : List ℕ) → TellsRun options parts world handed status out back
    → ((n : ℕ) → (now : Outside) × Goes parts world n now) → OrFailed status Budget
tells_budget options parts world handed back status out (answers.TellsRun.ended n fired end r w ports) g =
    absurd (end_no_going parts world n n end (g n).0 (omega arith) r (g n).1)
tells_budget options parts world handed back status out (answers.TellsRun.faulted n array state f ports) g =
    absurd (fault_no_going parts world n n array state (g n).0 (omega arith) f (g n).1)
tells_budget options parts world handed back status out (answers.TellsRun.spent n front more e ports) g =
    inl refl
tells_budget options parts world handed back status out (answers.TellsRun.failed n port front more act e on
    rose ports) g = inr (port, refl)

-- where the budget is spent, the whole walk wants more
abbrev IsDear : Image → World → ℕ → Status → Type 0
IsDear image w most Done = Unit {0}
IsDear image w most Usage = Unit {0}
IsDear image w most Refused = Unit {0}
IsDear image w most Budget = CostAtMost image w most → ⊥
IsDear image w most ReadFault = Unit {0}
IsDear image w most WriteFault = Unit {0}
IsDear image w most (PortFault port) = Unit {0}
IsDear image w most NoMemory = Unit {0}
IsDear image w most Fault = Unit {0}

spent_is_dear : (options : RunOptions) (image : Image) (w : World) (handed back : List (Option Told))
    (status : Status) (out : List ℕ) → Executes options image w handed status out back
    → IsDear image w options.budget status
spent_is_dear options image w handed back status out x = grind arith

module _ (options : RunOptions) (parts : List Part) (input : List ℕ) (handed : List (Option Told))
    (words : AllByRecursion IsMachineWord input) (told : TellWords handed) where
  -- so the budget isn't spent where it has the program's bound for each turn of a run that comes to an end,
  -- and once more
  never_spent : (image : Image) (status : Status) (out : List ℕ) (back : List (Option Told))
      → IsCompiled parts image → Executes options image (world_with input handed) handed status out back
      → (n : ℕ) (o : Outside) → Passes parts (world_with input handed) n o
      → bound parts * suc n ≤ options.budget → status ≡ Budget → ⊥
  never_spent image status out back c e n o p le is =
      let cost = c.cost (world_with input handed) (given_words input handed words told) n o p in
      grind (arith, spent_is_dear)

  -- a run that comes to its end in time is done
  tells_done : (status : Status) (out : List ℕ) (back : List (Option Told)) → (status ≡ Budget → ⊥)
      → TellsRun options parts (world_with input handed) handed status out back
      → ComesToItsEnd (Run options) parts input handed → OrFailed status Done
  tells_done status out back unspent (answers.TellsRun.ended n fired end r w ports) h = inl refl
  tells_done status out back unspent (answers.TellsRun.faulted m array state f ports) h =
      absurd (end_no_fault parts (world_with input handed) h.0 m array h.1 state h.2 f)
  tells_done status out back unspent (answers.TellsRun.spent n front more e ports) h = absurd (unspent refl)
  tells_done status out back unspent (answers.TellsRun.failed n port front more act e on rose ports) h =
      inr (port, refl)

  -- and one that meets a fault in time says so
  tells_fault : (status : Status) (out : List ℕ) (back : List (Option Told)) → (status ≡ Budget → ⊥)
      → TellsRun options parts (world_with input handed) handed status out back
      → MeetsFault (Run options) parts input handed → OrFailed status Fault
  tells_fault status out back unspent (answers.TellsRun.ended n fired end r w ports) h =
      absurd (end_no_fault parts (world_with input handed) n h.0.0 h.0.1 end h.0.2 r h.0.3)
  tells_fault status out back unspent (answers.TellsRun.faulted m array state f ports) h = inl refl
  tells_fault status out back unspent (answers.TellsRun.spent n front more e ports) h = absurd (unspent refl)
  tells_fault status out back unspent (answers.TellsRun.failed n port front more act e on rose ports) h =
      inr (port, refl)

  pub run_so : (status : Status) (out : List ℕ) (image : Option Image) (back : List (Option Told))
      → Yields (Run options) parts input handed status out image back → JobEndsSo (Run options) parts input
      handed status
  run_so status out some back (ran image c e tells) = record {
    done = λ h. tells_done status out back (never_spent image status out back c e h.0 h.1 h.2.passes h.3)
        tells h;
    fault = λ h. tells_fault status out back (never_spent image status out back c e h.1.0 h.1.1 h.1.2 h.1.3)
        tells h;
    budget = tells_budget options parts (world_with input handed) handed back status out tells;
  }
