-- What comes of the run of an image: the status, the text that goes out with it, and the ports.
use Rattle.std.specs.Prelude.{◌≡◌, ◌⊎◌, ℕ, ◌≤◌, false, Bool, List, length, Option, Some, Result, IfOk, OnErr}
use Rattle.ws_words.specs.Outside.{Outside, World, printed_words}
use Rattle.ws_isa.specs.Image.{Image, array_at, instr_at}
use Rattle.ws_isa.specs.Shown.{shown_cells}
use Rattle.ws_isa.specs.Walk.{Inst, fires, mem, walk, CostAtMost}
use Rattle.ws_isa.specs.Operations.{FaultsAt, NoFault}
use Rattle.df_core.specs.Ends.{FirstWithin}
use Rattle.port_set.specs.Ports.{Told}
use Rattle.store_buf.specs.Outdoors.{RoseAt, SlotsAre, began_of, port_of}
use Rattle.wsc_top.specs.declared.status.Status.{Status}
use Rattle.wsc_top.specs.declared.status.Status.TheVariants.{Done, Budget, Fault, PortFault}
use Rattle.run_text.specs.declared.report.Report.{Report}
use Rattle.run_text.specs.declared.report.Report.TheVariants.{Full, Brief}
use Rattle.wsc_top.specs.declared.task.RunOptions.{RunOptions}
use Rattle.run_text.specs.Texts.{shown_names, called}
use Rattle.run_text.specs.Reports.{end_report, spent_report, fault_report, failed_report}

-- whether firings are reported
abbrev pub tells_firings : Report → Bool
tells_firings (Full memory stats) = stats
tells_firings Brief = false

-- The ports that were handed in, as they are handed back, are where this leaves them: each has left
-- what is left there, and has taken, if it reports that, what is taken there.
abbrev pub PortsAre : List (Option Told) → Outside → List (Option Told) → Type 0
PortsAre handed o back = SlotsAre (began_of handed) o back

-- the walk has more instances than the budget, and of its operations before step t none is out of bounds
pub record StopsShort (image : Image) (world : World) (budget t : ℕ) : Type 0 where
  pub dear : CostAtMost image world budget → ⊥
  pub within : FirstWithin image world t

-- What comes of the run of an image on a world within a budget, with these ports.
pub data Executes (options : RunOptions) (image : Image) (world : World) (handed : List (Option Told))
    : Status → List ℕ → List (Option Told) → Type 0 where
  -- the whole walk has been run, and no load or store of it is out of bounds
  rested : {back : List (Option Told)} (t : ℕ) → NoFault image world
      → CostAtMost image world (length (walk image world t))
      → length (walk image world t) ≤ options.budget
      → PortsAre handed (mem image world t) back
      → Executes options image world handed Done
      (end_report options.report (shown_names image.arrays)
      (printed_words (mem image world t).acts)
      (shown_cells image.arrays (mem image world t).cells) (length (walk image world t))) back
  -- the budget is exhausted, and what the operations before step t print is reported
  spent : {back : List (Option Told)} (t : ℕ) → StopsShort image world options.budget t
      → PortsAre handed (mem image world t) back
      → Executes options image world handed Budget
      (spent_report options.report (printed_words (mem image world t).acts) options.budget) back
  -- step t of the walk fires the first out-of-bounds load or store, and what is left before it is reported
  stopped : {back : List (Option Told)} (t : ℕ) (fault : FaultsAt image world t)
      → PortsAre handed (mem image world t) back
      → Executes options image world handed Fault
      (fault_report options.report (called image.arrays (array_at image fault.inst.instr))
      (shown_names image.arrays) (printed_words (mem image world t).acts)
      (shown_cells image.arrays (mem image world t).cells)) back
  -- step t fires an operation on a port that failed, no load or store before it is out of bounds, and
  -- what is left before it is reported
  failed : {back : List (Option Told)} (t port : ℕ) (inst : Inst) → fires image world t ≡ Some inst
      → port_of (instr_at image inst.instr).op ≡ Some port → FirstWithin image world t
      → RoseAt port handed back → PortsAre handed (mem image world t) back
      → Executes options image world handed (PortFault port)
      (failed_report options.report (printed_words (mem image world t).acts) port) back

-- a run has begun, and the ports are as they were handed in, or where some of the walk's first
-- operations leave them, none of which is out of bounds
abbrev pub HasBegun : Image → World → List (Option Told) → List (Option Told) → Type 0
HasBegun image world handed back = (back ≡ handed)
    ⊎ ((t : ℕ) × FirstWithin image world t × PortsAre handed (mem image world t) back)

-- What is answered of the run of an image, with the ports that were handed in and those that are handed
-- back: what comes of it, and where memory ran out, that it has begun.
pub record RunAnswered {E : Type 0} (options : RunOptions) (image : Image) (world : World)
    (handed : List (Option Told)) (answer : Result (Status × List ℕ) E) (back : List (Option Told))
    : Type 0 where
  pub executes : IfOk answer (λ y. Executes options image world handed y.0 y.1 back)
  pub begun : OnErr answer (HasBegun image world handed back)

-- a run completes within its budget
abbrev pub Rests : Image → World → ℕ → Type 0
Rests image world budget = NoFault image world × CostAtMost image world budget

-- its whole walk would be within its budget, but has an index fault
abbrev pub Trips : Image → World → ℕ → Type 0
Trips image world budget =
    ((t : ℕ) × FaultsAt image world t) × CostAtMost image world budget

-- its walk has no index fault, and more instances than its budget
abbrev pub CostsMore : Image → World → ℕ → Type 0
CostsMore image world budget = NoFault image world × (CostAtMost image world budget → ⊥)

-- a port failed
abbrev pub IsFailed : Status → Type 0
IsFailed status = (port : ℕ) × (status ≡ PortFault port)

-- the status is this one, unless a port failed
abbrev pub OrFailed : Status → Status → Type 0
OrFailed status wanted = (status ≡ wanted) ⊎ IsFailed status

-- Each of the three has its status, and Done comes with the first alone. A run with a fault whose
-- whole walk exceeds the budget is of the two other statuses.
pub record EndsRun (image : Image) (world : World) (most : ℕ) (status : Status) : Type 0 where
  pub done : Rests image world most → OrFailed status Done
  pub only : status ≡ Done → Rests image world most
  pub fault : Trips image world most → OrFailed status Fault
  pub budget : CostsMore image world most → OrFailed status Budget
