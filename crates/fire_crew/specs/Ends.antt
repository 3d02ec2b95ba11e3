-- Where a run of a crew ends.
use Rattle.std.specs.Prelude.{ℕ, ◌≡◌, ◌≤◌, false, List, length, Option, Some, None}
use Rattle.ws_words.specs.Outside.{World}
use Rattle.ws_isa.specs.Image.{Image, array_at, instr_at}
use Rattle.ws_isa.specs.Walk.{Inst, fires, mem, walk, CostAtMost}
use Rattle.ws_isa.specs.Operations.{ops, FaultsAt, NoFault}
use Rattle.df_core.specs.Core.{Key, HasFired}
use Rattle.df_core.specs.Ends.{FirstWithin}
use Rattle.df_core.specs.Answer.{FiringSteps, FirstAmong}
use Rattle.df_core.specs.Began.{Began}
use Rattle.store_buf.specs.Contents.{Content}
use Rattle.store_buf.specs.Outdoors.{Holding, HoldsOut, RoseSince, port_of}
use Rattle.ws_words.specs.Items.{In}

-- the chain isn't stopped, and no port has failed or found no memory
abbrev pub IsGoing : Content → Type 0
IsGoing c = (c.fault ≡ None) × (c.failed ≡ None) × (c.starved ≡ false)

-- the walk has no out-of-bounds load or store; each of its instances is listed, and as many are as it has;
-- what is outside is what it leaves
pub record AllRun (image : Image) (world : World) (began : List (Option Began)) (listed : List Key)
    (h : Holding) : Type 0 where
  pub no_fault : NoFault image world
  pub cost : CostAtMost image world (length listed)
  pub steps : ℕ
  pub count : length listed ≡ length (walk image world steps)
  pub all : (t : ℕ) (x : Inst) → fires image world t ≡ Some x → HasFired listed x.wave x.instr
  pub left : (t : ℕ) → length listed ≤ length (walk image world t) → HoldsOut began (mem image world t) h

-- The walk has more instances than are listed, and the listed ones fire at these steps of it. What is
-- outside is what the walk leaves with its first operations, none of them out of bounds, and these are at
-- least as many as fire at those steps without a gap.
pub record SomeRun (image : Image) (world : World) (began : List (Option Began)) (listed : List Key)
    (h : Holding) : Type 0 where
  pub dear : CostAtMost image world (length listed) → ⊥
  pub steps : List ℕ
  pub firing : FiringSteps image world steps
  pub listed_there : (t : ℕ) (x : Inst) → In t steps → fires image world t ≡ Some x →
      HasFired listed x.wave x.instr
  pub count : length steps ≡ length listed
  pub front : ℕ
  pub most : (t : ℕ) → FirstAmong image world steps (length (ops image world t)) →
      length (ops image world t) ≤ length (ops image world front)
  pub within : FirstWithin image world front
  pub left : HoldsOut began (mem image world front) h

-- the walk's first out-of-bounds load or store is on this array, and what is outside is what the walk leaves
-- before it
pub record FaultRun (image : Image) (world : World) (began : List (Option Began)) (array : ℕ) (h : Holding)
    : Type 0 where
  pub time : ℕ
  pub fault : FaultsAt image world time
  pub array_is : array ≡ array_at image fault.inst.instr
  pub left : HoldsOut began (mem image world time) h

-- the operation that is next in the walk is on this port, which has failed since the run began; none before
-- it is out of bounds, and what is outside is what the walk leaves before it
pub record PortRun (image : Image) (world : World) (began : List (Option Began)) (port : ℕ) (h : Holding)
    : Type 0 where
  pub time : ℕ
  pub inst : Inst
  pub fires : fires image world time ≡ Some inst
  pub port_is : port_of (instr_at image inst.instr).op ≡ Some port
  pub within : FirstWithin image world time
  pub left : HoldsOut began (mem image world time) h
  pub rose : RoseSince began port h.ports

-- what is outside is what the walk leaves with its first operations, none of them out of bounds
pub record FrontRun (image : Image) (world : World) (began : List (Option Began)) (h : Holding) : Type 0 where
  pub front : ℕ
  pub within : FirstWithin image world front
  pub left : HoldsOut began (mem image world front) h
