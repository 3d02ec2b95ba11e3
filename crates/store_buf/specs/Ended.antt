-- Where a run of an image ends, in the words of the walk alone.
use Rattle.std.specs.Prelude.{ℕ, ◌≡◌, ◌⊎◌, List, Option, Some, length}
use Rattle.ws_words.specs.Outside.{World, printed_words}
use Rattle.ws_isa.specs.Image.{Image, array_at, instr_at}
use Rattle.ws_isa.specs.Walk.{Inst, fires, mem, walk, CostAtMost}
use Rattle.ws_isa.specs.Operations.{FaultsAt, NoFault}
use Rattle.df_core.specs.Ends.{FirstWithin}
use Rattle.port_set.specs.Ports.{Told}
use Rattle.store_buf.specs.Outdoors.{SlotsAre, RoseAt, began_of, port_of}

-- No load or store of the walk is out of bounds. The cost has fired; what is reported and what the ports have
-- is what the walk leaves.
pub record RunWhole (image : Image) (world : World) (handed : List (Option Told)) (printed : List ℕ)
    (arrays : List (List ℕ)) (fired : ℕ) (back : List (Option Told)) : Type 0 where
  pub no_fault : NoFault image world
  pub time : ℕ
  pub fired_is : fired ≡ length (walk image world time)
  pub cost : CostAtMost image world fired
  pub printed_are : printed ≡ printed_words (mem image world time).acts
  pub cells_are : arrays ≡ (mem image world time).cells
  pub ports : SlotsAre (began_of handed) (mem image world time) back

-- The walk has more instances than the budget. What is reported and what the ports have is what the walk
-- leaves with some of its first operations, none of them out of bounds.
pub record Spent (image : Image) (world : World) (handed : List (Option Told)) (budget : ℕ)
    (printed : List ℕ) (back : List (Option Told)) : Type 0 where
  pub dear : CostAtMost image world budget → ⊥
  pub time : ℕ
  pub within : FirstWithin image world time
  pub printed_are : printed ≡ printed_words (mem image world time).acts
  pub ports : SlotsAre (began_of handed) (mem image world time) back

-- the walk's first out-of-bounds load or store is on this array; what is reported and what the ports have is
-- what the walk leaves before it
pub record Tripped (image : Image) (world : World) (handed : List (Option Told)) (array : ℕ)
    (printed : List ℕ) (arrays : List (List ℕ)) (back : List (Option Told)) : Type 0 where
  pub time : ℕ
  pub fault : FaultsAt image world time
  pub array_is : array ≡ array_at image fault.inst.instr
  pub printed_are : printed ≡ printed_words (mem image world time).acts
  pub cells_are : arrays ≡ (mem image world time).cells
  pub ports : SlotsAre (began_of handed) (mem image world time) back

-- the operation that is next in the walk is on this port, whose count of faults rose; none before it is out
-- of bounds, and what is reported and what the ports have is what the walk leaves before it
pub record PortFailed (image : Image) (world : World) (handed : List (Option Told)) (port : ℕ)
    (printed : List ℕ) (back : List (Option Told)) : Type 0 where
  pub time : ℕ
  pub inst : Inst
  pub fires : fires image world time ≡ Some inst
  pub port_is : port_of (instr_at image inst.instr).op ≡ Some port
  pub within : FirstWithin image world time
  pub rose : RoseAt port handed back
  pub printed_are : printed ≡ printed_words (mem image world time).acts
  pub ports : SlotsAre (began_of handed) (mem image world time) back

-- the ports report what they reported before, or have what the walk leaves with its first operations, none of
-- them out of bounds
abbrev pub Starved : Image → World → List (Option Told) → List (Option Told) → Type 0
Starved image world handed back = (back ≡ handed)
    ⊎ ((t : ℕ) × FirstWithin image world t × SlotsAre (began_of handed) (mem image world t) back)
