-- Seven slots for ports, and what the calls on a slot change.
use Rattle.std.specs.Prelude.{◌≡◌, ◌-◌, ℕ, false, List, [], ◌∷◌, All, Option, Some, None, Result, Ok}
use Rattle.std.specs.Prelude.{slice_index_or}
use Rattle.port_set.specs.Ports.{Told, Gave, Took, Closed}
use Rattle.port_set.specs.declared.port.PortError.{PortError}
use Rattle.port_set.specs.declared.slots.Slots.{Slots}

-- the slots in order, as a list
abbrev pub slots : {P : Type 0} → Slots P → List (Option P)
slots s = s.first ∷ s.second ∷ s.third ∷ s.fourth ∷ s.fifth ∷ s.sixth ∷ s.seventh ∷ []

-- what the slot of this number, from 1, holds
abbrev pub port_at : {P : Type 0} → List (Option P) → ℕ → Option P
port_at ports slot = slice_index_or ports (slot - 1) None

-- an empty slot gives 0, and the port in another one gives as ports do
abbrev pub SlotGave : Option Told → Result ℕ PortError → Option Told → Type 0
SlotGave None answer new = (answer ≡ Ok 0) × (new ≡ None)
SlotGave (Some old) answer None = ⊥
SlotGave (Some old) answer (Some new) = Gave old answer new

-- an empty slot takes a word and forgets it, and the port in another one takes as ports do
abbrev pub SlotTook : Option Told → ℕ → Result (Unit {0}) PortError → Option Told → Type 0
SlotTook None word answer new = (answer ≡ Ok tt) × (new ≡ None)
SlotTook (Some old) word answer None = ⊥
SlotTook (Some old) word answer (Some new) = Took old word answer new

-- the port in a slot was closed
abbrev pub SlotClosed : Option Told → Option Told → Type 0
SlotClosed None new = new ≡ None
SlotClosed (Some old) None = ⊥
SlotClosed (Some old) (Some new) = Closed old new

-- the ports in all slots were closed
abbrev pub AllClosed : List (Option Told) → List (Option Told) → Type 0
AllClosed [] [] = Unit {0}
AllClosed [] (n ∷ new) = ⊥
AllClosed (o ∷ old) [] = ⊥
AllClosed (o ∷ old) (n ∷ new) = SlotClosed o n × AllClosed old new

abbrev pub IsOpen : Option Told → Type 0
IsOpen None = Unit {0}
IsOpen (Some port) = port.closed ≡ false

-- no port in these slots is closed
abbrev pub AllOpen : List (Option Told) → Type 0
AllOpen ports = All IsOpen ports

module _ {P : Type 0} where
  -- what the port in a slot reports
  abbrev pub told : (P → Told) → Option P → Option Told
  told tells None = None
  told tells (Some port) = Some (tells port)

  -- what the ports in all slots report
  abbrev pub told_all : (P → Told) → List (Option P) → List (Option Told)
  told_all tells [] = []
  told_all tells (p ∷ ports) = told tells p ∷ told_all tells ports

  abbrev pub contents : (P → Told) → Slots P → List (Option Told)
  contents tells s = told_all tells (slots s)
