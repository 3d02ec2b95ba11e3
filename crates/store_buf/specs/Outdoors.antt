-- What a buffer holds of what is outside.
use Rattle.std.specs.Prelude.{ℕ, ◌≡◌, ◌≤◌, ◌-◌, ◌++◌, Bool, true, false, List, [], All, Option, Some, None}
use Rattle.std.specs.Prelude.{map}
use Rattle.ws_words.specs.Outside.{Outside, World, row, printed_words}
use Rattle.ws_words.specs.Plain.{took_words}
use Rattle.ws_isa.specs.declared.instr.Op.{Op}
use Rattle.ws_isa.specs.declared.instr.Op.TheVariants.{Give, Load, Store, Take}
use Rattle.ws_isa.specs.Image.{answer_op, after_op}
use Rattle.ws_io.specs.Streams.{Rose}
use Rattle.port_set.specs.declared.port.PortError.{PortError}
use Rattle.port_set.specs.declared.port.PortError.TheVariants as error
use Rattle.port_set.specs.Ports.{Told}
use Rattle.store_buf.specs.declared.fault.Silent.{Silent}
use Rattle.store_buf.specs.declared.fault.Silent.TheVariants.{Failed, NoMemory}
use Rattle.port_set.specs.Slots.{port_at}
use Rattle.df_core.specs.Began.{Began}

-- the words taken so far, where they are reported
abbrev pub more : Option (List ℕ) → List ℕ → Option (List ℕ)
more None words = None
more (Some old) words = Some (old ++ words)

-- A slot that held no port holds none, and the walk is given no words there. A port has left what the walk
-- has left there, and has taken the walk's words since the run began.
abbrev pub SlotIs : Option Began → List ℕ → List ℕ → Option Told → Type 0
SlotIs None left took None = left ≡ []
SlotIs None left took (Some port) = ⊥
SlotIs (Some began) left took None = ⊥
SlotIs (Some began) left took (Some port) = (port.left ≡ Some left) × (port.took ≡ more began.took took)
    × (began.faults ≤ port.faults)

-- in each slot it is so
abbrev pub SlotsAre : List (Option Began) → Outside → List (Option Told) → Type 0
SlotsAre began o ports = (slot : ℕ) → 1 ≤ slot → slot ≤ 7 →
    SlotIs (port_at began slot) (row o.left (slot - 1)) (took_words slot o.acts) (port_at ports slot)

-- what a buffer holds as plain data
pub record Holding : Type 0 where
  pub cells : List (List ℕ)
  pub input : List ℕ
  pub printed : List ℕ
  pub ports : List (Option Told)

pub record HoldsOut (began : List (Option Began)) (o : Outside) (h : Holding) : Type 0 where
  pub cells_are : o.cells ≡ h.cells
  pub input_is : o.input ≡ h.input
  pub printed_are : printed_words o.acts ≡ h.printed
  pub slots_are : SlotsAre began o h.ports

-- the answer of a memory operation, and what it leaves
pub record Performed (began : List (Option Began)) (op : Op) (xs : List ℕ) (o : Outside) (word : ℕ)
    (h : Holding) : Type 0 where
  pub answer : word ≡ answer_op op xs o
  pub after : HoldsOut began (after_op op xs o) h

-- the port of an operation
abbrev pub port_of : Op → Option ℕ
port_of (Give p) = Some p
port_of (Take p) = Some p
port_of _ = None

abbrev pub PortIn : Op → Type 0
PortIn (Give p) = (1 ≤ p) × (p ≤ 7)
PortIn (Take p) = (1 ≤ p) × (p ≤ 7)
PortIn _ = Unit {0}

-- a load or store works on a cell
abbrev pub is_cell_op : Op → Bool
is_cell_op (Load a) = true
is_cell_op (Store a) = true
is_cell_op _ = false

-- how often the port in a slot has failed
abbrev pub failures : Option Told → ℕ
failures None = 0
failures (Some port) = port.faults

-- the count of faults of the port in a slot rose
abbrev pub RoseAt : ℕ → List (Option Told) → List (Option Told) → Type 0
RoseAt slot old new = Rose (failures (port_at old slot)) (failures (port_at new slot))

-- how often it had failed when the run began
abbrev pub failed_before : Option Began → ℕ
failed_before None = 0
failed_before (Some began) = began.faults

-- the count of faults of the port in a slot rose since the run began
abbrev pub RoseSince : List (Option Began) → ℕ → List (Option Told) → Type 0
RoseSince began slot ports = Rose (failed_before (port_at began slot)) (failures (port_at ports slot))

-- no count of faults falls
abbrev pub FaultsGrow : List (Option Told) → List (Option Told) → Type 0
FaultsGrow old new = (slot : ℕ) → failures (port_at old slot) ≤ failures (port_at new slot)

abbrev pub silent_of : ℕ → PortError → Silent
silent_of p error.Failed = Failed p
silent_of p error.NoMemory = NoMemory p

-- the port of an operation doesn't answer; where it failed, its count of faults rose
abbrev pub SilentAt : Op → List (Option Told) → List (Option Told) → Silent → Type 0
SilentAt op old new (Failed p) = (port_of op ≡ Some p) × RoseAt p old new
SilentAt op old new (NoMemory p) = port_of op ≡ Some p

-- a port as it was when the run began, with the words that the walk has left there; an empty slot gives none
abbrev pub BeganSo : Option Began → List ℕ → Option Told → Type 0
BeganSo None left None = left ≡ []
BeganSo None left (Some port) = ⊥
BeganSo (Some began) left None = ⊥
BeganSo (Some began) left (Some port) = (port.left ≡ Some left) × (port.took ≡ began.took)
    × (port.faults ≡ began.faults)

abbrev pub AllBegan : List (Option Began) → List (List ℕ) → List (Option Told) → Type 0
AllBegan began left ports = (slot : ℕ) → 1 ≤ slot → slot ≤ 7
    → BeganSo (port_at began slot) (row left (slot - 1)) (port_at ports slot)

abbrev pub began_at : Option Told → Option Began
began_at None = None
began_at (Some port) = Some (record { took = port.took; faults = port.faults })

-- slot by slot, of each port what it had taken and how often it had failed
abbrev pub began_of : List (Option Told) → List (Option Began)
began_of ports = map began_at ports

abbrev pub words_or_none : Option (List ℕ) → List ℕ
words_or_none None = []
words_or_none (Some words) = words

abbrev pub left_at : Option Told → List ℕ
left_at None = []
left_at (Some port) = words_or_none port.left

-- slot by slot the words that the port has left; none in an empty slot, and if the port doesn't report them
abbrev pub lefts_of : List (Option Told) → List (List ℕ)
lefts_of ports = map left_at ports

abbrev pub TellsLeft : Option Told → Type 0
TellsLeft None = Unit {0}
TellsLeft (Some port) = (words : List ℕ) × (port.left ≡ Some words)

-- each port reports the words that it has left
abbrev pub AllTell : List (Option Told) → Type 0
AllTell ports = All TellsLeft ports

-- these input words, and the words that these ports have left
abbrev pub world_with : List ℕ → List (Option Told) → World
world_with input ports = record { input = input; left = lefts_of ports }
