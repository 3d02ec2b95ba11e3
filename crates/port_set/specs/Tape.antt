-- Ports over lists in memory.
use Rattle.std.specs.Prelude.{◌≡◌, ℕ, Bool, List, Some, Result, Ok, Err}
use Rattle.ws_io.specs.Memory.{one_more}
use Rattle.port_set.specs.Ports.{Told}
use Rattle.port_set.specs.declared.port.PortError.{PortError}
use Rattle.port_set.specs.declared.port.PortError.TheVariants.{Failed, NoMemory}

-- The words left, the words taken, the calls so far, the numbers of the calls that fail, how many have
-- failed, and whether it is closed. Calls are numbered from 1, gives and takes together.
pub record TapeState : Type 0 where
  pub left : List ℕ
  pub took : List ℕ
  pub calls : ℕ
  pub fail_at : List ℕ
  pub faults : ℕ
  pub closed : Bool

abbrev pub tape_tells : TapeState → Told
tape_tells t = record { left = Some t.left; took = Some t.took; faults = t.faults; closed = t.closed }

-- the count of faults before and after a call that answered so: one more where it failed, and else the same
abbrev pub CountsFault : {A : Type 0} → Result A PortError → ℕ → ℕ → Type 0
CountsFault (Ok _) before after = after ≡ before
CountsFault (Err Failed) before after = after ≡ one_more before
CountsFault (Err NoMemory) before after = after ≡ before
