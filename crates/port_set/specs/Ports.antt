-- What ports report, and what giving and taking changes of it.
use Rattle.std.specs.Prelude.{◌≡◌, ◌≤◌, ℕ, Bool, true, List, [], ◌∷◌, ◌++◌, Option, Some, None, Result, Ok}
use Rattle.std.specs.Prelude.{Err}
use Rattle.ws_io.specs.Streams.{Rose}
use Rattle.port_set.specs.declared.port.PortError.{PortError}
use Rattle.port_set.specs.declared.port.PortError.TheVariants.{Failed, NoMemory}

-- the words that a port has left and the words that it took, if it reports them, how often it has failed,
-- and whether it is closed
pub record Told : Type 0 where
  pub left : Option (List ℕ)
  pub took : Option (List ℕ)
  pub faults : ℕ
  pub closed : Bool

-- if the words left are reported, this was the first of them and is gone now, or it is 0 and none was left
abbrev pub Gives : Option (List ℕ) → ℕ → Option (List ℕ) → Type 0
Gives None word after = after ≡ None
Gives (Some []) word after = (word ≡ 0) × (after ≡ Some [])
Gives (Some (x ∷ xs)) word after = (word ≡ x) × (after ≡ Some xs)

-- if the words taken are reported, this is one more
abbrev pub TakesWord : Option (List ℕ) → ℕ → Option (List ℕ) → Type 0
TakesWord None word after = after ≡ None
TakesWord (Some words) word after = after ≡ Some (words ++ word ∷ [])

-- this holds where a port has failed
abbrev pub IfFailed : PortError → Type 0 → Type 0
IfFailed Failed holds = holds
IfFailed NoMemory holds = Unit {0}

-- what an open port reports before and after it answered so to a call for a word
abbrev pub GaveSo : Told → Result ℕ PortError → Told → Type 0
GaveSo old (Ok word) new = Gives old.left word new.left
GaveSo old (Err why) new = (new.left ≡ old.left) × IfFailed why (Rose old.faults new.faults)

pub record Gave (old : Told) (answer : Result ℕ PortError) (new : Told) : Type 0 where
  pub so : GaveSo old answer new
  pub took : new.took ≡ old.took
  pub counted : old.faults ≤ new.faults
  pub closed : new.closed ≡ old.closed

-- the same of a word that it was to take
abbrev pub TookSo : Told → ℕ → Result (Unit {0}) PortError → Told → Type 0
TookSo old word (Ok _) new = TakesWord old.took word new.took
TookSo old word (Err why) new = (new.took ≡ old.took) × IfFailed why (Rose old.faults new.faults)

pub record Took (old : Told) (word : ℕ) (answer : Result (Unit {0}) PortError) (new : Told) : Type 0 where
  pub so : TookSo old word answer new
  pub left : new.left ≡ old.left
  pub counted : old.faults ≤ new.faults
  pub closed : new.closed ≡ old.closed

-- a port was closed
pub record Closed (old new : Told) : Type 0 where
  pub closed : new.closed ≡ true
  pub left : new.left ≡ old.left
  pub took : new.took ≡ old.took
  pub counted : old.faults ≤ new.faults
