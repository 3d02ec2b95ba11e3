-- What a table answers to a token.
use Rattle.std.specs.Prelude.{◌≡◌, ℕ, Bool, true, false, not, ◌&&◌, List, [], ◌∷◌, ◌++◌, slice_index, Some}
use Rattle.std.specs.Prelude.{None}
use Rattle.ws_isa.specs.Image.{Image, Token, ports, is_memory, result_of, sends}
use Rattle.df_core.specs.Core.{State, arrived, matched, has, is_full, with_at, operands_in}
use Rattle.df_core.specs.Rights.{Asked, operands_of}
use Rattle.match_table.specs.declared.table.Accept.{Accept}
use Rattle.match_table.specs.declared.table.Accept.TheVariants.{Waits, Fires, Asks}
use Rattle.match_table.specs.declared.table.Took.{Took}
use Rattle.match_table.specs.declared.table.Took.TheVariants as took
use Rattle.match_table.specs.declared.table.Results.{Results}
use Rattle.match_table.specs.declared.table.AcceptFault.{AcceptFault}
use Rattle.match_table.specs.declared.table.AcceptFault.TheVariants as fault
use Rattle.match_table.specs.declared.meeting.Seen.{Seen}
use Rattle.match_table.specs.declared.meeting.Seen.TheVariants.{Old}
use Rattle.match_table.specs.Tables.{held, TableContent}

-- the port had no token, and now it has this one
pub record Arrives (old : TableContent) (t : Token) (new : TableContent) : Type 0 where
  pub free : held old t.wave t.instr t.port ≡ None
  pub more : (w i p : ℕ) →
      held new w i p ≡ with_at t.wave t.instr t.port (Some t.value) (held old) w i p

-- the token's instance is full and has fired, with these operands
pub record Full (image : Image) (old : TableContent) (t : Token) (new : TableContent)
    (operands : List ℕ) : Type 0 where
  pub full : is_full (held new) t.wave t.instr (ports image t.instr) ≡ true
  pub operands_are : operands ≡ operands_in image (held new) t.wave t.instr
  pub fired : new.fired ≡ old.fired ++ record { wave = t.wave; instr = t.instr } ∷ []

-- the port has had no token, and with this one the instance is full
abbrev pub will_fire : Image → TableContent → Token → Bool
will_fire image c t =
    not (has (held c t.wave t.instr t.port))
    && is_full (with_at t.wave t.instr t.port (Some t.value) (held c)) t.wave t.instr
    (ports image t.instr)

-- an earlier token stands at the port
abbrev pub IsOldSo : TableContent → Token → Seen → Type 0
IsOldSo c t Old = has (held c t.wave t.instr t.port) ≡ true
IsOldSo c t _ = Unit {0}

module _ {J : Type 0} where
  -- what an instance answers that is full with these operands
  abbrev pub AcceptIs : Image → Token → List ℕ → Accept J → Type 0
  AcceptIs image t operands Waits = ⊥
  AcceptIs image t operands (Fires tokens) = (is_memory image t.instr ≡ false)
      × (tokens ≡ sends image t.wave t.instr operands (result_of image t.instr operands))
  AcceptIs image t operands (Asks request) = (is_memory image t.instr ≡ true)
      × (request.wave ≡ t.wave) × (request.instr ≡ t.instr)
      × (request.second ≡ slice_index operands 1)
      × (operands_of (ports image t.instr) request.first request.second ≡ operands)

  -- the token was taken, and this is the answer
  abbrev pub Accepted : Image → TableContent → Token → TableContent → Accept J → Type 0
  Accepted image old t new Waits = Arrives old t new
      × (is_full (held new) t.wave t.instr (ports image t.instr) ≡ false)
      × (new.fired ≡ old.fired)
  Accepted image old t new answer = Arrives old t new
      × ((operands : List ℕ) × Full image old t new operands × AcceptIs image t operands answer)

  -- the token is handed back, and nothing that the table holds or lists has changed
  abbrev pub Refused : TableContent → Token → TableContent → AcceptFault J → Type 0
  Refused old t new (fault.Old back) = (back ≡ t) × (new ≡ old)
      × (has (held old t.wave t.instr t.port) ≡ true)
  Refused old t new (fault.NoMemory back) = (back ≡ t) × (new.entries ≡ old.entries)
      × (new.fired ≡ old.fired)

module _ {J : Type 0} where
  -- nothing is handed on
  abbrev pub NoResults : Results J → Type 0
  NoResults rs = (rs.sent ≡ []) × (rs.request ≡ None)

  -- what an instance hands on that is full with these operands, and nothing else
  abbrev pub HandedOn : Image → Token → List ℕ → Results J → Took → Type 0
  HandedOn image t operands rs took.Fires = AcceptIs {J = J} image t operands (Fires rs.sent)
      × (rs.request ≡ None)
  HandedOn image t operands rs took.Asks = (request : Asked) × (rs.request ≡ Some request) × (rs.sent ≡ [])
      × AcceptIs {J = J} image t operands (Asks request)
  HandedOn image t operands rs answer = ⊥

  -- what `accept` answers, where the caller keeps the token and lends a place for what is handed on: nothing
  -- else stands there
  abbrev pub TookAs : Image → TableContent → Token → TableContent → Results J → Took → Type 0
  TookAs image old t new rs took.Waits = Accepted {J = J} image old t new Waits × NoResults rs
  TookAs image old t new rs took.Fires = Accepted {J = J} image old t new (Fires rs.sent)
      × (rs.request ≡ None)
  TookAs image old t new rs took.Asks = (request : Asked) × (rs.request ≡ Some request)
      × (rs.sent ≡ []) × Accepted {J = J} image old t new (Asks request)
  TookAs image old t new rs took.Old = Refused {J = J} old t new (fault.Old t) × NoResults rs
  TookAs image old t new rs took.NoMemory = Refused {J = J} old t new (fault.NoMemory t) × NoResults rs

  -- the answer says that the instance has fired
  abbrev pub has_fired : Accept J → Bool
  has_fired Waits = false
  has_fired (Fires tokens) = true
  has_fired (Asks request) = true

  -- this holds where the answer is `NoMemory`
  abbrev pub IfNoMemory : AcceptFault J → Type 0 → Type 0
  IfNoMemory (fault.Old back) holds = Unit {0}
  IfNoMemory (fault.NoMemory back) holds = holds

-- where the token was taken the instance fires exactly if this is so
abbrev pub FiresSo : Took → Bool → Type 0
FiresSo took.Waits fires = fires ≡ false
FiresSo took.Fires fires = fires ≡ true
FiresSo took.Asks fires = fires ≡ true
FiresSo answer fires = Unit {0}

-- the state holds at the ports of the token's instance what the table holds
abbrev pub Agrees : State → TableContent → Token → Type 0
Agrees s c t = (q : ℕ) → s.held t.wave t.instr q ≡ held c t.wave t.instr q

-- the state once the token has moved into its port
abbrev pub moved : State → Token → State
moved s t = arrived s t.wave t.instr t.port t.value

abbrev pub match_of : Image → State → Token → State
match_of image s t = matched image s t.wave t.instr t.port t.value
