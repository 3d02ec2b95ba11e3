-- What comes of a request or an address.
use Rattle.std.specs.Prelude.{ℕ, ◌≡◌, ◌⊎◌, Bool, true, false, List, Option, Some, None, Result, Ok, Err}
use Rattle.ws_isa.specs.Image.{Image, Token}
use Rattle.store_buf.specs.declared.fault.BufFault.{BufFault}
use Rattle.store_buf.specs.declared.fault.BufFault.TheVariants.{Old, Port, Stopped, Index, Ended, NoMemory}
use Rattle.store_buf.specs.declared.kept.Kept.{Kept}
use Rattle.store_buf.specs.Requests.{entry_of}
use Rattle.store_buf.specs.Outdoors.{RoseAt, RoseSince}
use Rattle.store_buf.specs.Contents.{PortWaits}
use Rattle.df_core.specs.Rights.{Asked}
use Rattle.df_core.specs.Began.{Began}
use Rattle.part_store.specs.Contents.{is_bare, PartContent}
use Rattle.part_store.specs.Rules.{Fills, MovesTo, NoRule, ComesIn}

-- neither is the chain stopped nor has a port failed
abbrev pub PartRuns : PartContent → Type 0
PartRuns c = (c.fault ≡ None) × (c.failed ≡ None)

-- nothing has changed
pub record SameAs (c d : PartContent) : Type 0 where
  pub kept : d.kept ≡ c.kept
  pub bare : (w i : ℕ) → is_bare d w i ≡ is_bare c w i
  pub queued : d.queued ≡ c.queued
  pub chain : d.chain ≡ c.chain
  pub fault : d.fault ≡ c.fault
  pub failed : d.failed ≡ c.failed
  pub starved : d.starved ≡ c.starved
  pub outside : d.outside ≡ c.outside

-- where a port has failed the operation that is next is on it and waits, and its count of faults rose since
-- the run began
abbrev pub PartFailedSo : Image → List (Option Began) → PartContent → Type 0
PartFailedSo image began c = (port : ℕ) → c.failed ≡ Some port → PortWaits image c.kept c.chain port
    × RoseSince began port c.outside.ports

-- no rule is applicable but where a port hasn't answered
abbrev pub PartIdle : Image → PartContent → Type 0
PartIdle image c = c.failed ≡ None → c.starved ≡ false → NoRule image c

-- it has come, moves with these tokens lead on, and now the chain is stopped, a port has failed or found no
-- memory, or none of these
abbrev pub CameSo : Image → PartContent → Kept → Bool → List Token → Option ℕ → Option ℕ → Bool →
    PartContent → Type 0
CameSo image old k bare tokens fault failed starved new = PartRuns old
    × ((mid : PartContent) × ComesIn old k bare mid × MovesTo image mid tokens new)
    × (new.fault ≡ fault) × (new.failed ≡ failed) × (new.starved ≡ starved)

-- What came of an address. Where that is Ok no rule is applicable; for want of the buffer's own memory
-- nothing has changed.
abbrev pub AddressSo : Image → PartContent → Kept → List Token → Result (Unit {0}) BufFault → PartContent →
    Type 0
AddressSo image old k tokens (Ok _) new = CameSo image old k true tokens None None false new
    × NoRule image new
AddressSo image old k tokens (Err (Index array)) new =
    CameSo image old k true tokens (Some array) None false new
AddressSo image old k tokens (Err (Port port)) new =
    CameSo image old k true tokens None (Some port) false new
    × RoseAt port old.outside.ports new.outside.ports × PortWaits image new.kept new.chain port
AddressSo image old k tokens (Err NoMemory) new =
    (PartRuns old × (entry_of old.kept k.wave k.instr ≡ None) × SameAs old new)
    ⊎ (CameSo image old k true tokens None None true new
    × ((port : ℕ) × PortWaits image new.kept new.chain port))
AddressSo image old k tokens (Err Old) new = PartRuns old
    × ((x : Kept) × (entry_of old.kept k.wave k.instr ≡ Some x)) × (new ≡ old)
AddressSo image old k tokens (Err (Stopped port)) new = (old.fault ≡ None) × (old.failed ≡ Some port)
    × (new ≡ old)
AddressSo image old k tokens (Err (Ended array)) new = (old.fault ≡ Some array) × (new ≡ old)

-- it had not come, or its address had come alone
pub data ComesWhole (c : PartContent) (k : Kept) (d : PartContent) : Type 0 where
  comes : ComesIn c k false d → ComesWhole c k d
  fills : Fills c k d → ComesWhole c k d

abbrev pub PartTookSo : Image → PartContent → Kept → List Token → Option ℕ → Option ℕ → Bool → PartContent →
    Type 0
PartTookSo image old k tokens fault failed starved new = PartRuns old
    × ((mid : PartContent) × ComesWhole old k mid × MovesTo image mid tokens new)
    × (new.fault ≡ fault) × (new.failed ≡ failed) × (new.starved ≡ starved)

-- what came of a request, likewise
abbrev pub PartSubmitSo : Image → PartContent → Kept → List Token → Result (Unit {0}) BufFault → PartContent →
    Type 0
PartSubmitSo image old k tokens (Ok _) new =
    PartTookSo image old k tokens None None false new × NoRule image new
PartSubmitSo image old k tokens (Err (Index array)) new =
    PartTookSo image old k tokens (Some array) None false new
PartSubmitSo image old k tokens (Err (Port port)) new =
    PartTookSo image old k tokens None (Some port) false new × RoseAt port old.outside.ports new.outside.ports
    × PortWaits image new.kept new.chain port
PartSubmitSo image old k tokens (Err NoMemory) new =
    (PartRuns old × ((entry_of old.kept k.wave k.instr ≡ None) ⊎ (is_bare old k.wave k.instr ≡ true))
    × SameAs old new)
    ⊎ (PartTookSo image old k tokens None None true new ×
    ((port : ℕ) × PortWaits image new.kept new.chain port))
PartSubmitSo image old k tokens (Err Old) new = PartRuns old
    × ((x : Kept) × (entry_of old.kept k.wave k.instr ≡ Some x)) × (is_bare old k.wave k.instr ≡ false)
    × (new ≡ old)
PartSubmitSo image old k tokens (Err (Stopped port)) new = (old.fault ≡ None) × (old.failed ≡ Some port)
    × (new ≡ old)
PartSubmitSo image old k tokens (Err (Ended array)) new = (old.fault ≡ Some array) × (new ≡ old)

-- what came of an address or a request whose answer is a list of tokens; if it is a fault some tokens are
-- released
abbrev pub AddressedSo : Image → PartContent → Kept → Result (List Token) BufFault → PartContent → Type 0
AddressedSo image old k (Ok tokens) new = AddressSo image old k tokens (Ok tt) new
AddressedSo image old k (Err fault) new = (tokens : List Token) × AddressSo image old k tokens (Err fault) new

abbrev pub SubmittedSo : Image → PartContent → Kept → Result (List Token) BufFault → PartContent → Type 0
SubmittedSo image old k (Ok tokens) new = PartSubmitSo image old k tokens (Ok tt) new
SubmittedSo image old k (Err fault) new =
    (tokens : List Token) × PartSubmitSo image old k tokens (Err fault) new

-- a token at a store's port 0, and a request, as they are kept
abbrev pub address_of : Token → Kept
address_of t = record { wave = t.wave; instr = t.instr; first = t.value; second = 0; answer = None }

abbrev pub request_of : Asked → Kept
request_of r = record { wave = r.wave; instr = r.instr; first = r.first; second = r.second; answer = None }
