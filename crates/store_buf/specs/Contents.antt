-- A buffer as contracts see it, and what comes of a request.
use Rattle.std.specs.Prelude.{ℕ, ◌≡◌, ◌⊎◌, Bool, true, false, cond, List, [], Option, Some, None, Result, Ok}
use Rattle.std.specs.Prelude.{Err}
use Rattle.ws_words.specs.Outside.{Outside, World}
use Rattle.ws_isa.specs.declared.instr.Op.{Op}
use Rattle.ws_isa.specs.declared.instr.Op.TheVariants.{Load, Input, Give}
use Rattle.ws_isa.specs.Image.{Image, Token, instr_at, note_of, ports, array_at, cells_of}
use Rattle.ws_isa.specs.Operations.{FaultsAt}
use Rattle.df_core.specs.Core.{Chain, IsNext, IsSent, has, with_key}
use Rattle.df_core.specs.Fit.{RightToken}
use Rattle.df_core.specs.Shown.{Buffer, BufferOk, NoneIssuable}
use Rattle.port_set.specs.Ports.{Told}
use Rattle.df_core.specs.Began.{Began}
use Rattle.df_core.specs.Rights.{Asked, operands_of}
use Rattle.store_buf.specs.declared.fault.BufFault.{BufFault}
use Rattle.store_buf.specs.declared.fault.BufFault.TheVariants.{Old, Port, Stopped, Index, Ended, NoMemory}
use Rattle.store_buf.specs.declared.kept.Kept.{Kept}
use Rattle.store_buf.specs.Requests.{entry_of, issued_in}
use Rattle.store_buf.specs.Outdoors.{Holding, HoldsOut, RoseAt, RoseSince, port_of}
use Rattle.store_buf.specs.Holds.{Issues, part}

-- its requests in the order in which they came, where the chain stands, the array of the out-of-bounds
-- operation at which it is stopped, the port that failed, whether a port found no memory, and what is outside
pub record Content : Type 0 where
  pub kept : List Kept
  pub chain : Chain
  pub fault : Option ℕ
  pub failed : Option ℕ
  pub starved : Bool
  pub outside : Holding

-- the part of the core's state that it is, with this memory
abbrev pub buffer_in : Image → Content → Outside → Buffer
buffer_in image c m = part image c.kept c.chain (has c.fault) m

-- the array is that of the walk's first out-of-bounds operation
abbrev pub FaultIs : Image → World → Option ℕ → Type 0
FaultIs image world None = Unit {0}
FaultIs image world (Some array) = (t : ℕ) × (f : FaultsAt image world t)
    × (array ≡ array_at image f.inst.instr)

-- it is a buffer of a run with this memory: legal, and what it holds is outside
pub record IsBuffer (image : Image) (world : World) (began : List (Option Began)) (c : Content)
    (m : Outside) : Type 0 where
  pub ok : BufferOk image world (buffer_in image c m)
  pub outside : HoldsOut began m c.outside
  pub fault : FaultIs image world c.fault

-- a request that had not come has come, and waits
pub record RequestArrives (image : Image) (old : Buffer) (r : Asked) (new : Buffer) : Type 0 where
  pub fresh : old.kept r.wave r.instr ≡ None
  pub kept : (w i : ℕ) → new.kept w i ≡ with_key r.wave r.instr
      (Some (operands_of (ports image r.instr) r.first r.second)) old.kept w i
  pub issued : (w i : ℕ) → new.issued w i ≡ old.issued w i
  pub chain : new.chain ≡ old.chain
  pub stopped : new.stopped ≡ old.stopped
  pub memory : new.memory ≡ old.memory

-- the request has come, and issues in turn with these result tokens lead on
pub record Submitted (image : Image) (world : World) (began : List (Option Began)) (old : Content)
    (m : Outside) (r : Asked) (tokens : List Token) (new : Content) : Type 0 where
  pub arrived : Buffer
  pub arrives : RequestArrives image (buffer_in image old m) r arrived
  pub memory : Outside
  pub issues : Issues image arrived tokens (buffer_in image new memory)
  pub is : IsBuffer image world began new memory

-- so it is with each memory with which it was a buffer of the run
abbrev pub SubmittedAlways : Image → World → List (Option Began) → Content → Asked → List Token → Content →
    Type 0
SubmittedAlways image world began old r tokens new = (m : Outside) → IsBuffer image world began old m
    → Submitted image world began old m r tokens new

-- the walk has these tokens
abbrev pub RightTokens : Image → World → List Token → Type 0
RightTokens image world tokens = (w i p v : ℕ) → IsSent tokens w i p v → RightToken image world w i p v

-- an operation on this port is next, and its request waits
pub record PortWaits (image : Image) (kept : List Kept) (chain : Chain) (port : ℕ) : Type 0 where
  pub request : Kept
  pub is_kept : entry_of kept request.wave request.instr ≡ Some request
  pub waits : request.answer ≡ None
  pub current : request.wave ≡ chain.wave
  pub next : IsNext chain (note_of image request.instr)
  pub port_is : port_of (instr_at image request.instr).op ≡ Some port

-- where a port has failed the operation that is next is on it and waits, and its count of faults rose since
-- the run began
abbrev pub FailedSo : Image → List (Option Began) → Content → Type 0
FailedSo image began c = (port : ℕ) → c.failed ≡ Some port →
    PortWaits image c.kept c.chain port × RoseSince began port c.outside.ports

-- nothing that waits is issuable
abbrev pub Idle : Image → Content → Type 0
Idle image c = (m : Outside) → NoneIssuable image (buffer_in image c m)

-- neither is the chain stopped nor has a port failed
abbrev pub Runs : Content → Type 0
Runs c = (c.fault ≡ None) × (c.failed ≡ None)

abbrev pub IsNew : Content → Asked → Type 0
IsNew c r = entry_of c.kept r.wave r.instr ≡ None

-- the request has come, and now the chain is stopped, a port has failed or found no memory, or none of these
abbrev pub Comes : Image → World → List (Option Began) → Content → Asked → List Token → Option ℕ → Option ℕ
    → Bool → Content → Type 0
Comes image world began old r tokens fault failed starved new =
    Runs old × IsNew old r × SubmittedAlways image world began old r tokens new × (new.fault ≡ fault)
    × (new.failed ≡ failed) × (new.starved ≡ starved)

-- What came of a request. If the answer isn't `NoMemory`, it is the buffer's own and nothing
-- has changed, or it is a port's.
abbrev pub SubmitSo : Image → World → List (Option Began) → Content → Asked → Result (List Token) BufFault
    → Content → Type 0
SubmitSo image world began old r (Ok tokens) new = Comes image world began old r tokens None None false new
    × Idle image new
SubmitSo image world began old r (Err (Index array)) new = (tokens : List Token)
    × Comes image world began old r tokens (Some array) None false new
SubmitSo image world began old r (Err (Port port)) new =
    ((tokens : List Token) × Comes image world began old r tokens None (Some port) false new)
    × RoseAt port old.outside.ports new.outside.ports × PortWaits image new.kept new.chain port
SubmitSo image world began old r (Err NoMemory) new =
    (Runs old × IsNew old r × (new ≡ old))
    ⊎ (((tokens : List Token) × Comes image world began old r tokens None None true new)
    × ((port : ℕ) × PortWaits image new.kept new.chain port))
SubmitSo image world began old r (Err Old) new = Runs old
    × ((k : Kept) × (entry_of old.kept r.wave r.instr ≡ Some k)) × (new ≡ old)
SubmitSo image world began old r (Err (Stopped port)) new = (old.fault ≡ None) × (old.failed ≡ Some port)
    × (new ≡ old)
SubmitSo image world began old r (Err (Ended array)) new = (old.fault ≡ Some array) × (new ≡ old)

-- the tokens, where there is no fault
abbrev pub with_tokens : List Token → Result (Unit {0}) BufFault → Result (List Token) BufFault
with_tokens tokens (Ok _) = Ok tokens
with_tokens tokens (Err fault) = Err fault

-- before the first request
abbrev pub opening_content : Image → World → List (Option Told) → Content
opening_content image world ports = record {
  kept = [];
  chain = record { wave = 1; last = None };
  fault = None;
  failed = None;
  starved = false;
  outside = record { cells = cells_of image.arrays; input = world.input; printed = []; ports = ports };
}

-- operations whose answer is a word of the run
abbrev pub gives_word : Op → Bool
gives_word (Load a) = true
gives_word Input = true
gives_word (Give p) = true
gives_word _ = false

-- the word that an issued one gave
abbrev pub answer_of : Image → Content → ℕ → ℕ → Option ℕ
answer_of image c w i = cond (gives_word (instr_at image i).op) (issued_in c.kept w i) None

-- why a buffer takes no more requests, or that a port found no memory
abbrev pub stop_of : Option ℕ → Option ℕ → Bool → Option BufFault
stop_of (Some array) failed starved = Some (Ended array)
stop_of None (Some port) starved = Some (Stopped port)
stop_of None None true = Some NoMemory
stop_of None None false = None
