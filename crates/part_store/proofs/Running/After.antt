-- What stays true of a buffer after a call.
use Rattle.std.proofs.Common.{ℕ, ◌≡◌, true, List, Option, Some, None, Result, Ok, Err, sym, ◌∙◌, subst, inl}
use Rattle.std.proofs.Common.{inr, arith}
use Rattle.std.proofs.lemmas.Bool.{both_ways}
use Rattle.ws_words.specs.Outside.{World}
use Rattle.ws_isa.specs.Image.{Image, Token, instr_at}
use Rattle.ws_isa.specs.Formed.{Formed}
use Rattle.ws_isa.specs.Sound.{Sound}
use Rattle.df_core.proofs.Walked.SentTokens.{nth_slice}
use Rattle.df_core.specs.Chains.{chain_of}
use Rattle.df_core.specs.Began.{Began}
use Rattle.df_core.specs.Rights.{IsAsked, IsRight}
use Rattle.store_buf.specs.declared.fault.BufFault.{BufFault}
use Rattle.store_buf.specs.declared.fault.BufFault.TheVariants as fault
use Rattle.store_buf.specs.declared.kept.Kept.{Kept}
use Rattle.store_buf.specs.Outdoors.{RoseAt}
use Rattle.store_buf.specs.Outers.{holding}
use Rattle.store_buf.specs.Contents.{PortWaits, RightTokens, with_tokens}
use Rattle.store_buf.specs.Stores.{asked_of}
use Rattle.store_buf.proofs.Failing.{rose_since}
use Rattle.store_buf.proofs.Within.{port_in}
use Rattle.part_store.specs.declared.parts.Parts.{Parts}
use Rattle.part_store.specs.Parted.{IsAddressed, is_store_op}
use Rattle.part_store.specs.Calls.{AddressSo, AddressedSo, SameAs, SubmittedSo, PartFailedSo, PartIdle}
use Rattle.part_store.specs.Calls.{PartSubmitSo, request_of}
use Rattle.part_store.specs.Parts.{AddressLeads, Calm, PartsOk, PartsFiled, content_of, PartsStanding}
use Rattle.part_store.specs.Parts.{PartsSubmitLeads}
use Rattle.part_store.proofs.Running.Resting as R
use Rattle.part_store.specs.Contents.{PartContent}

module _ {P : Type 0} (image : Image) (world : World) (began : List (Option Began)) (formed : Formed image)
    (old new : Parts P) (standing : PartsStanding image world began old) (calm : Calm image world began new)
    (ok : PartsOk new) (filed : PartsFiled image new) where
  idle_same : SameAs (content_of old) (content_of new) → PartIdle image (content_of new)
  idle_same s f t = grind arith

  failed_same : SameAs (content_of old) (content_of new) → PartFailedSo image began (content_of new)
  failed_same s port e = grind arith

  none_failed : new.failed ≡ None → PartFailedSo image began (content_of new)
  none_failed n port e = absurd (let f : None ≡ Some port = sym n ∙ e in cc)

  -- in this call a port failed, and had failed no more often when the run began than before the call
  one_failed : (port : ℕ) → new.failed ≡ Some port → RoseAt port old.outer.ports new.outer.ports →
      PortWaits image new.order.kept.items (chain_of new.order.chain) port →
      PartFailedSo image began (content_of new)
  one_failed port is rose waits p e = grind (
    arith,
    rose_since began _ (holding old.outer)
        standing.calm.0.parting.partly.outside port new.outer.ports (instr_at image waits.request.instr).op
        (port_in image waits.request.instr formed) waits.port_is rose,
  )

  stands : PartIdle image (content_of new) → PartFailedSo image began (content_of new) →
      PartsStanding image world began new
  stands idle failed = record { ok = ok; filed = filed; calm = calm; idle = idle; failed = failed }

  stopped : (array : ℕ) → new.fault ≡ Some array → new.failed ≡ None → PartsStanding image world began new
  stopped array e n = stands (λ f t. R.no_rule_stopped image (content_of new) array e calm.1) (none_failed n)

  fails : (port : ℕ) → new.failed ≡ Some port → RoseAt port old.outer.ports new.outer.ports →
      PortWaits image new.order.kept.items (chain_of new.order.chain) port
      → PartsStanding image world began new
  fails port is rose waits = grind (arith, stands, one_failed port is rose waits)

  starves : new.starved ≡ true → new.failed ≡ None → PartsStanding image world began new
  starves s n = stands (λ f t. absurd (both_ways new.starved t s)) (none_failed n)

  same_stands : SameAs (content_of old) (content_of new) → PartsStanding image world began new
  same_stands s = stands (idle_same s) (failed_same s)

  equal_stands : content_of new ≡ content_of old → PartsStanding image world began new
  equal_stands e = grind arith

  pub addressed : (k : Kept) (tokens : List Token) (r : Result (Unit {0}) BufFault) →
      AddressSo image (content_of old) k tokens r (content_of new) → PartsStanding image world began new
  addressed k tokens (Ok u) a = stands (λ f t. a.1) (none_failed a.0.3)
  addressed k tokens (Err (fault.Index array)) a = stopped array a.2 a.3
  addressed k tokens (Err (fault.Port port)) a = fails port a.0.3 a.1 a.2
  addressed k tokens (Err fault.NoMemory) (inl a) = same_stands a.2
  addressed k tokens (Err fault.NoMemory) (inr a) = starves a.0.4 a.0.3
  addressed k tokens (Err (fault.Ended array)) a = equal_stands a.1
  addressed k tokens r a = equal_stands a.2

  pub submitted : (k : Kept) (tokens : List Token) (r : Result (Unit {0}) BufFault) →
      PartSubmitSo image (content_of old) k tokens r (content_of new) → PartsStanding image world began new
  submitted k tokens (Ok u) a = stands (λ f t. a.1) (none_failed a.0.3)
  submitted k tokens (Err (fault.Index array)) a = stopped array a.2 a.3
  submitted k tokens (Err (fault.Port port)) a = fails port a.0.3 a.1 a.2
  submitted k tokens (Err fault.NoMemory) (inl a) = same_stands a.2
  submitted k tokens (Err fault.NoMemory) (inr a) = starves a.0.4 a.0.3
  submitted k tokens (Err fault.Old) a = equal_stands a.3
  submitted k tokens (Err (fault.Stopped port)) a = equal_stands a.2
  submitted k tokens (Err (fault.Ended array)) a = equal_stands a.1

-- a request that waits is as it came
pub waits_is : (k : Kept) → k.answer ≡ None → k ≡ request_of (asked_of k)
waits_is k e j = record { wave = k.wave; instr = k.instr; first = k.first; second = k.second; answer = e j }

-- what calls say of a buffer's parts, said of a job
module _ {P : Type 0} (im image : Image) (world : World) (began : List (Option Began)) (same : im ≡ image)
    (formed : Formed image) (sound : Sound image) (old new : Parts P) (k a : Kept) (tokens : List Token)
    (r : Result (Unit {0}) BufFault) (is : k ≡ a) (ok : PartsOk new)
    (filed : PartsFiled im new) (standing : PartsStanding image world began old) where
  pub address_told : IsAddressed image world k.wave k.instr k.first → AddressLeads im old k tokens r new →
      PartsStanding image world began new × RightTokens image world tokens ×
      AddressSo image (content_of old) a tokens r (content_of new)
  address_told right leads =
      let l = subst (λ (i : Image). AddressLeads i old k tokens r new) same leads world began formed sound
      right standing.calm standing.idle in (
        addressed image world began formed old new standing l.0 ok (rw (← same) filed) k tokens r l.2,
        l.1,
        rw (← is) l.2,
      )

  pub submit_told : IsAsked image world (asked_of k) → PartsSubmitLeads im old k tokens r new →
      PartsStanding image world began new × RightTokens image world tokens ×
      PartSubmitSo image (content_of old) a tokens r (content_of new)
  submit_told right leads =
      let l = subst (λ (i : Image). PartsSubmitLeads i old k tokens r new) same leads world began formed sound
      right standing.calm standing.idle in (
        submitted image world began formed old new standing l.0 ok (rw (← same) filed) k tokens r l.2,
        l.1,
        rw (← is) l.2,
      )

-- the same with a list of tokens as the answer
pub addressed_as : (image : Image) (old : PartContent) (k : Kept) (tokens : List Token)
    (r : Result (Unit {0}) BufFault) (new : PartContent) → AddressSo image old k tokens r new →
    AddressedSo image old k (with_tokens tokens r) new
addressed_as image old k tokens r new a = grind arith

pub submitted_as : (image : Image) (old : PartContent) (k : Kept) (tokens : List Token)
    (r : Result (Unit {0}) BufFault) (new : PartContent) → PartSubmitSo image old k tokens r new →
    SubmittedSo image old k (with_tokens tokens r) new
submitted_as image old k tokens r new a = grind arith

-- a right token at a store's port 0 is its address
pub is_address : (image : Image) (world : World) (t : Token) → IsRight image world t →
    is_store_op (instr_at image t.instr).op ≡ true → t.port ≡ 0 →
    IsAddressed image world t.wave t.instr t.value
is_address image world t right store port = grind (arith, nth_slice)
