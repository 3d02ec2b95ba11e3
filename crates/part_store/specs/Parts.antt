-- What the parts of a buffer with queues stand for, and where their calls lead.
use Rattle.std.specs.Prelude.{ℕ, ◌≡◌, ◌+◌, ◌<◌, ◌≤◌, ◌++◌, Bool, true, false, ◌==◌, is_some, cond, ◌&&◌, ◌||◌}
use Rattle.std.specs.Prelude.{not, ltb, nat_eq, List, length, Option, Some, None, Result, Ok, Err, vec_len}
use Rattle.std.specs.Prelude.{vec_capacity}
use Rattle.std.specs.HashMap.{spare}
use Rattle.std.specs.VecDeque.{deque_len, deque_capacity}
use Rattle.ws_words.specs.Outside.{World}
use Rattle.ws_isa.specs.Image.{Image, Token, instr_at}
use Rattle.ws_isa.specs.Formed.{Formed}
use Rattle.ws_isa.specs.Sound.{Sound}
use Rattle.df_core.specs.Core.{has}
use Rattle.df_core.specs.Began.{Began}
use Rattle.df_core.specs.Rights.{IsAsked}
use Rattle.store_buf.specs.Stores.{asked_of}
use Rattle.df_core.specs.Chains.{chain_of}
use Rattle.df_core.specs.Stands.{HasEarly, EarlyIssued}
use Rattle.store_buf.specs.declared.kept.Kept.{Kept}
use Rattle.store_buf.specs.Requests.{entry_of, issued_in}
use Rattle.store_buf.specs.Ordering.{AllFiled, Room, IsForemost, NoneEarly, WaitsHere, kept_at}
use Rattle.store_buf.specs.Ordering.{ready_flag, MayAt, SameEarly, chain_in, early_of, requests_of}
use Rattle.store_buf.specs.Ordering.{waiting_of}
use Rattle.store_buf.specs.declared.fault.BufFault.{BufFault}
use Rattle.store_buf.specs.declared.fault.BufFault.TheVariants as fault
use Rattle.store_buf.specs.declared.fault.Silent.{Silent}
use Rattle.store_buf.specs.declared.fault.Silent.TheVariants.{Failed, NoMemory}
use Rattle.store_buf.specs.Outdoors.{RoseAt}
use Rattle.store_buf.specs.Contents.{PortWaits, RightTokens}
use Rattle.store_buf.specs.Outers.{holding}
use Rattle.part_store.specs.declared.entry.Queued.{Queued}
use Rattle.part_store.specs.declared.parts.Parts.{Parts}
use Rattle.part_store.specs.Bares.{is_in}
use Rattle.part_store.specs.Held.{QueuesOk}
use Rattle.store_buf.specs.declared.order.Order.{Order}
use Rattle.part_store.specs.Queues.{front, open_queues}
use Rattle.part_store.specs.Contents.{is_bare, holds_op, PartContent}
use Rattle.part_store.specs.Parted.{Fronts, IsAddressed, Parting, is_store_op}
use Rattle.part_store.specs.Calls.{AddressSo, PartFailedSo, PartIdle, PartSubmitSo}
use Rattle.part_store.specs.Rules.{Alike, Fills, FrontGoes, Moves, MovesTo, is_past_at}

-- each queue's first entry is a store without data, but on this cell
abbrev pub FrontsBut : ℕ → ℕ → PartContent → Type 0
FrontsBut r j c = (e : Queued) (q l : ℕ) → front c.queued q l ≡ Some e → (q ≡ r → l ≡ j → ⊥) →
    is_bare c e.wave e.instr ≡ true

module _ {P : Type 0} where
  abbrev pub content_of : Parts P → PartContent
  content_of s = record {
    kept = requests_of s.order;
    bare = s.bare.set.keys;
    queued = s.queues.entries.items;
    chain = chain_of (chain_in s.order);
    fault = s.fault;
    failed = s.failed;
    starved = s.starved;
    outside = holding s.outer;
  }

  -- there is room for what all that waits leaves, and the queues are counted
  pub record PartsOk (s : Parts P) : Type 0 where
    pub early : Room s.order
    pub printed : vec_len s.outer.printed + waiting_of s.order ≤ vec_capacity s.outer.printed
    pub queues : deque_len s.queues.entries + waiting_of s.order ≤ deque_capacity s.queues.entries
    pub lines : waiting_of s.order ≤ spare s.queues.lines
    pub counted : QueuesOk s.queues
    pub bare : (w i : ℕ) → is_in s.bare w i ≡ true
        → (k : Kept) × (entry_of (requests_of s.order) w i ≡ Some k)

  -- what waits is found, and addresses alone are those of stores
  pub record PartsFiled (image : Image) (s : Parts P) : Type 0 where
    pub filed : AllFiled image s.order
    pub stores : (w i : ℕ) → is_in s.bare w i ≡ true → is_store_op (instr_at image i).op ≡ true

  -- it is a buffer of a run, and the loads that count as issued and that the chain hasn't passed are listed
  pub record PartsStand (image : Image) (world : World) (began : List (Option Began))
      (s : Parts P) : Type 0 where
    pub parting : Parting image world began (content_of s)
    pub early_issued : EarlyIssued (issued_in (requests_of s.order)) (chain_of (chain_in s.order))
        (early_of s.order)
    pub early_all : HasEarly image world (issued_in (requests_of s.order)) (chain_of (chain_in s.order))
        (early_of s.order)

  -- and each queue's first entry is a store without data
  abbrev pub Calm : Image → World → List (Option Began) → Parts P → Type 0
  Calm image world began s = PartsStand image world began s × Fronts (content_of s)

  -- whether the rules let one proceed that the chain does
  abbrev pub rule_flag : Image → Parts P → Kept → Bool
  rule_flag image s k = cond (is_in s.bare k.wave k.instr)
      (not (is_past_at image k) && (ltb (open_queues s.queues.entries.items) 16
      || holds_op s.queues.entries.items (instr_at image k.instr).op k.first))
      (nat_eq (length s.queues.entries.items) 0 || not (is_past_at image k))

  abbrev pub go_flag : Image → Parts P → Kept → Bool
  go_flag image s k = ready_flag image s.order k && rule_flag image s k

  -- none may go
  abbrev pub NoneGo : Image → Parts P → Type 0
  NoneGo image s = (p : ℕ) → p < length (requests_of s.order) → go_flag image s (kept_at s.order p) ≡ false

  pub record GoesAt (image : Image) (s : Parts P) (p : ℕ) : Type 0 where
    pub may : MayAt image s.order p
    pub rule : rule_flag image s (kept_at s.order p) ≡ true

  -- none was found that may go: neither a load before its turn, nor the first that waits
  pub record NoneSought (image : Image) (s : Parts P) : Type 0 where
    pub early : NoneEarly image s.order
    pub first : (p : ℕ) → WaitsHere s.order p → (q : ℕ) × IsForemost image s.order q
        × (go_flag image s (kept_at s.order q) ≡ false)

  -- of each buffer of a run that they are, none may proceed
  abbrev pub NoneGoSo : Image → Parts P → Type 0
  NoneGoSo image s = (world : World) (began : List (Option Began)) → Formed image → Sound image →
      PartsStand image world began s → NoneGo image s

  -- moves lead on from each calm buffer to a calm one; their tokens come behind others
  abbrev pub MovesOn : Image → Parts P → Parts P → List Token → List Token → Type 0
  MovesOn image old new before after = (tokens : List Token) × (after ≡ before ++ tokens)
      × ((world : World) (began : List (Option Began)) → Formed image → Sound image →
      Calm image world began old →
      Moves image (content_of old) tokens (content_of new) × Calm image world began new)

  -- a calm buffer stays calm, and nothing changes but what ports report of their faults
  abbrev pub StaysCalm : Image → Parts P → Parts P → Type 0
  StaysCalm image old new = (world : World) (began : List (Option Began)) → Calm image world began old →
      Calm image world began new × Alike (content_of old) (content_of new)

  -- the operation on a port that doesn't answer is next, and its request waits
  abbrev pub PartsSilentSo : Image → Parts P → Parts P → Silent → Type 0
  PartsSilentSo image old new (Failed port) =
      PortWaits image (requests_of new.order) (chain_of (chain_in new.order)) port
      × RoseAt port old.outer.ports new.outer.ports
  PartsSilentSo image old new (NoMemory port) =
      PortWaits image (requests_of new.order) (chain_of (chain_in new.order)) port

  -- what is left to proceed
  abbrev pub left_over : Parts P → ℕ
  left_over s = waiting_of s.order + cond (has s.fault) 0 1

  -- the same, where a port's count of faults may have risen at the end
  abbrev pub PartsLeadTo : Image → Parts P → Parts P → List Token → List Token → Type 0
  PartsLeadTo image old new before after = (tokens : List Token) × (after ≡ before ++ tokens)
      × ((world : World) (began : List (Option Began)) → Formed image → Sound image →
      Calm image world began old →
      MovesTo image (content_of old) tokens (content_of new) × Calm image world began new)

  -- it has these requests, and else nothing has changed
  pub record PartsKeep (old : Parts P) (kept : List Kept) (new : Parts P) : Type 0 where
    pub kept_are : requests_of new.order ≡ kept
    pub chain : chain_in new.order ≡ chain_in old.order
    pub early : early_of new.order ≡ early_of old.order
    pub outer : holding new.outer ≡ holding old.outer
    pub queued : new.queues.entries.items ≡ old.queues.entries.items
    pub fault : new.fault ≡ old.fault
    pub failed : new.failed ≡ old.failed
    pub starved : new.starved ≡ old.starved

  -- how moves in turn have ended
  abbrev pub PartsSettledSo : Image → Parts P → Result (Unit {0}) BufFault → Parts P → Type 0
  PartsSettledSo image old (Ok _) new = (new.fault ≡ None) × (new.failed ≡ old.failed) × (new.starved ≡ false)
      × NoneGoSo image new
  PartsSettledSo image old (Err (fault.Index array)) new =
      (new.fault ≡ Some array) × (new.failed ≡ old.failed)
      × (new.starved ≡ false)
  PartsSettledSo image old (Err (fault.Port port)) new = (new.fault ≡ None) × (new.failed ≡ Some port)
      × (new.starved ≡ false) × RoseAt port old.outer.ports new.outer.ports
      × PortWaits image (requests_of new.order) (chain_of (chain_in new.order)) port
  PartsSettledSo image old (Err fault.NoMemory) new = (new.fault ≡ None) × (new.failed ≡ old.failed)
      × (new.starved ≡ true)
      × ((port : ℕ) × PortWaits image (requests_of new.order) (chain_of (chain_in new.order)) port)
  PartsSettledSo image old (Err _) new = ⊥

  -- a right address leads on as contracts say, and a calm buffer stays calm
  abbrev pub AddressLeads : Image → Parts P → Kept → List Token → Result (Unit {0}) BufFault → Parts P →
      Type 0
  AddressLeads image old k tokens result new = (world : World) (began : List (Option Began)) → Formed image →
      Sound image → IsAddressed image world k.wave k.instr k.first → Calm image world began old →
      PartIdle image (content_of old) →
      Calm image world began new × RightTokens image world tokens
      × AddressSo image (content_of old) k tokens result (content_of new)

  -- the chain, the ports and what is kept in mind are as before, and as many wait
  pub record Beside (old new : Parts P) : Type 0 where
    pub chain : chain_in new.order ≡ chain_in old.order
    pub early : SameEarly old.order new.order
    pub waiting : waiting_of new.order ≡ waiting_of old.order
    pub bare : new.bare ≡ old.bare
    pub ports : new.outer.ports ≡ old.outer.ports
    pub fault : new.fault ≡ old.fault
    pub failed : new.failed ≡ old.failed
    pub starved : new.starved ≡ old.starved

  -- the first entry of a queue is done
  abbrev pub FinishLeads : Image → Queued → Parts P → Parts P → List Token → List Token → Type 0
  FinishLeads image e old new before after = (tokens : List Token) × (after ≡ before ++ tokens)
      × ((world : World) (began : List (Option Began)) → Formed image → Sound image →
      PartsStand image world began old → old.fault ≡ None → FrontGoes (content_of old) e →
      Moves image (content_of old) tokens (content_of new) × PartsStand image world began new)

  -- first entries on a cell are done, one after another
  abbrev pub FollowsOn : Image → ℕ → ℕ → Parts P → Parts P → List Token → List Token → Type 0
  FollowsOn image r j old new before after = (tokens : List Token) × (after ≡ before ++ tokens)
      × ((world : World) (began : List (Option Began)) → Formed image → Sound image →
      PartsStand image world began old → old.fault ≡ None → FrontsBut r j (content_of old) →
      Moves image (content_of old) tokens (content_of new) × PartsStand image world began new
      × FrontsBut r j (content_of new))

-- the request at a place is that of an instance, and counts as issued
abbrev pub issued_flag : Order → ℕ → ℕ → ℕ → Bool
issued_flag o p w i =
    ((kept_at o p).wave == w) && (((kept_at o p).instr == i) && is_some (kept_at o p).answer)

-- each queue's first entry is a store without data, but that of one instance
abbrev pub FrontsBy : ℕ → ℕ → PartContent → Type 0
FrontsBy w i c = (e : Queued) (r j : ℕ) → front c.queued r j ≡ Some e → (e.wave ≡ w → e.instr ≡ i → ⊥) →
    is_bare c e.wave e.instr ≡ true

abbrev pub kept_flag : Order → ℕ → ℕ → ℕ → Bool
kept_flag o p w i = ((kept_at o p).wave == w) && ((kept_at o p).instr == i)

module _ {P : Type 0} where
  -- an address has its data
  pub record Filled (old : Parts P) (k : Kept) (new : Parts P) : Type 0 where
    pub fills : Fills (content_of old) k (content_of new)
    pub same_chain : chain_in new.order ≡ chain_in old.order
    pub early : SameEarly old.order new.order
    pub waiting : waiting_of new.order ≡ waiting_of old.order
    pub queues : new.queues ≡ old.queues
    pub outer : new.outer ≡ old.outer
    pub failed : new.failed ≡ old.failed
    pub starved : new.starved ≡ old.starved

  -- a right request leads on as contracts say, and a calm buffer stays calm
  abbrev pub PartsSubmitLeads : Image → Parts P → Kept → List Token → Result (Unit {0}) BufFault → Parts P →
      Type 0
  PartsSubmitLeads image old k tokens result new = (world : World) (began : List (Option Began)) →
      Formed image →
      Sound image → IsAsked image world (asked_of k) → Calm image world began old →
      PartIdle image (content_of old) →
      Calm image world began new × RightTokens image world tokens
      × PartSubmitSo image (content_of old) k tokens result (content_of new)

  -- the queue of a store's cell is followed
  abbrev pub DrainLeads : Image → Kept → Parts P → Parts P → List Token → List Token → Type 0
  DrainLeads image k old new before after = (tokens : List Token) × (after ≡ before ++ tokens)
      × ((world : World) (began : List (Option Began)) → Formed image → Sound image →
      IsAsked image world (asked_of k) → PartsStand image world began old → old.fault ≡ None →
      FrontsBy k.wave k.instr (content_of old) →
      Moves image (content_of old) tokens (content_of new) × Calm image world began new)

module _ {P : Type 0} where
  -- what is true of a buffer's parts whenever no call is at work
  pub record PartsStanding (image : Image) (world : World) (began : List (Option Began))
      (s : Parts P) : Type 0 where
    pub ok : PartsOk s
    pub filed : PartsFiled image s
    pub calm : Calm image world began s
    pub idle : PartIdle image (content_of s)
    pub failed : PartFailedSo image began (content_of s)
