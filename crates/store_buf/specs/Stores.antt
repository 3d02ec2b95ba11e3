-- What a store stands for, and where its calls lead.
use Rattle.std.specs.Prelude.{ℕ, ◌≡◌, cond, ◌+◌, ◌≤◌, ◌++◌, ◌⊎◌, true, false, List, [], Option, Some, None}
use Rattle.std.specs.Prelude.{◌∷◌, Result, Ok, Err, vec_len, vec_capacity}
use Rattle.ws_words.specs.Outside.{Outside, World}
use Rattle.ws_isa.specs.Image.{Image, Token}
use Rattle.ws_isa.specs.Formed.{Formed}
use Rattle.ws_isa.specs.Sound.{Sound}
use Rattle.df_core.specs.Core.{has}
use Rattle.df_core.specs.Shown.{Buffer}
use Rattle.df_core.specs.Began.{Began}
use Rattle.df_core.specs.Rights.{Asked, IsAsked}
use Rattle.df_core.specs.Chains.{chain_of}
use Rattle.df_core.specs.Stands.{HasEarly, EarlyIssued}
use Rattle.store_buf.specs.declared.fault.BufFault.{BufFault}
use Rattle.store_buf.specs.declared.fault.BufFault.TheVariants as fault
use Rattle.store_buf.specs.declared.fault.Silent.{Silent}
use Rattle.store_buf.specs.declared.fault.Silent.TheVariants.{Failed, NoMemory}
use Rattle.store_buf.specs.declared.kept.Kept.{Kept}
use Rattle.store_buf.specs.declared.store.Store.{Store}
use Rattle.store_buf.specs.Requests.{issued_in}
use Rattle.store_buf.specs.Outdoors.{RoseAt}
use Rattle.store_buf.specs.Contents.{Content, FailedSo, FaultIs, IsBuffer, Idle, PortWaits, RightTokens}
use Rattle.store_buf.specs.Contents.{SubmitSo, with_tokens}
use Rattle.store_buf.specs.Holds.{Holds, Issued, Stopped, Issues, part}
use Rattle.store_buf.specs.Ordering.{AllFiled, Room, NoneMay, early_of}
use Rattle.store_buf.specs.Outers.{holding}

abbrev pub asked_of : Kept → Asked
asked_of k = record { wave = k.wave; instr = k.instr; first = k.first; second = k.second }

module _ {P : Type 0} where
  -- its parts stand for a buffer with this memory
  abbrev pub StandsFor : Image → World → List (Option Began) → Store P → Outside → Type 0
  StandsFor image world began s m = Holds image world began s.order (has s.fault) (holding s.outer) m

  abbrev pub buffer_of : Image → Store P → Outside → Buffer
  buffer_of image s m = part image s.order.kept.items (chain_of s.order.chain) (has s.fault) m

  abbrev pub content_of : Store P → Content
  content_of s = record {
    kept = s.order.kept.items;
    chain = chain_of s.order.chain;
    fault = s.fault;
    failed = s.failed;
    starved = s.starved;
    outside = holding s.outer;
  }

  -- there is room for what all that waits leaves
  pub record StoreOk (image : Image) (s : Store P) : Type 0 where
    pub filed : AllFiled image s.order
    pub early : Room s.order
    pub printed : vec_len s.outer.printed + s.order.waiting ≤ vec_capacity s.outer.printed

  -- it has these requests, and else nothing has changed
  pub record StoreKeeps (old : Store P) (kept : List Kept) (new : Store P) : Type 0 where
    pub kept_are : new.order.kept.items ≡ kept
    pub chain : new.order.chain ≡ old.order.chain
    pub early : early_of new.order ≡ early_of old.order
    pub outer : holding new.outer ≡ holding old.outer
    pub fault : new.fault ≡ old.fault
    pub failed : new.failed ≡ old.failed
    pub starved : new.starved ≡ old.starved

  -- one issue, or a stop at an index fault
  pub record OneIssue (image : Image) (world : World) (began : List (Option Began)) (old : Store P)
      (m : Outside) (new : Store P) (tokens : List Token) : Type 0 where
    pub wave : ℕ
    pub instr : ℕ
    pub memory : Outside
    pub event : Issued image (buffer_of image old m) wave instr tokens (buffer_of image new memory)
        ⊎ (Stopped image (buffer_of image old m) wave instr (buffer_of image new memory) × (tokens ≡ []))
    pub right : RightTokens image world tokens
    pub fault : FaultIs image world new.fault
    pub stands : StandsFor image world began new memory

  -- for each buffer for which the parts stood there is an issue to one for which they stand; its tokens
  -- came behind others
  abbrev pub IssueLeads : Image → Store P → Store P → List Token → List Token → Type 0
  IssueLeads image old new before after = (tokens : List Token) × (after ≡ before ++ tokens)
      × ((world : World) (began : List (Option Began)) (m : Outside) → Formed image → Sound image
      → StandsFor image world began old m → OneIssue image world began old m new tokens)

  -- it keeps the request, and that leads on by one issue
  abbrev pub ServeLeads : Image → Store P → Kept → Store P → List Token → List Token → Type 0
  ServeLeads image old k new before after = (mid : Store P)
      × StoreKeeps old (old.order.kept.items ++ k ∷ []) mid × IssueLeads image mid new before after

  -- nothing has changed but what ports report of their faults
  abbrev pub StaysSo : Image → Store P → Store P → Type 0
  StaysSo image old new = (world : World) (began : List (Option Began)) (m : Outside)
      → StandsFor image world began old m → StandsFor image world began new m

  -- issues in turn, for each buffer for which the parts stood
  pub record Turns (image : Image) (world : World) (began : List (Option Began)) (old : Store P)
      (m : Outside) (new : Store P) (tokens : List Token) : Type 0 where
    pub memory : Outside
    pub issues : Issues image (buffer_of image old m) tokens (buffer_of image new memory)
    pub right : RightTokens image world tokens
    pub fault : FaultIs image world old.fault → FaultIs image world new.fault
    pub stands : StandsFor image world began new memory

  abbrev pub AllLead : Image → Store P → Store P → List Token → List Token → Type 0
  AllLead image old new before after = (tokens : List Token) × (after ≡ before ++ tokens)
      × ((world : World) (began : List (Option Began)) (m : Outside) → Formed image → Sound image
      → StandsFor image world began old m → Turns image world began old m new tokens)

  -- the operation on a port that doesn't answer is next, and its request waits
  abbrev pub SilentSo : Image → Store P → Store P → Silent → Type 0
  SilentSo image old new (Failed port) =
      PortWaits image new.order.kept.items (chain_of new.order.chain) port
      × RoseAt port old.outer.ports new.outer.ports
  SilentSo image old new (NoMemory port) =
      PortWaits image new.order.kept.items (chain_of new.order.chain) port

  -- of each buffer for which its parts stand no request may be issued
  abbrev pub NoneMaySo : Image → Store P → Type 0
  NoneMaySo image s = (world : World) (began : List (Option Began)) (m : Outside) → Formed image → Sound image
      → StandsFor image world began s m → NoneMay image s.order

  -- how issues in turn have ended
  abbrev pub SettledSo : Image → Store P → Result (Unit {0}) BufFault → Store P → Type 0
  SettledSo image old (Ok _) new = (new.fault ≡ None) × (new.failed ≡ old.failed) × (new.starved ≡ false)
      × NoneMaySo image new
  SettledSo image old (Err (fault.Index array)) new = (new.fault ≡ Some array) × (new.failed ≡ old.failed)
      × (new.starved ≡ false)
  SettledSo image old (Err (fault.Port port)) new = (new.fault ≡ None) × (new.failed ≡ Some port)
      × (new.starved ≡ false)
      × RoseAt port old.outer.ports new.outer.ports
      × PortWaits image new.order.kept.items (chain_of new.order.chain) port
  SettledSo image old (Err fault.NoMemory) new = (new.fault ≡ None) × (new.failed ≡ old.failed)
      × (new.starved ≡ true)
      × ((port : ℕ) × PortWaits image new.order.kept.items (chain_of new.order.chain) port)
  SettledSo image old (Err _) new = ⊥

  -- what is true of a buffer's store whenever no call is at work
  pub record Standing (image : Image) (world : World) (began : List (Option Began))
      (s : Store P) : Type 0 where
    pub ok : StoreOk image s
    pub early_issued : EarlyIssued (issued_in s.order.kept.items) (chain_of s.order.chain)
        (early_of s.order)
    pub early_all : HasEarly image world (issued_in s.order.kept.items)
        (chain_of s.order.chain) (early_of s.order)
    pub memory : Outside
    pub is : IsBuffer image world began (content_of s) memory
    pub idle : s.failed ≡ None → s.starved ≡ false → Idle image (content_of s)
    pub failed : FailedSo image began (content_of s)

  -- a right request leads on as contracts say, and what is true of a store stays true
  abbrev pub SubmitLeads : Image → Store P → Kept → List Token → Result (Unit {0}) BufFault → Store P → Type 0
  SubmitLeads image old k tokens result new = (world : World) (began : List (Option Began)) → Formed image
      → Sound image → IsAsked image world (asked_of k) → Standing image world began old →
      Standing image world began new × RightTokens image world tokens
      × SubmitSo image world began (content_of old) (asked_of k) (with_tokens tokens result)
      (content_of new)

  -- what is left to issue
  abbrev pub left_over : Store P → ℕ
  left_over s = s.order.waiting + cond (has s.fault) 0 1
