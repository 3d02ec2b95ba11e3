-- What a buffer's requests, chain and holdings stand for, and what an issue does to it.
use Rattle.std.specs.Prelude.{ℕ, ◌≡◌, Bool, true, false, List, [], ◌++◌, Option, Some, None}
use Rattle.ws_words.specs.Outside.{Outside, World}
use Rattle.ws_isa.specs.Image.{Image, Token, is_past, answer, sends}
use Rattle.df_core.specs.Effect.{effect_after}
use Rattle.df_core.specs.Core.{Chain, Passes, Issuable, issued_with}
use Rattle.df_core.specs.Fit.{RightRequest}
use Rattle.df_core.specs.Shown.{Buffer, asking, waits_if}
use Rattle.df_core.specs.Began.{Began}
use Rattle.df_core.specs.Chains.{chain_of}
use Rattle.store_buf.specs.Earlies.{early_ops}
use Rattle.store_buf.specs.declared.kept.Kept.{Kept}
use Rattle.store_buf.specs.declared.order.Order.{Order}
use Rattle.store_buf.specs.Requests.{kept_in, issued_in, issued_keys}
use Rattle.store_buf.specs.Outdoors.{Holding, HoldsOut}
use Rattle.store_buf.specs.Orders.{OrderGoes}

-- the part of the core's state that a buffer is
abbrev pub part : Image → List Kept → Chain → Bool → Outside → Buffer
part image ks chain stopped m =
    record {
      kept = kept_in image ks;
      issued = issued_in ks;
      issued_keys = issued_keys ks;
      chain = chain;
      stopped = stopped;
      memory = m;
    }

-- the requests that wait
abbrev pub waiting_in : Image → List Kept → ℕ → ℕ → Option (List ℕ)
waiting_in image ks w i = waits_if (issued_in ks w i) (kept_in image ks w i) None

-- these requests, this chain and these holdings stand for a buffer with this memory
pub record Holds (image : Image) (world : World) (began : List (Option Began)) (order : Order)
    (stopped : Bool) (h : Holding) (m : Outside) : Type 0 where
  pub going : OrderGoes image world (issued_in order.kept.items) (waiting_in image order.kept.items) stopped
      (chain_of order.chain) m (early_ops order.early)
  pub right : (w i : ℕ) (xs : List ℕ) → kept_in image order.kept.items w i ≡ Some xs
      → RightRequest image world w i xs
  pub outside : HoldsOut began m h

-- one issue: the request waits and is issuable, and takes its effect; these are its result tokens
pub record Issued (image : Image) (old : Buffer) (w i : ℕ) (tokens : List Token) (new : Buffer) : Type 0 where
  pub operands : List ℕ
  pub waits : asking old w i ≡ Some operands
  pub issuable : Issuable image old.issued old.chain old.stopped w i operands
  pub within : is_past image i operands ≡ false
  pub passed : Passes image (issued_with image old.issued old.memory w i operands) old.chain new.chain
  pub tokens_are : tokens ≡ sends image w i operands (answer image i operands old.memory)
  pub kept : (a b : ℕ) → new.kept a b ≡ old.kept a b
  pub issued : (a b : ℕ) → new.issued a b ≡ issued_with image old.issued old.memory w i operands a b
  pub stopped : new.stopped ≡ old.stopped
  pub memory : new.memory ≡ effect_after image i operands old.memory

-- the request waits and is issuable, and is out of bounds: the chain stops, and nothing else happens
pub record Stopped (image : Image) (old : Buffer) (w i : ℕ) (new : Buffer) : Type 0 where
  pub operands : List ℕ
  pub waits : asking old w i ≡ Some operands
  pub issuable : Issuable image old.issued old.chain old.stopped w i operands
  pub past : is_past image i operands ≡ true
  pub kept : (a b : ℕ) → new.kept a b ≡ old.kept a b
  pub issued : (a b : ℕ) → new.issued a b ≡ old.issued a b
  pub chain : new.chain ≡ old.chain
  pub stopped : new.stopped ≡ true
  pub memory : new.memory ≡ old.memory

-- issues in turn, and all their result tokens
pub data Issues (image : Image) : Buffer → List Token → Buffer → Type 0 where
  stays : {b : Buffer} → Issues image b [] b
  goes : {b c d : Buffer} {some rest : List Token} (w i : ℕ) → Issued image b w i some c
      → Issues image c rest d → Issues image b (some ++ rest) d
  stops : {b c d : Buffer} {rest : List Token} (w i : ℕ) → Stopped image b w i c → Issues image c rest d
      → Issues image b rest d
