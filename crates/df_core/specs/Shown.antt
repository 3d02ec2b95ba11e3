-- The state that tables and a buffer stand for.
use Rattle.std.specs.Prelude.{ℕ, ◌≡◌, ◌<◌, ◌↔◌, Bool, true, false, cond, ◌&&◌, List, [], ◌∷◌, ◌++◌, Option}
use Rattle.std.specs.Prelude.{Some, None}
use Rattle.ws_words.specs.Outside.{Outside, World}
use Rattle.ws_isa.specs.Image.{Image, Token, ports, is_memory, result_of, sends}
use Rattle.ws_isa.specs.Walk.{Ports, no_ports, start_tokens}
use Rattle.df_core.specs.Core.{Chain, Key, State, HasFired, IsSent, Issuable, same_key, put_all, operands_in}
use Rattle.df_core.specs.Fit.{RightToken, RightRequest, Legal}
use Rattle.ws_words.specs.Items.{or_else}

-- what the 16 tables hold and list together
pub record Tables : Type 0 where
  pub held : Ports
  pub fired : List Key

-- the requests that the buffer keeps, the issued ones with their answers, the chain and memory
pub record Buffer : Type 0 where
  pub kept : ℕ → ℕ → Option (List ℕ)
  pub issued : ℕ → ℕ → Option ℕ
  pub issued_keys : List Key
  pub chain : Chain
  pub stopped : Bool
  pub memory : Outside

-- the request that waits: the buffer's own unissued one, or else that of a fired instance that the
-- buffer doesn't know
abbrev pub waits_if : Option ℕ → Option (List ℕ) → Option (List ℕ) → Option (List ℕ)
waits_if (Some a) k n = None
waits_if None (Some xs) n = Some xs
waits_if None None n = n

-- the requests that the buffer keeps and has not issued
abbrev pub asking : Buffer → ℕ → ℕ → Option (List ℕ)
asking b w i = waits_if (b.issued w i) (b.kept w i) None

pub record TablesOk (image : Image) (world : World) (t : Tables) : Type 0 where
  pub right : (w i p v : ℕ) → t.held w i p ≡ Some v → RightToken image world w i p v
  pub fired_full : (w i : ℕ) → HasFired t.fired w i → (0 < ports image i)
      × ((p : ℕ) → p < ports image i → (v : ℕ) × (t.held w i p ≡ Some v))
  pub full_fired : (w i : ℕ) → 0 < ports image i →
      ((p : ℕ) → p < ports image i → (v : ℕ) × (t.held w i p ≡ Some v)) → HasFired t.fired w i

pub record BufferOk (image : Image) (world : World) (b : Buffer) : Type 0 where
  pub right : (w i : ℕ) (xs : List ℕ) → b.kept w i ≡ Some xs → RightRequest image world w i xs
  pub issued_kept : (w i a : ℕ) → b.issued w i ≡ Some a → (xs : List ℕ) × (b.kept w i ≡ Some xs)
  pub listed : (w i : ℕ) → HasFired b.issued_keys w i ↔ ((a : ℕ) × (b.issued w i ≡ Some a))
  pub legal : Legal image world b.issued (asking b) b.stopped b.chain b.memory

-- the result tokens of the instances without memory in the list
abbrev pub plain_tokens : Image → Ports → List Key → List Token
plain_tokens image held [] = []
plain_tokens image held (k ∷ ks) =
    cond (is_memory image k.instr) []
    (sends image k.wave k.instr (operands_in image held k.wave k.instr)
    (result_of image k.instr (operands_in image held k.wave k.instr)))
    ++ plain_tokens image held ks

-- those of the issued operations
abbrev pub op_tokens : Image → Buffer → List Key → List Token
op_tokens image b [] = []
op_tokens image b (k ∷ ks) =
    sends image k.wave k.instr (or_else (b.kept k.wave k.instr) [])
    (or_else (b.issued k.wave k.instr) 0) ++ op_tokens image b ks

abbrev pub owed : Image → Tables → Buffer → List Token
owed image t b =
    start_tokens image ++ (plain_tokens image t.held t.fired ++ op_tokens image b b.issued_keys)

abbrev pub lists : List Key → ℕ → ℕ → Bool
lists [] w i = false
lists (k ∷ ks) w i = cond (same_key k.wave k.instr w i) true (lists ks w i)

unfoldable pub shown : Image → Tables → Buffer → State
shown image t b = record {
  held = t.held;
  way = put_all t.held (owed image t b) no_ports;
  fired = t.fired;
  waiting =
      λ w i. waits_if (b.issued w i) (b.kept w i)
      (cond (lists t.fired w i && is_memory image i) (Some (operands_in image t.held w i)) None);
  issued = b.issued;
  chain = b.chain;
  stopped = b.stopped;
  memory = b.memory;
}

-- no token is outstanding, and the buffer knows each memory instance that has fired
pub record OwesNothing (image : Image) (t : Tables) (b : Buffer) : Type 0 where
  pub tokens : (w i p v : ℕ) → IsSent (owed image t b) w i p v → (u : ℕ) × (t.held w i p ≡ Some u)
  pub requests : (w i : ℕ) → HasFired t.fired w i → is_memory image i ≡ true →
      (xs : List ℕ) × (b.kept w i ≡ Some xs)

-- nothing that waits in the buffer is issuable
abbrev pub NoneIssuable : Image → Buffer → Type 0
NoneIssuable image b = (w i : ℕ) (xs : List ℕ) → asking b w i ≡ Some xs →
    Issuable image b.issued b.chain b.stopped w i xs → ⊥
