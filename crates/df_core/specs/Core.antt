-- The core: its state, its events, and the chain.
use Rattle.std.specs.Prelude.{ℕ, zero, suc, ◌≡◌, ◌≤◌, ◌⊎◌, Bool, true, false, cond, ◌&&◌, List, [], ◌∷◌}
use Rattle.std.specs.Prelude.{Option, Some, None, eqb}
use Rattle.ws_words.specs.Outside.{Outside, World}
use Rattle.ws_isa.specs.declared.instr.Link.{Link}
use Rattle.ws_isa.specs.declared.instr.Link.TheVariants.{Nothing, Is}
use Rattle.ws_isa.specs.declared.instr.Note.{Note}
use Rattle.ws_isa.specs.Image.{Image, Token, ports, is_memory, is_load, note_of, result_of, answer, sends}
use Rattle.ws_isa.specs.Image.{is_past}
use Rattle.ws_isa.specs.Walk.{Ports, no_ports, is_at, gather, start_tokens, opening_memory}
use Rattle.df_core.specs.Effect.{effect_after}

-- the current wave, and the last operation passed in it
pub record Chain : Type 0 where
  pub wave : ℕ
  pub last : Option Note

abbrev pub position_after : Option Note → ℕ
position_after None = 0
position_after (Some n) = n.seq

abbrev pub NextAfter : Option Note → Note → Type 0
NextAfter None n = n.pred ≡ Nothing
NextAfter (Some m) n = (m.succ ≡ Is n.seq) ⊎ (n.pred ≡ Is m.seq)

abbrev pub IsNext : Chain → Note → Type 0
IsNext c n = NextAfter c.last n

abbrev pub pass_by : Chain → Note → Link → Chain
pass_by c n Nothing = record { wave = suc c.wave; last = None }
pass_by c n _ = record { wave = c.wave; last = Some n }

abbrev pub pass : Chain → Note → Chain
pass c n = pass_by c n n.succ

pub record Key : Type 0 where
  pub wave : ℕ
  pub instr : ℕ

-- the instance of a token
abbrev pub key_of_token : Token → Key
key_of_token t = record { wave = t.wave; instr = t.instr }

pub record State : Type 0 where
  pub held : Ports
  pub way : Ports
  pub fired : List Key
  pub waiting : ℕ → ℕ → Option (List ℕ)
  pub issued : ℕ → ℕ → Option ℕ
  pub chain : Chain
  pub stopped : Bool
  pub memory : Outside

abbrev pub HasFired : List Key → ℕ → ℕ → Type 0
HasFired [] w i = ⊥
HasFired (k ∷ ks) w i = ((k.wave ≡ w) × (k.instr ≡ i)) ⊎ HasFired ks w i

-- no instance stands twice in the list
abbrev pub Once : List Key → Type 0
Once [] = Unit {0}
Once (k ∷ ks) = (HasFired ks k.wave k.instr → ⊥) × Once ks

-- the list has the token
abbrev pub IsSent : List Token → ℕ → ℕ → ℕ → ℕ → Type 0
IsSent [] w i p v = ⊥
IsSent (t ∷ ts) w i p v = ((t.wave ≡ w) × (t.instr ≡ i) × (t.port ≡ p) × (t.value ≡ v))
    ⊎ IsSent ts w i p v

-- no two tokens of the list go to one place
abbrev pub Apart : List Token → Type 0
Apart [] = Unit {0}
Apart (t ∷ ts) = ((v : ℕ) → IsSent ts t.wave t.instr t.port v → ⊥) × Apart ts

abbrev pub same_key : ℕ → ℕ → ℕ → ℕ → Bool
same_key w i a b = eqb w a && eqb i b

abbrev pub same_place : ℕ → ℕ → ℕ → ℕ → ℕ → ℕ → Bool
same_place w i p a b q = eqb w a && (eqb i b && eqb p q)

abbrev pub with_at : ℕ → ℕ → ℕ → Option ℕ → Ports → Ports
with_at w i p o f a b q = cond (same_place w i p a b q) o (f a b q)

abbrev pub with_key : {A : Type 0} → ℕ → ℕ → Option A → (ℕ → ℕ → Option A) → ℕ → ℕ → Option A
with_key w i o f a b = cond (same_key w i a b) o (f a b)

abbrev pub or_put : Option ℕ → Option ℕ → ℕ → Option ℕ
or_put (Some h) y v = y
or_put None (Some y) v = Some y
or_put None None v = Some v

-- the token is put in flight if its port is neither held nor in flight
abbrev pub put_one : Ports → Token → Ports → Ports
put_one held t way w i p =
    cond (is_at t w i p) (or_put (held w i p) (way w i p) t.value) (way w i p)

abbrev pub put_all : Ports → List Token → Ports → Ports
put_all held [] way = way
put_all held (t ∷ ts) way = put_all held ts (put_one held t way)

abbrev pub has : {A : Type 0} → Option A → Bool
has None = false
has (Some x) = true

abbrev pub is_full : Ports → ℕ → ℕ → ℕ → Bool
is_full held w i zero = true
is_full held w i (suc n) = has (held w i n) && is_full held w i n

abbrev pub operands_in : Image → Ports → ℕ → ℕ → List ℕ
operands_in image held w i = gather held w i 0 (ports image i)

-- the token has moved into its port
abbrev pub arrived : State → ℕ → ℕ → ℕ → ℕ → State
arrived s w i p v =
    record s { held = with_at w i p (Some v) s.held; way = with_at w i p None s.way }

-- the instance fires: its request waits
abbrev pub asks : Image → ℕ → ℕ → State → State
asks image w i s =
    record s {
      fired = record { wave = w; instr = i } ∷ s.fired;
      waiting =
          with_key w i (Some (operands_in image s.held w i)) s.waiting;
    }

-- the instance fires: its result tokens are in flight
abbrev pub tells : Image → ℕ → ℕ → State → State
tells image w i s =
    record s {
      fired = record { wave = w; instr = i } ∷ s.fired;
      way = put_all s.held (sends image w i (operands_in image s.held w i)
          (result_of image i (operands_in image s.held w i))) s.way;
    }

abbrev pub fire_if_full : Image → ℕ → ℕ → State → State
fire_if_full image w i s =
    cond (is_full s.held w i (ports image i))
    (cond (is_memory image i) (asks image w i s) (tells image w i s)) s

unfoldable pub matched : Image → State → ℕ → ℕ → ℕ → ℕ → State
matched image s w i p v = fire_if_full image w i (arrived s w i p v)

abbrev pub NoneNext : Image → (ℕ → ℕ → Option ℕ) → Chain → Type 0
NoneNext image issued c = (i a : ℕ) → issued c.wave i ≡ Some a → IsNext c (note_of image i) → ⊥

-- the chain passes every operation that is next and issued
pub data Passes (image : Image) (issued : ℕ → ℕ → Option ℕ) : Chain → Chain → Type 0 where
  stays : {c : Chain} → NoneNext image issued c → Passes image issued c c
  passes : {c d : Chain} (i a : ℕ) → issued c.wave i ≡ Some a → IsNext c (note_of image i) →
      Passes image issued (pass c (note_of image i)) d → Passes image issued c d

-- Its wave is current and it was not issued. It is next, or a load that is within its array and may
-- go before its turn.
pub record Issuable (image : Image) (issued : ℕ → ℕ → Option ℕ) (chain : Chain) (stopped : Bool)
    (w i : ℕ) (xs : List ℕ) : Type 0 where
  pub going : stopped ≡ false
  pub current : w ≡ chain.wave
  pub fresh : issued w i ≡ None
  pub turn : IsNext chain (note_of image i)
      ⊎ ((is_load image i ≡ true) × (is_past image i xs ≡ false)
      × ((note_of image i).ripple ≤ position_after chain.last))

abbrev pub issued_with : Image → (ℕ → ℕ → Option ℕ) → Outside → ℕ → ℕ → List ℕ → ℕ → ℕ → Option ℕ
issued_with image issued memory w i xs = with_key w i (Some (answer image i xs memory)) issued

-- the request takes its effect; c is where the chain stands afterwards
unfoldable pub issue : Image → State → ℕ → ℕ → List ℕ → Chain → State
issue image s w i xs c =
    record s {
      way = put_all s.held (sends image w i xs (answer image i xs s.memory)) s.way;
      waiting = with_key w i None s.waiting;
      issued = issued_with image s.issued s.memory w i xs;
      chain = c;
      memory = effect_after image i xs s.memory;
    }

-- two states that answer alike
pub record Same (s t : State) : Type 0 where
  pub held : (w i p : ℕ) → s.held w i p ≡ t.held w i p
  pub way : (w i p : ℕ) → s.way w i p ≡ t.way w i p
  pub fired : s.fired ≡ t.fired
  pub waiting : (w i : ℕ) → s.waiting w i ≡ t.waiting w i
  pub issued : (w i : ℕ) → s.issued w i ≡ t.issued w i
  pub chain : s.chain ≡ t.chain
  pub stopped : s.stopped ≡ t.stopped
  pub memory : s.memory ≡ t.memory

pub data Event : Type 0 where
  Match : ℕ → ℕ → ℕ → Event
  Issue : ℕ → ℕ → Event

pub record MatchStep (image : Image) (s : State) (w i p : ℕ) (new : State) : Type 0 where
  pub value : ℕ
  pub on_way : s.way w i p ≡ Some value
  pub becomes : Same new (matched image s w i p value)

-- the request waits and is issuable
pub record Ready (image : Image) (s : State) (w i : ℕ) (xs : List ℕ) : Type 0 where
  pub waits : s.waiting w i ≡ Some xs
  pub issuable : Issuable image s.issued s.chain s.stopped w i xs

-- if it is out of bounds the chain stops at it, and nothing else happens
pub record StopStep (image : Image) (s : State) (w i : ℕ) (new : State) : Type 0 where
  pub operands : List ℕ
  pub ready : Ready image s w i operands
  pub past : is_past image i operands ≡ true
  pub becomes : Same new (record s { stopped = true })

pub record IssueStep (image : Image) (s : State) (w i : ℕ) (new : State) : Type 0 where
  pub operands : List ℕ
  pub ready : Ready image s w i operands
  pub within : is_past image i operands ≡ false
  pub chain : Chain
  pub passed : Passes image (issued_with image s.issued s.memory w i operands) s.chain chain
  pub becomes : Same new (issue image s w i operands chain)

abbrev pub Step : Image → State → Event → State → Type 0
Step image s (Match w i p) new = MatchStep image s w i p new
Step image s (Issue w i) new = StopStep image s w i new ⊎ IssueStep image s w i new

abbrev pub Run : Image → State → List Event → State → Type 0
Run image s [] new = Same new s
Run image s (e ∷ es) new = (mid : State) × Step image s e mid × Run image mid es new

unfoldable pub core_opening : Image → World → State
core_opening image world = record {
  held = no_ports;
  way = put_all no_ports (start_tokens image) no_ports;
  fired = [];
  waiting = λ w i. None;
  issued = λ w i. None;
  chain = record { wave = 1; last = None };
  stopped = false;
  memory = opening_memory image world;
}

abbrev pub Enabled : Image → State → Event → Type 0
Enabled image s (Match w i p) = (v : ℕ) × (s.way w i p ≡ Some v)
Enabled image s (Issue w i) = (xs : List ℕ) × Ready image s w i xs

-- no event is enabled
abbrev pub Rest : Image → State → Type 0
Rest image s = (e : Event) → Enabled image s e → ⊥

-- the states after any list of enabled events from the opening state
abbrev pub Reach : Image → World → State → Type 0
Reach image world s = (events : List Event) × Run image (core_opening image world) events s
