-- The parts that a core keeps, and the state for which they stand. Of an instance that has fired it
-- keeps nothing.
use Rattle.std.specs.Prelude.{ℕ, ◌≡◌, ◌<◌, ◌≤◌, ◌⊎◌, true, cond, List, [], ◌∷◌, Option, Some, None}
use Rattle.ws_words.specs.Outside.{World}
use Rattle.ws_isa.specs.declared.instr.Link.{Link}
use Rattle.ws_isa.specs.declared.instr.Link.TheVariants.{Nothing}
use Rattle.ws_isa.specs.declared.instr.Note.{Note}
use Rattle.ws_isa.specs.Image.{Image, Token, is_memory, note_of}
use Rattle.ws_isa.specs.Walk.{Ports, Inst}
use Rattle.df_core.specs.Core.{State, Apart, Chain, HasFired, IsSent, Once, same_key, IsNext, pass}
use Rattle.df_core.specs.Core.{position_after}
use Rattle.df_core.specs.Fit.{FiresAt, chain_at, Fit, Grounded}
use Rattle.ws_words.specs.Items.{In}

-- a request that waits
pub record Request : Type 0 where
  pub wave : ℕ
  pub instr : ℕ
  pub operands : List ℕ

abbrev pub HasRequest : List Request → ℕ → ℕ → List ℕ → Type 0
HasRequest [] w i xs = ⊥
HasRequest (r ∷ rs) w i xs = ((r.wave ≡ w) × (r.instr ≡ i) × (r.operands ≡ xs))
    ⊎ HasRequest rs w i xs

-- no two requests of the list are of one instance
abbrev pub AllOnce : List Request → Type 0
AllOnce [] = Unit {0}
AllOnce (r ∷ rs) = ((xs : List ℕ) → HasRequest rs r.wave r.instr xs → ⊥) × AllOnce rs

-- nothing is kept of the instance
abbrev pub cleared : ℕ → ℕ → Ports → Ports
cleared w i f a b q = cond (same_key w i a b) None (f a b q)

-- the issued operations that the chain hasn't passed are among these
abbrev pub HasEarly : Image → World → (ℕ → ℕ → Option ℕ) → Chain → List ℕ → Type 0
HasEarly image world issued c early = (cut w i a t : ℕ) → c ≡ chain_at image world cut →
    issued w i ≡ Some a → (x : Inst) → FiresAt image world w i t x → is_memory image i ≡ true →
    cut ≤ t → In i early

-- the tokens at the ports of unfired instances, the tokens in flight, the requests that wait,
-- and the issued loads that the chain hasn't passed
pub record Stands (image : Image) (world : World) (partial : Ports) (way : List Token)
    (asked : List Request) (early : List ℕ) (s : State) : Type 0 where
  pub fit : Fit image world s
  pub grounded : Grounded image world s
  pub once : Once s.fired
  pub held : (w i p : ℕ) → (HasFired s.fired w i → ⊥) → s.held w i p ≡ partial w i p
  pub gone : (w i p : ℕ) → HasFired s.fired w i → partial w i p ≡ None
  pub way_to : (w i p v : ℕ) → s.way w i p ≡ Some v → IsSent way w i p v
  pub way_from : (w i p v : ℕ) → IsSent way w i p v → s.way w i p ≡ Some v
  pub way_apart : Apart way
  pub asked_to : (w i : ℕ) (xs : List ℕ) → s.waiting w i ≡ Some xs → HasRequest asked w i xs
  pub asked_from : (w i : ℕ) (xs : List ℕ) → HasRequest asked w i xs → s.waiting w i ≡ Some xs
  pub asked_once : AllOnce asked
  pub unissued : (w i : ℕ) (xs : List ℕ) → s.waiting w i ≡ Some xs → s.issued w i ≡ None
  pub early_issued : (i : ℕ) → In i early → (a : ℕ) × (s.issued s.chain.wave i ≡ Some a)
  pub early_all : HasEarly image world s.issued s.chain early

-- the issued operations that are left when the chain passes one of this annotation: with the wave's
-- last one none
abbrev pub left_by : Link → List ℕ → List ℕ
left_by Nothing early = []
left_by _ early = early

abbrev pub left_after : Note → List ℕ → List ℕ
left_after n early = left_by n.succ early

-- The chain passes those among these operations that are next, until none is. Where the one with the smallest
-- number is ahead of the chain and isn't next, it rests. Those behind it are released.
pub data Settles (image : Image) : Chain → List ℕ → Chain → List ℕ → Type 0 where
  done : {c : Chain} {early : List ℕ} → ((i : ℕ) → In i early → IsNext c (note_of image i) → ⊥) →
      Settles image c early c early
  rests : {c : Chain} {early : List ℕ} (i : ℕ) → In i early → (IsNext c (note_of image i) → ⊥) →
      position_after c.last < (note_of image i).seq →
      ((j : ℕ) → In j early → (note_of image i).seq ≤ (note_of image j).seq) → Settles image c early c early
  drops : {c d : Chain} {early left : List ℕ} (mid : List ℕ) → ((j : ℕ) → In j mid → In j early) →
      ((j : ℕ) → In j early → ((note_of image j).seq ≤ position_after c.last) ⊎ In j mid) →
      Settles image c mid d left → Settles image c early d left
  goes : {c d : Chain} {early left : List ℕ} (i : ℕ) (mid : List ℕ) → In i early →
      IsNext c (note_of image i) → ((j : ℕ) → In j mid → In j early) →
      ((j : ℕ) → In j early → (i ≡ j) ⊎ In j mid) →
      Settles image (pass c (note_of image i)) (left_after (note_of image i) mid) d left →
      Settles image c early d left

-- these are issued, in the chain's wave
abbrev pub EarlyIssued : (ℕ → ℕ → Option ℕ) → Chain → List ℕ → Type 0
EarlyIssued issued c early = (i : ℕ) → In i early → (a : ℕ) × (issued c.wave i ≡ Some a)
