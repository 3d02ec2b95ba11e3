-- What is true of every state that core events reach.
use Rattle.std.specs.Prelude.{ℕ, zero, suc, ◌≡◌, ◌<◌, ◌≤◌, ◌⊎◌, Bool, true, false, cond, List, Option, Some}
use Rattle.std.specs.Prelude.{None}
use Rattle.ws_words.specs.Outside.{Outside, World}
use Rattle.ws_isa.specs.Image.{Image, ports, is_memory, is_load, is_writing, note_of, sends, is_past}
use Rattle.ws_isa.specs.Walk.{Inst, fires, start_tokens}
use Rattle.ws_isa.specs.Operations.{FaultsAt}
use Rattle.df_core.specs.Effect.{effect_at}
use Rattle.df_core.specs.Core.{Chain, State, HasFired, IsSent, IsNext, NoneNext, pass}
use Rattle.ws_words.specs.Items.{nth}

-- the walk's step t fires the instance of instruction i in wave w
pub record FiresAt (image : Image) (world : World) (w i t : ℕ) (x : Inst) : Type 0 where
  pub fires : fires image world t ≡ Some x
  pub wave : x.wave ≡ w
  pub instr : x.instr ≡ i

-- the walk has the instance and that operand at its port
pub record RightToken (image : Image) (world : World) (w i p v : ℕ) : Type 0 where
  pub time : ℕ
  pub inst : Inst
  pub at : FiresAt image world w i time inst
  pub operand : nth inst.operands p ≡ Some v

pub record RightRequest (image : Image) (world : World) (w i : ℕ) (xs : List ℕ) : Type 0 where
  pub time : ℕ
  pub inst : Inst
  pub at : FiresAt image world w i time inst
  pub operands : inst.operands ≡ xs
  pub memory : is_memory image i ≡ true

-- where the chain stands after an instance
abbrev pub pass_inst : Image → Chain → Option Inst → Chain
pass_inst image c None = c
pass_inst image c (Some x) = cond (is_memory image x.instr) (pass c (note_of image x.instr)) c

-- where the chain stands after the operations of the first t steps
unfoldable pub chain_at : Image → World → ℕ → Chain
chain_at image world zero = record { wave = 1; last = None }
chain_at image world (suc t) = pass_inst image (chain_at image world t) (fires image world t)

-- no writing operation fires from step t until before step u
abbrev pub NoWrite : Image → World → ℕ → ℕ → Type 0
NoWrite image world t u = (k : ℕ) (x : Inst) → t ≤ k → k < u → fires image world k ≡ Some x →
    is_writing image x.instr ≡ true → ⊥

-- no operation does
abbrev pub NoOp : Image → World → ℕ → ℕ → Type 0
NoOp image world t u = (k : ℕ) (x : Inst) → t ≤ k → k < u → fires image world k ≡ Some x →
    is_memory image x.instr ≡ true → ⊥

-- a load that is issued before its turn
pub record IsEarly (image : Image) (world : World) (cut u : ℕ) (x : Inst) : Type 0 where
  pub load : is_load image x.instr ≡ true
  pub within : is_past image x.instr x.operands ≡ false
  pub wave : x.wave ≡ (chain_at image world cut).wave
  pub no_write : NoWrite image world cut u

-- an operation that was issued, where those of the first cut steps are passed
pub record IssuedOp (image : Image) (world : World) (cut w i a : ℕ) : Type 0 where
  pub time : ℕ
  pub inst : Inst
  pub at : FiresAt image world w i time inst
  pub memory : is_memory image i ≡ true
  pub answer : a ≡ inst.result
  pub place : (time < cut) ⊎ ((cut ≤ time) × IsEarly image world cut time inst)

-- the passed operations are those of the first cut steps, and none of them is out of bounds
pub record Ordered (image : Image) (world : World) (cut : ℕ) (issued : ℕ → ℕ → Option ℕ) (c : Chain)
    (m : Outside) : Type 0 where
  pub passed : (t : ℕ) (x : Inst) → t < cut → fires image world t ≡ Some x →
      is_memory image x.instr ≡ true → issued x.wave x.instr ≡ Some x.result
  pub within : (t : ℕ) (x : Inst) → t < cut → fires image world t ≡ Some x →
      is_memory image x.instr ≡ true → is_past image x.instr x.operands ≡ false
  pub chain : c ≡ chain_at image world cut
  pub memory : m ≡ effect_at image world cut
  pub others : (w i a : ℕ) → issued w i ≡ Some a → IssuedOp image world cut w i a

-- where the chain is stopped: the first out-of-bounds operation is next, and its request waits
pub record StoppedAt (image : Image) (world : World) (cut : ℕ) (waiting : ℕ → ℕ → Option (List ℕ))
    (c : Chain) : Type 0 where
  pub time : ℕ
  pub fault : FaultsAt image world time
  pub from : cut ≤ time
  pub passed : NoOp image world cut time
  pub wave : fault.inst.wave ≡ c.wave
  pub next : IsNext c (note_of image fault.inst.instr)
  pub waits : waiting fault.inst.wave fault.inst.instr ≡ Some fault.inst.operands

pub record Legal (image : Image) (world : World) (issued : ℕ → ℕ → Option ℕ)
    (waiting : ℕ → ℕ → Option (List ℕ)) (stopped : Bool) (c : Chain) (m : Outside) : Type 0 where
  pub cut : ℕ
  pub ordered : Ordered image world cut issued c m
  pub settled : NoneNext image issued c
  pub halted : stopped ≡ true → StoppedAt image world cut waiting c

-- a token with this value is held or in flight
abbrev pub IsThere : State → ℕ → ℕ → ℕ → ℕ → Type 0
IsThere s w i p v = (s.held w i p ≡ Some v) ⊎ (s.way w i p ≡ Some v)

-- an instance without memory has fired, or a memory one was issued: its result tokens were put in
-- flight
pub record HasTold (image : Image) (s : State) (x : Inst) : Type 0 where
  pub fired : is_memory image x.instr ≡ false → HasFired s.fired x.wave x.instr
  pub issued : is_memory image x.instr ≡ true → (a : ℕ) × (s.issued x.wave x.instr ≡ Some a)

abbrev pub IsFilled : State → ℕ → ℕ → ℕ → Type 0
IsFilled s w i n = (p : ℕ) → p < n → (v : ℕ) × (s.held w i p ≡ Some v)

pub record Fit (image : Image) (world : World) (s : State) : Type 0 where
  pub held_right : (w i p v : ℕ) → s.held w i p ≡ Some v → RightToken image world w i p v
  pub way_right : (w i p v : ℕ) → s.way w i p ≡ Some v → RightToken image world w i p v
  pub request_right : (w i : ℕ) (xs : List ℕ) → s.waiting w i ≡ Some xs →
      RightRequest image world w i xs
  pub one : (w i p v : ℕ) → s.held w i p ≡ Some v → s.way w i p ≡ None
  pub fired_full : (w i : ℕ) → HasFired s.fired w i → (0 < ports image i)
      × IsFilled s w i (ports image i)
  pub full_fired : (w i : ℕ) → 0 < ports image i → IsFilled s w i (ports image i) →
      HasFired s.fired w i
  pub start_there : (w i p v : ℕ) → IsSent (start_tokens image) w i p v → IsThere s w i p v
  pub sent_there : (t : ℕ) (x : Inst) → fires image world t ≡ Some x → HasTold image s x →
      (w i p v : ℕ) → IsSent (sends image x.wave x.instr x.operands x.result) w i p v →
      IsThere s w i p v
  pub asked : (t : ℕ) (x : Inst) → fires image world t ≡ Some x → is_memory image x.instr ≡ true →
      HasFired s.fired x.wave x.instr →
      (s.waiting x.wave x.instr ≡ Some x.operands) ⊎ ((a : ℕ) × (s.issued x.wave x.instr ≡ Some a))
  pub legal : Legal image world s.issued s.waiting s.stopped s.chain s.memory

-- the token is the start pulse's, or a result of an instance that has fired, and was issued if it
-- is a memory one
pub record FromInst (image : Image) (world : World) (s : State) (w i p v : ℕ) : Type 0 where
  pub time : ℕ
  pub inst : Inst
  pub fires : fires image world time ≡ Some inst
  pub fired : HasFired s.fired inst.wave inst.instr
  pub told : HasTold image s inst
  pub sent : IsSent (sends image inst.wave inst.instr inst.operands inst.result) w i p v

pub record Grounded (image : Image) (world : World) (s : State) : Type 0 where
  pub tokens : (w i p v : ℕ) → IsThere s w i p v → IsSent (start_tokens image) w i p v
      ⊎ FromInst image world s w i p v
  pub requests : (w i : ℕ) (xs : List ℕ) → s.waiting w i ≡ Some xs → HasFired s.fired w i
  pub issued : (w i a : ℕ) → s.issued w i ≡ Some a → HasFired s.fired w i
