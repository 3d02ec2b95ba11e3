-- What events leave of the room.
use Rattle.std.proofs.Common.{ℕ, suc, ◌+◌, ◌-◌, ◌≡◌, ◌≤◌, vec_len, vec_capacity, arith}
use Rattle.df_core.specs.declared.flow.Flow.{Flow}
use Rattle.df_core.proofs.Sizes.Rooms.{space_less}
use Rattle.df_core.specs.Flows.{SameParts, FlowRoom}
use Rattle.df_core.specs.declared.engine.Core.{Core}
use Rattle.df_core.specs.Cores.{done, RoomFor, KeepsRoom, Prepared}

pub same_parts : (a : Flow) → SameParts a a
same_parts a = grind arith

-- a token was taken off the way
pub room_taken : (old new : Flow) (n : ℕ) → new.slots ≡ old.slots → new.asked ≡ old.asked
    → new.early ≡ old.early → new.memory ≡ old.memory →
    vec_len new.way.now + vec_len new.way.later + 1 ≡ vec_len old.way.now + vec_len old.way.later →
    ((m : ℕ) → m ≤ vec_capacity old.way.now → m ≤ vec_capacity old.way.later → (m ≤ vec_capacity new.way.now)
    × (m ≤ vec_capacity new.way.later)) →
    FlowRoom old 0 n → FlowRoom new 1 n
room_taken old new n slots asked early memory fewer caps r = grind arith

-- the tokens on the way changed places
pub room_turned : (old new : Flow) (n : ℕ) → new.slots ≡ old.slots → new.asked ≡ old.asked
    → new.early ≡ old.early → new.memory ≡ old.memory →
    vec_len new.way.now + vec_len new.way.later ≡ vec_len old.way.now + vec_len old.way.later →
    ((m : ℕ) → m ≤ vec_capacity old.way.now → m ≤ vec_capacity old.way.later → (m ≤ vec_capacity new.way.now)
    × (m ≤ vec_capacity new.way.later)) →
    FlowRoom old 0 n → FlowRoom new 0 n
room_turned old new n slots asked early memory both caps r = grind arith

-- room for more firings is room for fewer
pub room_less : (flow : Flow) (n m : ℕ) → m ≤ n → FlowRoom flow 0 n → FlowRoom flow 0 m
room_less flow n m l r = grind (arith, space_less)

-- nothing has fired, and nothing took room
pub room_still : (old new : Flow) → new.fired ≡ old.fired → ((n : ℕ) → FlowRoom old 0 n → FlowRoom new 0 n)
    → (n m : ℕ) → m + new.fired ≡ n + old.fired → FlowRoom old 0 n → FlowRoom new 0 m
room_still old new fired keeps n m e r = room_less new n m (omega arith) (keeps n r)

-- what a step leaves of the room, where it fires one instance at most
pub room_after : (old new : Core) → KeepsRoom old new → (done new).fired ≤ (done old).fired + 1
    → (n : ℕ) → RoomFor old (suc n) → RoomFor new n
room_after old new keeps count n r =
    let m = suc n + (done old).fired - (done new).fired in
    room_less new.flow m n (omega arith) (keeps (suc n) m (omega arith) r)

pub prepared_after : (old new : Core) → KeepsRoom old new → (budget : ℕ) → Prepared old budget
    → (done new).fired ≤ budget → Prepared new budget
prepared_after old new keeps budget p within = record {
  fired = within;
  room = keeps (budget - (done old).fired) (budget - (done new).fired) (omega (arith, p.fired)) p.room;
}
