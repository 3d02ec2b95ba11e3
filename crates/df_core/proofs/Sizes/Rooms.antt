-- FlowRoom for what is left to happen.
use Rattle.std.proofs.Common.{ℕ, suc, ◌+◌, ◌≡◌, ◌≤◌, true, false, [], ◌∷◌, ◌++◌, vec_len, vec_capacity, ap}
use Rattle.std.proofs.Common.{arith}
use Rattle.std.proofs.lemmas.Bool.{cases_Bool}
use Rattle.std.specs.HashMap.{spare}
use Rattle.ws_isa.specs.declared.instr.Op.{Op}
use Rattle.ws_isa.specs.Image.{is_memory_op}
use Rattle.df_core.specs.declared.plain.Asked.{Asked}
use Rattle.df_core.specs.declared.memory.Memory.{Memory}
use Rattle.df_core.specs.declared.slots.MatchStore.{MatchStore}
use Rattle.df_core.specs.declared.flow.Flow.{Flow}
use Rattle.df_core.specs.Outdoors.{Space, HasSpace}
use Rattle.df_core.specs.Flows.{AskedMore, FlowRoom}

pub space_less : (m : Memory) (a b : ℕ) → b ≤ a → Space m a → Space m b
space_less m a b l s = grind arith

-- more room was made
pub space_kept : (old new : Memory) (n : ℕ) → vec_len new.printed ≡ vec_len old.printed
    → vec_capacity old.printed ≤ vec_capacity new.printed
    → (HasSpace old.took.items n → HasSpace new.took.items n) → Space old n → Space new n
space_kept old new n len room took s = record { printed = omega arith; took = took s.took }

pub room_kept : (old new : Flow) (n : ℕ) → vec_len new.way.now ≡ vec_len old.way.now
    → vec_len new.way.later ≡ vec_len old.way.later → vec_len new.asked ≡ vec_len old.asked
    → vec_len new.early ≡ vec_len old.early → vec_capacity old.way.now ≤ vec_capacity new.way.now
    → vec_capacity old.way.later ≤ vec_capacity new.way.later
    → spare old.slots.spill ≤ spare new.slots.spill → vec_capacity old.early ≤ vec_capacity new.early
    → ((q : ℕ) → Space old.memory q → Space new.memory q) → vec_capacity old.asked ≤ vec_capacity new.asked
    → FlowRoom old 0 n → FlowRoom new 0 n
room_kept old new n now later asked early now' later' spill early' memory asked' r = record {
  now = omega (arith, r.now);
  later = omega (arith, r.later);
  spill = omega (arith, r.spill);
  asked = omega (arith, r.asked);
  early = omega (arith, r.early);
  memory = memory (vec_len new.asked + n) (space_less old.memory (vec_len old.asked + n)
      (vec_len new.asked + n) (omega arith) r.memory);
}

-- tokens were sent, and the instance that sent them is no more to fire
pub room_sent : (old new : Flow) (k n : ℕ) → k ≤ 8 → new.slots ≡ old.slots → new.asked ≡ old.asked
    → new.early ≡ old.early → new.memory ≡ old.memory →
    vec_len new.way.now + vec_len new.way.later ≡ vec_len old.way.now + vec_len old.way.later + k
    → vec_capacity new.way.now ≡ vec_capacity old.way.now → vec_capacity new.way.later ≡ vec_capacity
    old.way.later →
    FlowRoom old 0 (suc n) → FlowRoom new 0 n
room_sent old new k n l slots asked early memory both now later r = grind (arith, space_less)

-- the token in hand was put down, or is forgotten
pub room_put : (old new : Flow) (n m : ℕ) → n ≡ m → spare old.slots.spill ≤ spare new.slots.spill + 1
    → new.way ≡ old.way → new.asked ≡ old.asked → new.early ≡ old.early → new.memory ≡ old.memory →
    FlowRoom old 1 n → FlowRoom new 0 m
room_put old new n m nm cs way asked early memory r = grind (arith, space_less)

-- a request was issued
pub room_issued : (old new : Flow) (k n : ℕ) → k ≤ 8 → new.slots ≡ old.slots
    → vec_len new.asked + 1 ≡ vec_len old.asked → vec_capacity new.asked ≡ vec_capacity old.asked
    → vec_len new.early ≤ vec_len old.early + 1 → vec_capacity new.early ≡ vec_capacity old.early →
    ((q : ℕ) → Space old.memory (suc q) → Space new.memory q) →
    vec_len new.way.now + vec_len new.way.later ≡ vec_len old.way.now + vec_len old.way.later + k
    → vec_capacity new.way.now ≡ vec_capacity old.way.now → vec_capacity new.way.later ≡ vec_capacity
    old.way.later →
    FlowRoom old 0 n → FlowRoom new 0 n
room_issued old new k n l slots la ca le ce memory both now later r =
    let cs : spare new.slots.spill ≡ spare old.slots.spill = ap (λ (s : MatchStore). spare s.spill) slots in
    record {
      now = omega (arith, r.now);
      later = omega (arith, r.later);
      spill = omega (arith, r.spill);
      asked = omega (arith, r.asked);
      early = omega (arith, r.early);
      memory = memory (vec_len new.asked + n) (space_less old.memory (vec_len old.asked + n)
          (suc (vec_len new.asked + n)) (omega arith) r.memory);
    }

pub asked_more : (old new : Flow) (op : Op) (a : Asked)
    → (is_memory_op op ≡ true → new.asked.items ≡ old.asked.items ++ a ∷ [])
    → (is_memory_op op ≡ false → new.asked ≡ old.asked) → AskedMore old new
asked_more old new op a has not' = grind (arith, cases_Bool)
