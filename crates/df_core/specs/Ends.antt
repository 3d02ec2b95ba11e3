-- Where a run of the core ends, and what it has done there.
use Rattle.std.specs.Prelude.{ℕ, ◌≡◌, ◌<◌, ◌≤◌, true, false, length, Some}
use Rattle.ws_words.specs.Outside.{World}
use Rattle.ws_isa.specs.Image.{Image, is_memory}
use Rattle.ws_isa.specs.Walk.{Inst, fires}
use Rattle.ws_isa.specs.Operations.{ops, past, Effect, FaultsAt, NoFault}
use Rattle.df_core.specs.Effect.{effect_at}
use Rattle.df_core.specs.Core.{State, HasFired}

-- every instance of the walk has fired, every operation is issued and none is out of bounds,
-- and from some step on memory is what the walk leaves
pub record WholeRun (image : Image) (world : World) (s : State) : Type 0 where
  pub going : s.stopped ≡ false
  pub fired : (t : ℕ) (x : Inst) → fires image world t ≡ Some x → HasFired s.fired x.wave x.instr
  pub issued : (t : ℕ) (x : Inst) → fires image world t ≡ Some x → is_memory image x.instr ≡ true →
      (a : ℕ) × (s.issued x.wave x.instr ≡ Some a)
  pub within : NoFault image world
  pub end : ℕ
  pub memory : (t : ℕ) → end ≤ t → effect_at image world t ≡ s.memory

-- the chain is stopped at the walk's first out-of-bounds operation, and memory is what those before
-- it leave
pub record AtFault (image : Image) (world : World) (s : State) : Type 0 where
  pub stopped : s.stopped ≡ true
  pub time : ℕ
  pub fault : FaultsAt image world time
  pub memory : Effect image world (length (ops image world time)) s.memory

-- the walk's first out-of-bounds load or store is this instruction's in this wave
pub record Meets (image : Image) (world : World) (w i : ℕ) : Type 0 where
  pub time : ℕ
  pub fault : FaultsAt image world time
  pub wave : fault.inst.wave ≡ w
  pub instr : fault.inst.instr ≡ i

-- the first p operations of the walk have fired
abbrev pub FirstFired : Image → World → State → ℕ → Type 0
FirstFired image world s p = (t : ℕ) (x : Inst) → fires image world t ≡ Some x →
    is_memory image x.instr ≡ true → length (ops image world t) < p →
    HasFired s.fired x.wave x.instr

-- no load or store of the first t steps of the walk is out of bounds
abbrev pub FirstWithin : Image → World → ℕ → Type 0
FirstWithin image world t = (u : ℕ) (x : Inst) → u < t → fires image world u ≡ Some x →
    past image x ≡ false

-- p is the largest number for which the first p operations of the walk have fired, none of them is
-- out of bounds, and memory is what they leave
pub record AfterFired (image : Image) (world : World) (s : State) (p : ℕ) : Type 0 where
  pub memory : Effect image world p s.memory
  pub within : (t : ℕ) → length (ops image world t) ≤ p → FirstWithin image world t
  pub fired : FirstFired image world s p
  pub most : (t : ℕ) → FirstFired image world s (length (ops image world t)) →
      length (ops image world t) ≤ p

-- memory is what the first p operations of the walk leave, none of them is out of bounds, and they
-- are at least as many as have fired without a gap
pub record Passed (image : Image) (world : World) (s : State) (p : ℕ) : Type 0 where
  pub memory : Effect image world p s.memory
  pub within : (t : ℕ) → length (ops image world t) ≤ p → FirstWithin image world t
  pub most : (t : ℕ) → FirstFired image world s (length (ops image world t)) →
      length (ops image world t) ≤ p
