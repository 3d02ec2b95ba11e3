-- Serves the code and its proof alone: no public contract cites it.
-- What is found before the live variables are, of the 64 from `low` on.
use Rattle.std.specs.Prelude.{◌≡◌, ℕ, ◌+◌, ◌-◌, ◌^◌, ◌<◌, ◌≤◌, ◌⊎◌, ◌↔◌, List, [], ◌∷◌, length, slice_index}
use Rattle.cfg_core.specs.Graph.{Op, Exit, Graph, spots, block_at}
use Rattle.live_vars.specs.Live.{WrittenIn, ReadsFirst, ExitWrites, Carries, Live}
use Rattle.live_vars.specs.Marks.{Has, Marks}

-- what a block reads first, and what it or its exit writes
abbrev pub Writes : List Op → Exit → ℕ → Type 0
Writes ops exit x = WrittenIn ops x ⊎ ExitWrites exit x

-- what is live after an exit, by a word for each block
abbrev pub Carried : Exit → ℕ → List ℕ → ℕ → Type 0
Carried exit low words x = (c : ℕ) × Carries exit c × Has low (slice_index words c) x

-- the words for what blocks write, and those found so far for what is live
pub record Flows (g : Graph) (low : ℕ) (writes live : List ℕ) : Type 0 where
  pub count : length live ≡ length (spots g)
  pub stops : (b : ℕ) → b < length (spots g)
      → Marks low (slice_index writes b) (Writes (block_at g b).ops (block_at g b).exit)
  pub starts : (b x : ℕ) → b < length (spots g) → low ≤ x → x < low + 64
      → ReadsFirst (block_at g b).ops (block_at g b).exit x → Has low (slice_index live b) x
  pub sound : (b x : ℕ) → low ≤ x → x < low + 64 → Has low (slice_index live b) x → Live g b x

-- what is live after block b and not written in it is live at its start
pub record ClosedAt (g : Graph) (low : ℕ) (live : List ℕ) (b : ℕ) : Type 0 where
  pub closed : (x : ℕ) → low ≤ x → x < low + 64 → (Writes (block_at g b).ops (block_at g b).exit x → ⊥)
      → Carried (block_at g b).exit low live x → Has low (slice_index live b) x

-- so for each block from this one on
abbrev pub ClosedFrom : Graph → ℕ → List ℕ → ℕ → Type 0
ClosedFrom g low live first = (b : ℕ) → first ≤ b → b < length (spots g) → ClosedAt g low live b

-- exactly the live variables, for each block
abbrev pub IsPlane : Graph → ℕ → List ℕ → Type 0
IsPlane g low words = (b x : ℕ) → b < length (spots g) → low ≤ x → x < low + 64
    → Has low (slice_index words b) x ↔ Live g b x

-- how far words are from their largest value: each change of a word makes it larger
abbrev pub room : List ℕ → ℕ
room [] = 0
room (w ∷ ws) = (2 ^ 64 - w) + room ws
