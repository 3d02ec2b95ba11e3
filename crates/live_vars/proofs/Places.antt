-- Blocks by number, in the graph and in its table.
use Rattle.std.proofs.Common.{ℕ, ◌+◌, ◌≡◌, ◌<◌, ◌≤◌, List, length, sym, ap, subst, inl, inr}
use Rattle.std.proofs.Common.{arith}
use Rattle.std.proofs.lemmas.Bool.{cases_lt}
use Rattle.cfg_core.specs.Graph.{Spot, no_spot, spots, spot_at, Graph, block_at}
use Rattle.live_vars.specs.Live.{Live, reads, passes, ReadsFirst, Carries}
use Rattle.live_vars.specs.Marks.{Marks}
use Rattle.live_vars.specs.Found.{Writes, Carried}
use Rattle.live_vars.proofs.Bits.{marks_none}
use Rattle.cfg_core.proofs.Spots.{spot_beyond}

pub vars_more : (g : Graph) (i m n : ℕ) → ((b : ℕ) → b < i → (spot_at g b).vars ≤ m) → m ≤ n
    → (spot_at g i).vars ≤ n → (b : ℕ) → b < i + 1 → (spot_at g b).vars ≤ n
vars_more g i m n all le fits b below = elim (cases_lt b i) [
  | inl before ↦ omega (arith, all b before)
  | inr from ↦
      let is : b ≡ i = omega arith in subst (λ k. (spot_at g k).vars ≤ n) (sym is) fits
]

pub vars_beyond : (g : Graph) (b : ℕ) → length (spots g) ≤ b → (spot_at g b).vars ≡ 0
unfolding no_spot
vars_beyond g b le = ap (λ (s : Spot). s.vars) (spot_beyond g b le)

nothing_read : (s : Spot) (x : ℕ) → s ≡ no_spot → ReadsFirst s.block.ops s.block.exit x → ⊥
unfolding no_spot
nothing_read s x e h = subst (λ (s : Spot). ReadsFirst s.block.ops s.block.exit x) e h

nothing_written : (s : Spot) (x : ℕ) → s ≡ no_spot → Writes s.block.ops s.block.exit x → ⊥
unfolding no_spot
nothing_written s x e h = elim (subst (λ (s : Spot). Writes s.block.ops s.block.exit x) e h)
    [ inl i ↦ i | inr i ↦ i ]

nothing_after : (s : Spot) (c : ℕ) → s ≡ no_spot → Carries s.block.exit c → ⊥
unfolding no_spot
nothing_after s c e h = subst (λ (s : Spot). Carries s.block.exit c) e h

-- no variable is live past the last block
pub not_live : (g : Graph) (b x : ℕ) → length (spots g) ≤ b → Live g b x → ⊥
not_live g b x le (reads _ _ h) = nothing_read (spot_at g b) x (spot_beyond g b le) h
not_live g b x le (passes _ c _ w e k l) = nothing_after (spot_at g b) c (spot_beyond g b le) k

-- a block that isn't there
pub reads_none : (g : Graph) (b low : ℕ) → spot_at g b ≡ no_spot
    → Marks low 0 (ReadsFirst (block_at g b).ops (block_at g b).exit)
reads_none g b low e = marks_none low (ReadsFirst (block_at g b).ops (block_at g b).exit)
    (λ x h. nothing_read (spot_at g b) x e h)

pub writes_none : (g : Graph) (b low : ℕ) → spot_at g b ≡ no_spot
    → Marks low 0 (Writes (block_at g b).ops (block_at g b).exit)
writes_none g b low e = marks_none low (Writes (block_at g b).ops (block_at g b).exit)
    (λ x h. nothing_written (spot_at g b) x e h)

pub carried_none : (g : Graph) (b low : ℕ) (words : List ℕ) → spot_at g b ≡ no_spot
    → Marks low 0 (Carried (block_at g b).exit low words)
carried_none g b low words e = marks_none low (Carried (block_at g b).exit low words)
    (λ x h. nothing_after (spot_at g b) h.0 e h.1)
