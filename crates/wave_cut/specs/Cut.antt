-- The waves of a graph.
use Rattle.std.specs.Prelude.{◌≡◌, ℕ, suc, ◌-◌, ◌<◌, ◌≤◌, ◌⊎◌, ◌↔◌, ◌==◌, Bool, true, List, length}
use Rattle.std.specs.Prelude.{slice_index}
use Rattle.cfg_core.specs.Graph.{Exit, Call, Send, Graph, spots, block_at, entry_of}
use Rattle.cfg_core.specs.Edges.{Edge, IsHeader}
use Rattle.ws_words.specs.Items.{In}

-- the wave of each block, from 1, and the first block of each wave
pub record Cut : Type 0 where
  pub waves : List ℕ
  pub heads : List ℕ

abbrev pub wave : Cut → ℕ → ℕ
wave cut b = slice_index cut.waves b

-- the first block of the wave in which block b lies
abbrev pub head : Cut → ℕ → ℕ
head cut b = slice_index cut.heads (wave cut b - 1)

abbrev pub is_first : Cut → ℕ → Bool
is_first cut b = head cut b == b

-- the first block of a procedure
abbrev pub IsEntry : Graph → ℕ → Type 0
IsEntry g b = (f : ℕ) × (f < length g.procs) × (b ≡ entry_of g f)

-- a Call returns to its return block, and a Send enters each of its landings
abbrev pub Returns : Exit → ℕ → Type 0
Returns (Call r f ts back) c = c ≡ back
Returns (Send t ts ls) c = In c ls
Returns _ c = ⊥

abbrev pub IsReturnPoint : Graph → ℕ → Type 0
IsReturnPoint g c = (b : ℕ) × Returns (block_at g b).exit c

-- a block that begins a wave whatever waves there are
abbrev pub BeginsWave : Graph → ℕ → Type 0
BeginsWave g b = IsEntry g b ⊎ (IsHeader g b ⊎ IsReturnPoint g b)

-- edges from blocks of two waves lead to block b
abbrev pub Joins : Graph → Cut → ℕ → Type 0
Joins g cut b = (p : ℕ) × (q : ℕ) × Edge g p b × Edge g q b × (wave cut p ≡ wave cut q → ⊥)

abbrev pub Unentered : Graph → ℕ → Type 0
Unentered g b = (p : ℕ) → Edge g p b → ⊥

-- The rule: a wave begins at a procedure's entry, a loop's header, a return block, a block that no edge
-- enters, and a join of waves, and nowhere else.
abbrev pub Rule : Graph → Cut → ℕ → Type 0
Rule g cut b = (is_first cut b ≡ true) ↔ (BeginsWave g b ⊎ (Unentered g b ⊎ Joins g cut b))

-- an edge to a block that isn't the first one of its wave
abbrev pub Inside : Graph → Cut → ℕ → ℕ → Type 0
Inside g cut p b = Edge g p b × (is_first cut b ≡ true → ⊥)

pub record IsCut (g : Graph) (cut : Cut) : Type 0 where
  pub blocks : length cut.waves ≡ length (spots g)
  pub rule : (b : ℕ) → b < length (spots g) → Rule g cut b
  -- each block lies in one wave, and each wave has one first block
  pub lies : (b : ℕ) → b < length (spots g) → (1 ≤ wave cut b) × (wave cut b ≤ length cut.heads)
  pub heads : (k : ℕ) → k < length cut.heads → (slice_index cut.heads k < length (spots g))
      × (wave cut (slice_index cut.heads k) ≡ suc k)
  pub rising : (j k : ℕ) → j < k → k < length cut.heads → slice_index cut.heads j < slice_index cut.heads k
  -- an inside edge leads forward and stays in its wave: so a wave is acyclic and has one entry
  pub inside : (p b : ℕ) → b < length (spots g) → Inside g cut p b → (p < b) × (wave cut p ≡ wave cut b)

-- a path of inside edges
pub data InsidePath (g : Graph) (cut : Cut) : ℕ → ℕ → Type 0 where
  one : (p b : ℕ) → b < length (spots g) → Inside g cut p b → InsidePath g cut p b
  more : (p b c : ℕ) → InsidePath g cut p b → c < length (spots g) → Inside g cut b c → InsidePath g cut p c

-- no path leads from a block to itself; an edge from another wave leads to a first block; and a path leads
-- to each other block from the first one of its wave
pub record AreWaves (g : Graph) (cut : Cut) : Type 0 where
  pub acyclic : (b : ℕ) → InsidePath g cut b b → ⊥
  pub one_entry : (p b : ℕ) → b < length (spots g) → Edge g p b → (wave cut p ≡ wave cut b → ⊥)
      → is_first cut b ≡ true
  pub one_first : (b c : ℕ) → is_first cut b ≡ true → is_first cut c ≡ true → wave cut b ≡ wave cut c → b ≡ c
  pub reached : (b : ℕ) → b < length (spots g) → (is_first cut b ≡ true) ⊎ InsidePath g cut (head cut b) b
