-- Serves the code and its proof alone: no public contract cites it.
-- How far a cut has come.
use Rattle.std.specs.Prelude.{◌≡◌, ℕ, suc, ◌-◌, ◌<◌, ◌≤◌, ◌⊎◌, ◌==◌, ◌||◌, Bool, true, false, if◌then◌else◌}
use Rattle.std.specs.Prelude.{List, [], ◌∷◌, ◌++◌, length, slice_index, slice_index_or, slice_set}
use Rattle.cfg_core.specs.Graph.{Exit, Goto, Branch, Graph, spots}
use Rattle.cfg_core.specs.Rules.{Leads}
use Rattle.cfg_core.specs.Edges.{Edge}
use Rattle.wave_cut.specs.Cut.{Returns, BeginsWave, Unentered}

-- a flag that is set
abbrev pub Set : List Bool → ℕ → Type 0
Set flags b = slice_index_or flags b false ≡ true

-- of flags those of P were set, and no others
pub record Marked (P : ℕ → Type 0) (old new : List Bool) : Type 0 where
  pub count : length new ≡ length old
  pub keeps : (c : ℕ) → Set old c → Set new c
  pub only : (c : ℕ) → Set new c → Set old c ⊎ P c
  pub all : (c : ℕ) → c < length old → P c → Set new c

-- by its exit, block b says of block c that a wave begins there
abbrev pub Says : Exit → ℕ → ℕ → Type 0
Says exit b c = (Leads exit c × (c ≤ b)) ⊎ Returns exit c

-- what is known of block b by these edges and the waves of the blocks that they come from
pub record Known (g : Graph) (E : ℕ → ℕ → Type 0) (waves : List ℕ) (b : ℕ) (begins : Bool)
    (from : ℕ) : Type 0 where
  pub begun : begins ≡ true → BeginsWave g b
      ⊎ ((p : ℕ) × (q : ℕ) × E p b × E q b × (slice_index waves p ≡ slice_index waves q → ⊥))
  pub free : begins ≡ false → BeginsWave g b → ⊥
  pub none : begins ≡ false → from ≡ 0 → (p : ℕ) → E p b → ⊥
  pub some : begins ≡ false → (from ≡ 0 → ⊥) → (p : ℕ) × E p b
  pub same : begins ≡ false → (from ≡ 0 → ⊥) → (p : ℕ) → E p b → slice_index waves p ≡ from

-- edges from the blocks before this one
abbrev pub Before : Graph → ℕ → ℕ → ℕ → Type 0
Before g i p b = Edge g p b × (p < i)

-- block b is the first one of its wave
pub record Heads (g : Graph) (waves heads : List ℕ) (b : ℕ) : Type 0 where
  pub begins : BeginsWave g b ⊎
      (Unentered g b ⊎ ((p : ℕ) × (q : ℕ) × Before g b p b × Before g b q b
      × (slice_index waves p ≡ slice_index waves q → ⊥)))
  pub first : slice_index heads (slice_index waves b - 1) ≡ b

-- block b lies in the wave of the blocks before it
pub record StaysInWave (g : Graph) (waves heads : List ℕ) (b : ℕ) : Type 0 where
  pub free : BeginsWave g b → ⊥
  pub entered : (p : ℕ) × Edge g p b
  pub same : (p : ℕ) → Edge g p b → (p < b) × (slice_index waves p ≡ slice_index waves b)
  pub not_first : slice_index heads (slice_index waves b - 1) ≡ b → ⊥

pub record Numbered (g : Graph) (waves heads : List ℕ) (b : ℕ) : Type 0 where
  pub lies : (1 ≤ slice_index waves b) × (slice_index waves b ≤ length heads)
  pub how : Heads g waves heads b ⊎ StaysInWave g waves heads b

-- the blocks before this one have their waves
pub record Cutting (g : Graph) (i : ℕ) (begins : List Bool) (from waves heads : List ℕ) : Type 0 where
  pub flags : length begins ≡ length (spots g)
  pub froms : length from ≡ length (spots g)
  pub count : length waves ≡ i
  pub known : (b : ℕ) → b < length (spots g)
      → Known g (Before g i) waves b (slice_index_or begins b false) (slice_index from b)
  pub numbered : (b : ℕ) → b < i → Numbered g waves heads b
  pub firsts : (k : ℕ) → k < length heads → (slice_index heads k < i)
      × (slice_index waves (slice_index heads k) ≡ suc k)
  pub rising : (j k : ℕ) → j < k → k < length heads → slice_index heads j < slice_index heads k
  pub few : length heads ≤ i

-- what the code does
abbrev pub starts_wave : List Bool → List ℕ → ℕ → Bool
starts_wave begins from b = slice_index_or begins b false || (slice_index from b == 0)

abbrev pub number : List Bool → List ℕ → List ℕ → ℕ → ℕ
number begins from heads b = if starts_wave begins from b then suc (length heads) else slice_index from b

abbrev pub heads_with : List Bool → List ℕ → List ℕ → ℕ → List ℕ
heads_with begins from heads b = if starts_wave begins from b then heads ++ b ∷ [] else heads

abbrev pub entered_from : ℕ → ℕ → List ℕ → List ℕ
entered_from c wave from = if slice_index from c == 0 then slice_set from c wave else from

abbrev pub entered_begins : ℕ → ℕ → List Bool → List ℕ → List Bool
entered_begins c wave begins from = if (slice_index from c == 0) || (slice_index from c == wave) then begins
    else slice_set begins c true

abbrev pub left_from : Exit → ℕ → List ℕ → List ℕ
left_from (Goto c) wave from = entered_from c wave from
left_from (Branch t c d) wave from = entered_from d wave (entered_from c wave from)
left_from _ wave from = from

abbrev pub left_begins : Exit → ℕ → List Bool → List ℕ → List Bool
left_begins (Goto c) wave begins from = entered_begins c wave begins from
left_begins (Branch t c d) wave begins from =
    entered_begins d wave (entered_begins c wave begins from) (entered_from c wave from)
left_begins _ wave begins from = begins
