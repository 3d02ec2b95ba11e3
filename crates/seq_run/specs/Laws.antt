-- What is said of each run: its acts with fewer turns come first among those with more, and it
-- has one answer.
use Rattle.std.specs.Prelude.{ℕ, ◌≤◌, ◌⊎◌, List}
use Rattle.ws_words.specs.Outside.{Outside, World}
use Rattle.src_ast.specs.Syntax.{Part}
use Rattle.src_ast.specs.Runs.{Runs, Goes, Faults}

-- the run ends within these turns
pub record EndsWithin (parts : List Part) (world : World) (turns : ℕ) : Type 0 where
  pub taken : ℕ
  pub end : Outside
  pub within : taken ≤ turns
  pub runs : Runs parts world taken end

-- the run meets its first out-of-bounds act within these turns
pub record FaultsWithin (parts : List Part) (world : World) (turns : ℕ) : Type 0 where
  pub turn : ℕ
  pub array : ℕ
  pub state : Outside
  pub within : turn ≤ turns
  pub faults : Faults parts world turn array state

-- the run wants more than these turns
pub record GoesBeyond (parts : List Part) (world : World) (turns : ℕ) : Type 0 where
  pub now : Outside
  pub goes : Goes parts world turns now

-- one of the three
abbrev pub HasAnswer : List Part → World → ℕ → Type 0
HasAnswer parts world turns =
    EndsWithin parts world turns
    ⊎ (FaultsWithin parts world turns ⊎ GoesBeyond parts world turns)
