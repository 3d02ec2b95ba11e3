-- The sequential run: it ends at the first out-of-bounds load or store. It is the unchecked run up to there.
use Rattle.std.specs.Prelude.{◌≡◌, ℕ, ◌<◌, List}
use Rattle.ws_words.specs.Outside.{Act, Outside, World, opening_out}
use Rattle.ws_words.specs.Past.{AreWithin, FirstPast, after_acts}
use Rattle.src_ast.specs.Syntax.{Part}
use Rattle.src_ast.specs.Turns.{CallEnd, Returned, Stopped}
use Rattle.src_ast.specs.Meaning.{run, Passes, Flows, empty_cells, lengths_of}

-- what is outside at the end of a call, or where it needs a turn
abbrev pub outside_of : CallEnd → Outside
outside_of (Returned v o left) = o
outside_of (Stopped o) = o

-- what the unchecked run has done in at most n turns
abbrev pub acts_in : List Part → World → ℕ → List Act
acts_in parts world n = (outside_of (run parts world n)).acts

-- what is outside before the first turn
abbrev pub opened : List Part → World → Outside
opened parts world = opening_out (empty_cells (lengths_of parts)) world

-- the run takes exactly n turns and leaves this
pub record Runs (parts : List Part) (world : World) (n : ℕ) (end : Outside) : Type 0 where
  pub passes : Passes parts world n end
  pub within : AreWithin (lengths_of parts) end.acts

-- after n turns, at this, the run wants a further one
pub record Goes (parts : List Part) (world : World) (n : ℕ) (now : Outside) : Type 0 where
  pub flows : Flows parts world n now
  pub within : AreWithin (lengths_of parts) now.acts

-- in turn n the run meets its first out-of-bounds act, on this array, and this is outside before it
pub record Faults (parts : List Part) (world : World) (n array : ℕ) (state : Outside) : Type 0 where
  pub first : FirstPast (lengths_of parts) (acts_in parts world n) state.acts array
  pub sooner : (m : ℕ) → m < n → AreWithin (lengths_of parts) (acts_in parts world m)
  pub left : state ≡ after_acts (opened parts world) state.acts
