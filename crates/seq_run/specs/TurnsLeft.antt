-- How many turns a part of a run has left.
use Rattle.std.specs.Prelude.{ℕ, ◌≤◌}
use Rattle.src_ast.specs.Turns.{PartEnd, Ended, Out}

-- a part that ended has at most so many turns left
abbrev pub AtMost : ℕ → PartEnd → Type 0
AtMost k (Ended s j) = j ≤ k
AtMost k (Out o) = Unit {0}
