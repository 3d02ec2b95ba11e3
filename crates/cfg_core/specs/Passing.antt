-- How many blocks a walk passes.
use Rattle.std.specs.Prelude.{ℕ, ◌≤◌}
use Rattle.ws_words.specs.Outside.{World}
use Rattle.cfg_core.specs.Graph.{Graph}
use Rattle.cfg_core.specs.Walk.{walk, opening, IsOver}

-- if the walk of the first graph has an answer after some blocks, that of the second has one after
-- no more
abbrev pub PassesNoMore : Graph → Graph → Type 0
PassesNoMore g h =
    (world : World) (turns blocks : ℕ) → IsOver (walk g blocks (opening g world turns)) →
    (n : ℕ) × (n ≤ blocks) × IsOver (walk h n (opening h world turns))
