use Rattle.std.proofs.Common.{◌≡◌, ◌++◌, List, All, length}
use Rattle.ws_isa.specs.Image.{Token}
use Rattle.match_table.specs.Together.{part_of}
use Rattle.store_buf.specs.Runs.{AllReach, Covers}
use Rattle.fire_crew.specs.Owing.{IsMissing}
use Rattle.fire_crew.proofs.owed.keep.Given as goal

abbrev pub invariant-loop-token : goal.invariant-loop-token
invariant-loop-token g l = All (IsMissing (part_of l.tables).held) l.found
    × ((rest : List Token) × (l.initial.tokens ≡ l.tokens ++ rest)
    × ((way : List Token) → Covers l.found way → Covers l.initial.found way
    × AllReach (part_of l.tables).held way rest))

abbrev pub decreases-loop-token : goal.decreases-loop-token
decreases-loop-token g l = length l.tokens
