use Rattle.std.proofs.Common.{List, All}
use Rattle.ws_isa.specs.Image.{Token}
use Rattle.ws_isa.specs.Walk.{start_tokens}
use Rattle.match_table.specs.Rows.{contents}
use Rattle.match_table.specs.Together.{part_of}
use Rattle.store_buf.specs.Runs.{AllReach, Covers}
use Rattle.fire_crew.specs.Owing.{IsMissing, ToldUpTo}
use Rattle.fire_crew.proofs.missing.missing.Given as goal

abbrev pub invariant-loop-left : goal.invariant-loop-left
invariant-loop-left g l = All (IsMissing (part_of l.tables).held) l.found
    × ((way : List Token) → Covers l.found way
    → AllReach (part_of l.tables).held way (start_tokens g.J.Job.image)
    × ToldUpTo g.J.Job.image (part_of l.tables).held way l.places (contents l.tables))

abbrev pub decreases-loop-left : goal.decreases-loop-left
decreases-loop-left g l = l.left
