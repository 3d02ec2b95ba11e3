use Rattle.std.proofs.Common.{List, All}
use Rattle.ws_isa.specs.Image.{Token}
use Rattle.match_table.specs.Together.{part_of}
use Rattle.store_buf.specs.Runs.{Covers}
use Rattle.fire_crew.specs.Owing.{IsMissing, ToldIn}
use Rattle.fire_crew.proofs.missing.look_through.Given as goal

abbrev pub invariant-loop-place : goal.invariant-loop-place
invariant-loop-place g l = All (IsMissing (part_of l.tables).held) l.found
    × ((way : List Token) → Covers l.found way → Covers l.initial.found way
    × ToldIn g.J.Job.image (part_of l.tables).held way l.from l.place l.table)
