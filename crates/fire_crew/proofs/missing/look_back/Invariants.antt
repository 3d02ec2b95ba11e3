use Rattle.std.proofs.Common.{List, All, take}
use Rattle.ws_isa.specs.Image.{Token}
use Rattle.match_table.specs.Together.{part_of}
use Rattle.store_buf.specs.Runs.{Covers}
use Rattle.fire_crew.specs.Owing.{AnswersReach, IsMissing}
use Rattle.fire_crew.proofs.missing.look_back.Given as goal

abbrev pub invariant-loop-kept : goal.invariant-loop-kept
invariant-loop-kept g l = All (IsMissing (part_of l.tables).held) l.found
    × ((way : List Token) → Covers l.found way → Covers l.initial.found way
    × All (AnswersReach g.J.Job.image (part_of l.tables).held way) (take l.kept-index l.buffer.kept))
