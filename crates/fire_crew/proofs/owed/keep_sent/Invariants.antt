use Rattle.std.proofs.Common.{List, All, take}
use Rattle.ws_isa.specs.Image.{Token, tokens_to}
use Rattle.match_table.specs.Together.{part_of}
use Rattle.store_buf.specs.Runs.{AllReach, Covers}
use Rattle.fire_crew.specs.Owing.{IsMissing}
use Rattle.fire_crew.proofs.owed.keep_sent.Given as goal

abbrev pub invariant-loop-dest : goal.invariant-loop-dest
invariant-loop-dest g l = All (IsMissing (part_of l.tables).held) l.found
    × ((way : List Token) → Covers l.found way → Covers l.initial.found way
    × AllReach (part_of l.tables).held way (tokens_to l.wave l.word (take l.dest-index l.dests)))
