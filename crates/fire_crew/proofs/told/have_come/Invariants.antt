use Rattle.std.proofs.Common.{ℕ, List, take}
use Rattle.ws_isa.specs.Image.{Token, tokens_to}
use Rattle.match_table.specs.Together.{part_of}
use Rattle.store_buf.specs.Runs.{AllReach}
use Rattle.fire_crew.proofs.told.have_come.Given as goal

abbrev pub invariant-loop-dest : goal.invariant-loop-dest
invariant-loop-dest g l = (way : List Token) (word : ℕ) → AllReach (part_of l.tables).held way
    (tokens_to l.wave word (take l.dest-index l.dests))
