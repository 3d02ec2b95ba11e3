use Rattle.std.proofs.Common.{arith}
use Rattle.match_table.specs.Ports.{none_half}
use Rattle.match_table.proofs.Entries.{entry_of}
use Rattle.match_table.proofs.entry.half_at.Goals as goal

pub returns-then-not-had : goal.returns-then-not-had
returns-then-not-had c = grind (
  arith,
  entry_of c.page.inside.had c.page.inside.values c.args.place 0
      (record { first = 0; second = 0 }) none_half,
)

pub returns : goal.returns
returns c = grind (arith, entry_of)
