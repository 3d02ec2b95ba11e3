use Rattle.std.proofs.Common.{◌<◌, ℕ}
use Rattle.df_core.specs.Core.{Once}
use Rattle.df_core.specs.Shown.{TablesOk}
use Rattle.match_table.specs.Tables.{part}
use Rattle.match_table.specs.Growth.{content_at}
use Rattle.match_table.specs.Rows.{contents}
use Rattle.match_table.proofs.together.facts.Given as goal

abbrev pub invariant-loop-number : goal.invariant-loop-number
invariant-loop-number g l = (k : ℕ) → k < l.number
    → TablesOk g.J.Job.image g.J.Job.world (part (content_at (contents l.tables) k))
    × Once (content_at (contents l.tables) k).fired
