use Rattle.std.proofs.Common.{◌≡◌, ◌<◌, ℕ, [], All}
use Rattle.match_table.specs.Tables.{of_memory}
use Rattle.match_table.specs.Growth.{content_at}
use Rattle.match_table.specs.Rows.{contents}
use Rattle.fire_crew.specs.Owing.{IsKnown}
use Rattle.fire_crew.proofs.unknown.unknown.Given as goal

abbrev pub invariant-loop-number : goal.invariant-loop-number
invariant-loop-number g l = l.requests.items ≡ [] → (k : ℕ) → k < l.number
    → All (IsKnown l.buffer.kept) (of_memory g.J.Job.image (content_at (contents l.tables) k).fired)
