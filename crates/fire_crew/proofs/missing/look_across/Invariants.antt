use Rattle.std.proofs.Common.{◌≡◌, ◌<◌, ◌≤◌, ℕ, List, All, length, slice_index_or}
use Rattle.ws_isa.specs.Image.{Token}
use Rattle.match_table.specs.Growth.{content_at}
use Rattle.match_table.specs.Rows.{contents}
use Rattle.match_table.specs.Together.{part_of}
use Rattle.store_buf.specs.Runs.{Covers}
use Rattle.fire_crew.specs.Owing.{IsMissing, ToldUpTo}
use Rattle.fire_crew.proofs.missing.look_across.Given as goal

abbrev pub invariant-loop-number : goal.invariant-loop-number
invariant-loop-number g l = (length l.places ≡ 16) × All (IsMissing (part_of l.tables).held) l.found
    × ((way : List Token) → Covers l.found way → Covers l.initial.found way
    × (ToldUpTo g.J.Job.image (part_of l.tables).held way l.initial.places (contents l.tables)
    → ToldUpTo g.J.Job.image (part_of l.tables).held way l.places (contents l.tables)))
    × (l.wave ≡ 0 → (k : ℕ) → k < l.number → length (content_at (contents l.tables) k).fired
    ≤ slice_index_or l.places k 0)
