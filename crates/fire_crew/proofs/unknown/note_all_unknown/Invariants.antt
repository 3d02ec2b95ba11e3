use Rattle.std.proofs.Common.{◌≡◌, [], All, take}
use Rattle.match_table.specs.Tables.{of_memory}
use Rattle.fire_crew.specs.Owing.{IsKnown}
use Rattle.fire_crew.proofs.unknown.note_all_unknown.Given as goal

abbrev pub invariant-loop-place : goal.invariant-loop-place
invariant-loop-place g l = l.requests.items ≡ [] → (l.initial.requests.items ≡ [])
    × All (IsKnown l.buffer.kept) (take l.place (of_memory g.J.Job.image l.table.fired))
