use Rattle.std.proofs.Common.{All, arith}
use Rattle.match_table.specs.Tables.{of_memory, TableContent}
use Rattle.fire_crew.specs.Owing.{IsKnown}
use Rattle.fire_crew.proofs.Paid.{next_table, known_all}
use Rattle.fire_crew.proofs.unknown.unknown.Goals as goal

pub loop-number-preserved : goal.loop-number-preserved
loop-number-preserved g c = λ e. (let a = c.in_ok-note_all_unknown.ensures e in
    next_table (λ (x : TableContent). All (IsKnown c.args.buffer.now.kept) (of_memory g.J.Job.image x.fired))
    _ _ _ c.table_at.ensures (c.loop-number.invariant a.0) a.1)

pub returns : goal.returns
returns g c = grind (arith, known_all)
