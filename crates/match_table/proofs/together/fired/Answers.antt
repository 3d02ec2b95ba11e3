use Rattle.std.proofs.Common.{◌≡◌, length, arith}
use Rattle.match_table.specs.Rows.{contents}
use Rattle.match_table.specs.Growth.{content_at}
use Rattle.match_table.proofs.Shares.{all_count, all_taken, front_below, take_more}
use Rattle.match_table.proofs.together.fired.Goals as goal

counted : (g : _) (c : goal.After-fired_count g)
    → c.fired_count.result ≡ length (content_at (contents c.args.tables.now) c.loop-number.number).fired
counted g c = grind arith

pub overflow_add-count : goal.overflow_add-count
overflow_add-count g c =
    let n = c.loop-number.number in
    let i = c.loop-number.invariant in
    let m = take_more (contents c.args.tables.now) n in
    grind (arith, front_below, all_count, counted)

pub loop-number-preserved : goal.loop-number-preserved
loop-number-preserved g c = grind (arith, take_more, counted)

pub returns : goal.returns
returns g c = grind (arith, all_taken, all_count)
