use Rattle.std.proofs.Common.{suc, ◌+◌, ◌≡◌, ◌∷◌, drop, arith}
use Rattle.cfg_core.proofs.Walking.{shown_more}
use Rattle.cfg_core.proofs.run.shown.Goals as goal
use Rattle.ws_words.proofs.Lists.{drop_next}

pub loop-i-preserved : goal.loop-i-preserved
loop-i-preserved c =
    let arrays = c.args.arrays.now in let i = c.loop-i.i in let a = c.index-arrays-i.result in
    let one : i + 1 ≡ suc i = omega arith in
    let next : drop i arrays ≡ a ∷ drop (i + 1) arrays = drop_next arrays i (i + 1) a one (omega arith)
    c.index-arrays-i.is in
    shown_more arrays c.args.cells.now c.loop-i.rows c.add_shown.new.rows _ i (i + 1) a one next
    c.in_ok-add_shown.ensures c.loop-i.invariant
