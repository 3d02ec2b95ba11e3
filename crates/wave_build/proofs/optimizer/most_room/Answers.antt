use Rattle.std.proofs.Common.{◌+◌, ◌*◌, map, ap, arith}
use Rattle.cfg_core.specs.View as view
use Rattle.wave_build.specs.Opened.{widest_from}
use Rattle.wave_build.proofs.Widening.{widest_few}
use Rattle.wave_build.proofs.optimizer.most_room.Goals as goal

pub returns-clause-paid : goal.returns-clause-paid
returns-clause-paid c v few =
    let w = widest_few (3 * v + 1) 0 (view.graph c.args.graph.now).procs (omega arith) few in
    let same = ap (λ ps. widest_from 0 (map view.proc ps)) c.deref.ensures.value in
    omega (arith, w, same, c.widest.ensures, c.min-most.ensures)
