use Rattle.std.proofs.Common.{◌≡◌, map, drop}
use Rattle.cfg_core.specs.View as view
use Rattle.wave_build.specs.Opened.{widest_from}
use Rattle.wave_build.proofs.optimizer.widest.Given as goal

abbrev pub invariant-loop-proc : goal.invariant-loop-proc
invariant-loop-proc l = widest_from l.most (map view.proc (drop l.proc-index l.procs))
    ≡ widest_from 0 (map view.proc l.procs)
