use Rattle.std.proofs.Common.{◌≡◌, ◌+◌, ◌++◌, drop, map}
use Rattle.std.specs.List.{AllByRecursion}
use Rattle.seq_run.specs.View as source
use Rattle.cfg_core.specs.View as view
use Rattle.cfg_build.specs.Lowered as lowered
use Rattle.cfg_build.specs.Building.{ProcFits, blocks_of}
use Rattle.cfg_build.proofs.procs.lower_procs.Given as goal

abbrev pub invariant-loop-proc : goal.invariant-loop-proc
invariant-loop-proc l = record {
  made : map view.proc l.list.items ++ lowered.procs (source.procs (drop l.proc-index l.procs)) l.first
      ≡ lowered.procs (source.procs l.procs) 0;
  count : l.first + blocks_of (source.procs (drop l.proc-index l.procs)) ≡ blocks_of (source.procs l.procs);
  fit : AllByRecursion ProcFits (source.procs (drop l.proc-index l.procs));
}
