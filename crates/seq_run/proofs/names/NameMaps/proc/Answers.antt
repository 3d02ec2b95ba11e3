use Rattle.std.proofs.Common.{arith}
use Rattle.seq_run.proofs.names.NameMaps.proc.Goals as goal

pub returns : goal.returns
returns c = λ scope are. let h = c.number.ensures 0 scope.procs are.procs in omega (arith, h)
