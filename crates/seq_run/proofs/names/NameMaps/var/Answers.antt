use Rattle.std.proofs.Common.{arith}
use Rattle.seq_run.proofs.names.NameMaps.var.Goals as goal

pub returns : goal.returns
returns c = λ scope are. let h = c.number.ensures 0 scope.names are.vars in omega (arith, h)
