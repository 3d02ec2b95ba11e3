use Rattle.std.proofs.Common.{arith}
use Rattle.seq_run.proofs.names.NameMaps.array.Goals as goal

pub returns : goal.returns
returns c = λ scope are. let h = c.number.ensures 1 scope.arrays are.arrays in omega (arith, h)
