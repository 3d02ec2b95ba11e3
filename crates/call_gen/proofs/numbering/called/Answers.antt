use Rattle.std.proofs.Common.{arith}
use Rattle.call_gen.proofs.numbering.called.Goals as goal

pub overflow_cast-f-end : goal.overflow_cast-f-end
overflow_cast-f-end c = omega (arith, c.proc_count-f-end.ensures, c.requires.blocks)

pub returns : goal.returns
returns c = λ f lt. c.loop-f.invariant.flags f (omega (arith, lt, c.proc_count-f-end.ensures))
