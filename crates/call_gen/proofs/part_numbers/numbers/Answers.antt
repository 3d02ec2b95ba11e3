use Rattle.std.proofs.Common.{arith}
use Rattle.call_gen.proofs.part_numbers.numbers.Goals as goal

pub returns : goal.returns
returns c = λ f lt. c.loop-f.invariant.numbers f
    (omega (arith, lt, c.proc_count-f-end.ensures))
