use Rattle.asm_read.proofs.Inputs.{one_answer}
use Rattle.asm_read.proofs.laws.each_input_is_read_once.Goals as goal

pub returns : goal.returns
returns c = one_answer
