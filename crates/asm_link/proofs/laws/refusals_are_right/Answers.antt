use Rattle.asm_link.proofs.Noted.{noted_how}
use Rattle.asm_link.proofs.Right.{right}
use Rattle.asm_link.proofs.Exact.{exact, exact_plain}
use Rattle.asm_link.proofs.laws.refusals_are_right.Goals as goal

pub returns : goal.returns
returns c = record { refused = right; how = noted_how; fits = exact; plain = exact_plain }
