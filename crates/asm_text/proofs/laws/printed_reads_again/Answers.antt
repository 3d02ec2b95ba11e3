use Rattle.asm_text.proofs.Printing.Shown.{reads_again}
use Rattle.asm_text.proofs.laws.printed_reads_again.Goals as goal

pub returns : goal.returns
returns c = reads_again
