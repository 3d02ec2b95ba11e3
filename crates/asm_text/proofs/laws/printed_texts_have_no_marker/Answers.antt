use Rattle.asm_text.proofs.Printing.Shown.{printed_plain, printed_end}
use Rattle.asm_text.proofs.laws.printed_texts_have_no_marker.Goals as goal

pub returns-clause-bytes : goal.returns-clause-bytes
returns-clause-bytes c = printed_plain

pub returns-clause-end : goal.returns-clause-end
returns-clause-end c = printed_end
