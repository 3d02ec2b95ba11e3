use Rattle.asm_text.proofs.Accepting.Completes.{spelled_read}
use Rattle.asm_text.proofs.laws.spelled_texts_are_read.Goals as goal

pub returns : goal.returns
returns c = spelled_read
