use Rattle.asm_text.proofs.Accepting.SampleTexts.{reads_a, reads_b, reads_named}
use Rattle.asm_text.proofs.laws.small_texts_are_read.Goals as goal

pub returns : goal.returns
returns c = record { first = reads_a; second = reads_b; named = reads_named }
