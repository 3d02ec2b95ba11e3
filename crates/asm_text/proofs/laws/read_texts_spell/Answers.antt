use Rattle.asm_text.proofs.Accepting.TextTold.{read_spelled}
use Rattle.asm_text.proofs.laws.read_texts_spell.Goals as goal

pub returns : goal.returns
returns c = read_spelled
