use Rattle.asm_text.proofs.Keeping.Formed.{read_formed}
use Rattle.asm_text.proofs.laws.read_images_are_formed.Goals as goal

pub returns : goal.returns
returns c text image e = read_formed text image e
