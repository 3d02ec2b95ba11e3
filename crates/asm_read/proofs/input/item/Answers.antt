use Rattle.asm_read.proofs.Inputs.{item_run}
use Rattle.asm_read.proofs.input.item.Goals as goal

pub returns-clause-item : goal.returns-clause-item
returns-clause-item c = (item_run _ _ _ _ c.requires.some c.requires.no_blank c.item_length.ensures.longest
    c.split_at.ensures.front c.split_at.ensures.back).1

pub returns-clause-some : goal.returns-clause-some
returns-clause-some c = (item_run _ _ _ _ c.requires.some c.requires.no_blank c.item_length.ensures.longest
    c.split_at.ensures.front c.split_at.ensures.back).0
