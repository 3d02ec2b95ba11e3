use Rattle.asm_link.proofs.laws.prints_are_sound.Goals as goal

pub returns : goal.returns
returns c = λ image made h. (c.printed_reads_again.ensures made h.formed, h.notes.sound)
