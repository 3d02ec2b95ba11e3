use Rattle.std.proofs.Common.{sym, ◌∙◌}
use Rattle.annot_check.specs.Seen.{broken, repeated}
use Rattle.annot_check.proofs.sequence.pass.Goals as goal

pub returns-in-Some-clause-refused : goal.returns-in-Some-clause-refused
returns-in-Some-clause-refused c = broken (sym c.is_memory.ensures ∙ c.if-not-is_memory.false) (rw
    (c.note_of-note.ensures, c.is_writing_instr-writing.ensures) at c.in-Some.ensures.some)

pub returns-in-Some-2-clause-refused : goal.returns-in-Some-2-clause-refused
returns-in-Some-2-clause-refused c = repeated (sym c.is_memory.ensures ∙
    c.if-not-is_memory.false) (rw (c.note_of-note.ensures) at (sym c.in_ok-earlier.ensures.had ∙
    c.in-Some-2.is))
