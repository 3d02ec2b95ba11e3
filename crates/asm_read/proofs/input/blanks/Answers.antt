use Rattle.asm_read.proofs.Inputs.{blank_run}
use Rattle.asm_read.proofs.input.blanks.Goals as goal

pub returns-clause-blank : goal.returns-clause-blank
returns-clause-blank c =
    (blank_run _ _ _ _ c.blanks_length.ensures.longest c.split_at.ensures.front c.split_at.ensures.back).0

pub returns-clause-longest : goal.returns-clause-longest
returns-clause-longest c =
    (blank_run _ _ _ _ c.blanks_length.ensures.longest c.split_at.ensures.front c.split_at.ensures.back).1
