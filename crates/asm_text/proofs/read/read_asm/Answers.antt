use Rattle.asm_text.proofs.Keeping.Formed.{made_formed}
use Rattle.asm_text.proofs.read.read_asm.Goals as goal

pub returns-clause-formed : goal.returns-clause-formed
returns-clause-formed c = made_formed c.args.text.now c.in_ok-state.state c.in_ok-arrays.field-0
    c.in_ok-state.ensures.same c.in_ok-arrays.ensures
