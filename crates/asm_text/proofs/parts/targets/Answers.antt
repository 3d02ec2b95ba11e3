use Rattle.std.proofs.Common.{Some, sym, ap, ◌∙◌}
use Rattle.asm_text.specs.Forms.{targets_at}
use Rattle.asm_text.proofs.Scanning.Lists.{stop, targets_end}
use Rattle.asm_text.proofs.parts.targets.Goals as goal

pub returns-in-Err-Form : goal.returns-in-Err-Form
returns-in-Err-Form c =
    let e = rw c.in-Err-Form.field-0-is at c.in-Err-Form.ensures in
    ap Some (sym c.loop-target.invariant ∙ stop c.loop-target.all (targets_at c.loop-target.rest.now)
    c.loop-target.rest.now (targets_end c.loop-target.rest.now e))
