use Rattle.std.proofs.Common.{Some, sym, ap, ◌∙◌}
use Rattle.asm_text.specs.Forms.{labels_at}
use Rattle.asm_text.proofs.Scanning.Lists.{stop, labels_end}
use Rattle.asm_text.proofs.parts.labels.Goals as goal

pub returns-in-Err-Form : goal.returns-in-Err-Form
returns-in-Err-Form c =
    let e = rw c.in-Err-Form.field-0-is at c.in-Err-Form.ensures in
    ap Some (sym c.loop-label.invariant ∙ stop c.loop-label.all (labels_at c.loop-label.rest.now)
    c.loop-label.rest.now (labels_end c.loop-label.rest.now e))
