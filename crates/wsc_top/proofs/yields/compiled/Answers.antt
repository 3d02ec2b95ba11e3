use Rattle.src_ast.specs.View as view
use Rattle.wsc_top.proofs.Calling.Outcomes.{compile_yields}
use Rattle.std.proofs.Common.{◌∙◌, ap}
use Rattle.asm_text.specs.Printed.{printed}
use Rattle.wsc_top.proofs.yields.compiled.Goals as goal

pub returns-in-Ok-clause-ok : goal.returns-in-Ok-clause-ok
returns-in-Ok-clause-ok c = compile_yields (view.parts c.args.accepted.now.program.items.items)
    c.in_ok-image.image _ c.in_ok-image.ensures (c.built.ensures ∙ c.in-Ok.ensures ∙ ap printed
    c.image.ensures.image)
