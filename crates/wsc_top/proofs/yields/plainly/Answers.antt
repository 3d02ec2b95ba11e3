use Rattle.std.proofs.Common.{◌∙◌}
use Rattle.src_ast.specs.View as view
use Rattle.wsc_top.proofs.Calling.Outcomes.{ended_yields, faulted_yields, going_yields}
use Rattle.wsc_top.proofs.yields.plainly.Goals as goal

pub returns-in-Ended : goal.returns-in-Ended
returns-in-Ended c handed =
    ended_yields c.args.options (view.parts c.args.accepted.now.program.items.items) c.args.input _
    c.in-Ended.printed c.in-Ended.arrays c.in-Ended.took c.in-Ended.turns _ handed c.in_ok-world.ensures
    (rw (← c.in-Ended.is) c.in_ok-printed.ensures.answer) (c.built.ensures ∙ c.in_ok-text-in-Ended.ensures)

pub returns-in-Fault : goal.returns-in-Fault
returns-in-Fault c handed = faulted_yields c.args.options (view.parts c.args.accepted.now.program.items.items)
    c.args.input _ c.in-Fault.array c.in-Fault.printed c.in-Fault.arrays c.in-Fault.took c.in-Fault.turns _
    handed c.in_ok-world.ensures (rw (← c.in-Fault.is) c.in_ok-printed.ensures.answer)
    (c.built-in-Fault.ensures ∙ c.in_ok-text-in-Fault.ensures)

pub returns : goal.returns
returns c handed = going_yields c.args.options (view.parts c.args.accepted.now.program.items.items)
    c.args.input _ c.in-Going.printed _ handed c.in_ok-world.ensures (rw (← c.in-Going.is)
    c.in_ok-printed.ensures.answer) (c.built-in-Going.ensures ∙ c.in_ok-text-in-Going.ensures)
