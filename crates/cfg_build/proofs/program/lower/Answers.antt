use Rattle.src_ast.specs.View as ast
use Rattle.seq_run.specs.View as source
use Rattle.cfg_core.specs.View as view
use Rattle.cfg_build.proofs.OfPrograms.{run_kept, arrays_kept, rooms_kept, rules_kept, form_kept, shape_kept}
use Rattle.cfg_build.proofs.OfPrograms.{turns_kept, work_kept, size_kept, small_kept, all_shown, stays_inside}
use Rattle.cfg_build.proofs.program.lower.Goals as goal

pub returns-clause-run : goal.returns-clause-run
returns-clause-run c = run_kept (ast.parts c.args.accepted.now.program.items.items)
    (source.program c.in_ok-resolved.resolved) (view.graph c.in_ok-graph.graph)
    c.in_ok-resolved.ensures.resolves c.in_ok-graph.ensures c.in_ok-resolved.ensures.in_range
    c.turns_never_grow.ensures c.names_are_places.ensures

pub returns-clause-shown : goal.returns-clause-shown
returns-clause-shown c = all_shown (ast.parts c.args.accepted.now.program.items.items)
    (source.program c.in_ok-resolved.resolved) (view.graph c.in_ok-graph.graph)
    c.in_ok-resolved.ensures.resolves c.in_ok-graph.ensures c.in_ok-resolved.ensures.in_range
    c.nothing_hidden.ensures.ends c.nothing_hidden.ensures.goes

pub returns-clause-arrays : goal.returns-clause-arrays
returns-clause-arrays c = arrays_kept (ast.parts c.args.accepted.now.program.items.items)
    (source.program c.in_ok-resolved.resolved) (view.graph c.in_ok-graph.graph)
    c.in_ok-resolved.ensures.resolves c.in_ok-graph.ensures c.in_ok-resolved.ensures.in_range

pub returns-clause-inside : goal.returns-clause-inside
returns-clause-inside c = stays_inside (ast.parts c.args.accepted.now.program.items.items)
    (source.program c.in_ok-resolved.resolved) (view.graph c.in_ok-graph.graph)
    c.in_ok-resolved.ensures.resolves c.in_ok-graph.ensures c.in_ok-resolved.ensures.in_range
    c.nothing_hidden.ensures.inside

pub returns-clause-rules : goal.returns-clause-rules
returns-clause-rules c = rules_kept (ast.parts c.args.accepted.now.program.items.items)
    (source.program c.in_ok-resolved.resolved) (view.graph c.in_ok-graph.graph)
    c.in_ok-resolved.ensures.resolves c.in_ok-graph.ensures c.in_ok-resolved.ensures.in_range

pub returns-clause-form : goal.returns-clause-form
returns-clause-form c = form_kept (ast.parts c.args.accepted.now.program.items.items)
    (source.program c.in_ok-resolved.resolved) (view.graph c.in_ok-graph.graph)
    c.in_ok-resolved.ensures.resolves c.in_ok-graph.ensures c.in_ok-resolved.ensures.in_range

pub returns-clause-shape : goal.returns-clause-shape
returns-clause-shape c = shape_kept (ast.parts c.args.accepted.now.program.items.items)
    (source.program c.in_ok-resolved.resolved) (view.graph c.in_ok-graph.graph)
    c.in_ok-resolved.ensures.resolves c.in_ok-graph.ensures c.in_ok-resolved.ensures.in_range

pub returns-clause-procs : goal.returns-clause-procs
returns-clause-procs c = rooms_kept (ast.parts c.args.accepted.now.program.items.items)
    (source.program c.in_ok-resolved.resolved) (view.graph c.in_ok-graph.graph)
    c.in_ok-resolved.ensures.resolves c.in_ok-graph.ensures c.in_ok-resolved.ensures.in_range

pub returns-clause-turns : goal.returns-clause-turns
returns-clause-turns c = turns_kept (ast.parts c.args.accepted.now.program.items.items)
    (source.program c.in_ok-resolved.resolved) (view.graph c.in_ok-graph.graph)
    c.in_ok-resolved.ensures.resolves c.in_ok-graph.ensures c.in_ok-resolved.ensures.in_range

pub returns-clause-work : goal.returns-clause-work
returns-clause-work c = work_kept (ast.parts c.args.accepted.now.program.items.items)
    (source.program c.in_ok-resolved.resolved) (view.graph c.in_ok-graph.graph)
    c.in_ok-resolved.ensures.resolves c.in_ok-graph.ensures c.in_ok-resolved.ensures.in_range

pub returns-clause-size : goal.returns-clause-size
returns-clause-size c = size_kept (ast.parts c.args.accepted.now.program.items.items)
    (source.program c.in_ok-resolved.resolved) (view.graph c.in_ok-graph.graph)
    c.in_ok-resolved.ensures.resolves c.in_ok-graph.ensures c.in_ok-resolved.ensures.in_range

pub returns-clause-small : goal.returns-clause-small
returns-clause-small c = small_kept (ast.parts c.args.accepted.now.program.items.items)
    (source.program c.in_ok-resolved.resolved) (view.graph c.in_ok-graph.graph)
    c.in_ok-resolved.ensures.resolves c.in_ok-graph.ensures c.in_ok-resolved.ensures.in_range
    c.args.accepted.now.program.finish c.args.accepted.now.accepted
