use Rattle.src_ast.specs.View as ast
use Rattle.ws_words.specs.Plain.{world_of}
use Rattle.seq_run.proofs.Whole.{resolved_has_proc, one_of, ends_so, faults_so, goes_so}
use Rattle.seq_run.proofs.plain.run_plain.Goals as goal

pub run_resolved-requires : goal.run_resolved-requires
run_resolved-requires c = resolved_has_proc c.in_ok-resolved.resolved
    (ast.parts c.args.accepted.now.program.items.items) c.args.accepted.now.program.finish
    c.in_ok-resolved.ensures.resolves c.args.accepted.now.accepted

pub returns-clause-answer : goal.returns-clause-answer
returns-clause-answer c = one_of c.in_ok-resolved.resolved (ast.parts c.args.accepted.now.program.items.items)
    (world_of c.args.world.now) c.args.turns c.in_ok-plain.plain c.in_ok-resolved.ensures.resolves
    c.in_ok-plain.ensures

pub returns-clause-ended : goal.returns-clause-ended
returns-clause-ended c = ends_so c.in_ok-resolved.resolved (ast.parts c.args.accepted.now.program.items.items)
    (world_of c.args.world.now) c.args.turns c.in_ok-plain.plain c.in_ok-resolved.ensures.resolves
    c.in_ok-plain.ensures

pub returns-clause-faulted : goal.returns-clause-faulted
returns-clause-faulted c = faults_so c.in_ok-resolved.resolved
    (ast.parts c.args.accepted.now.program.items.items) (world_of c.args.world.now) c.args.turns
    c.in_ok-plain.plain c.in_ok-resolved.ensures.resolves c.in_ok-plain.ensures

pub returns-clause-going : goal.returns-clause-going
returns-clause-going c = goes_so c.in_ok-resolved.resolved (ast.parts c.args.accepted.now.program.items.items)
    (world_of c.args.world.now) c.args.turns c.in_ok-plain.plain c.in_ok-resolved.ensures.resolves
    c.in_ok-plain.ensures
