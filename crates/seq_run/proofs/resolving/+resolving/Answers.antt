use Rattle.std.proofs.Common.{ap, ◌∙◌, List}
use Rattle.src_ast.specs.declared.tree.Stmt.{Stmt}
use Rattle.src_ast.specs.View as ast
use Rattle.seq_run.specs.Resolving as resolving
use Rattle.cfg_core.specs.View as graph
use Rattle.seq_run.specs.View as view
use Rattle.seq_run.proofs.Resolves.{steps_more, if_resolves, while_resolves}
use Rattle.seq_run.proofs.resolving.+resolving.Goals as goal

pub steps-loop-s-preserved : goal.steps-loop-s-preserved
steps-loop-s-preserved t c = λ scope are. steps_more scope c.args.body.now c.loop-s.s-index c.s-item.result
    c.loop-s.list.items c.push.new.self.items c.in_ok-one.one c.loop-s-test.true c.s-item.is
    (c.loop-s.invariant scope are) (c.in_ok-one.ensures scope are) c.in_ok-push.ensures.items

pub step-returns-in_ok-second-in-If : goal.step-returns-in_ok-second-in-If
step-returns-in_ok-second-in-If t c = λ scope are.
    c.if_step.ensures ∙ if_resolves scope c.args.s.now c.in-If.test c.in-If.first c.in-If.second
    (graph.term c.in_ok-test-in-If.test) (view.steps c.in_ok-first-in-If.first.items)
    (view.steps c.in_ok-second-in-If.second.items) c.in-If.is (c.in_ok-test-in-If.ensures scope are)
    (c.in_ok-first-in-If.ensures scope are ∙ ap (λ (ss : List Stmt). resolving.all scope (ast.statements ss))
    c.deref-in-If.ensures.value)
    (c.in_ok-second-in-If.ensures scope are ∙ ap (λ (ss : List Stmt). resolving.all scope (ast.statements ss))
    c.deref-in-If-2.ensures.value)

pub step-returns-in_ok-body-in-While : goal.step-returns-in_ok-body-in-While
step-returns-in_ok-body-in-While t c = λ scope are.
    c.while_step.ensures ∙ while_resolves scope c.args.s.now c.in-While.test c.in-While.body
    (graph.term c.in_ok-test-in-While.test) (view.steps c.in_ok-body-in-While.body.items) c.in-While.is
    (c.in_ok-test-in-While.ensures scope are)
    (c.in_ok-body-in-While.ensures scope are
    ∙ ap (λ (ss : List Stmt). resolving.all scope (ast.statements ss)) c.deref-in-While.ensures.value)
