use Rattle.std.proofs.Common.{rules, arith, ap}
use Rattle.src_ast.specs.View as view
use Rattle.src_ast.specs.Bound as spec
use Rattle.src_ast.specs.declared.tree.Form.{the_lemmas}
use Rattle.src_ast.proofs.Views.{at_if, at_while}
use Rattle.src_ast.proofs.bound.+most_nodes.Goals as goal

pub stmt_nodes-most_nodes-requires : goal.stmt_nodes-most_nodes-requires
stmt_nodes-most_nodes-requires t c =
    let e = ap spec.most_nodes (at_if c.args.stmt.now c.in-If.test c.in-If.first c.in-If.second c.in-If.is) in
    let d = ap (λ xs. spec.most_nodes_of (view.statements xs)) c.deref-in-If.ensures.value in
    (search (rules, the_lemmas), omega (arith, e, d))

pub stmt_nodes-most_nodes-requires-in-If : goal.stmt_nodes-most_nodes-requires-in-If
stmt_nodes-most_nodes-requires-in-If t c =
    let e = ap spec.most_nodes (at_if c.args.stmt.now c.in-If.test c.in-If.first c.in-If.second c.in-If.is) in
    let d = ap (λ xs. spec.most_nodes_of (view.statements xs)) c.deref-in-If-2.ensures.value in
    (search (rules, the_lemmas), omega (arith, e, d))

pub stmt_nodes-most_nodes-requires-in-While : goal.stmt_nodes-most_nodes-requires-in-While
stmt_nodes-most_nodes-requires-in-While t c =
    let e = ap spec.most_nodes (at_while c.args.stmt.now c.in-While.test c.in-While.body c.in-While.is) in
    let d = ap (λ xs. spec.most_nodes_of (view.statements xs)) c.deref-in-While.ensures.value in
    (search (rules, the_lemmas), omega (arith, e, d))

pub stmt_nodes-returns-in-If : goal.stmt_nodes-returns-in-If
stmt_nodes-returns-in-If t c =
    let e = ap spec.most_nodes (at_if c.args.stmt.now c.in-If.test c.in-If.first c.in-If.second c.in-If.is) in
    let d = ap (λ xs. spec.most_nodes_of (view.statements xs)) c.deref-in-If.ensures.value in
    let f = ap (λ xs. spec.most_nodes_of (view.statements xs)) c.deref-in-If-2.ensures.value in
    omega (arith, e, d, f)

pub stmt_nodes-returns-in-While : goal.stmt_nodes-returns-in-While
stmt_nodes-returns-in-While t c =
    let e = ap spec.most_nodes (at_while c.args.stmt.now c.in-While.test c.in-While.body c.in-While.is) in
    let d = ap (λ xs. spec.most_nodes_of (view.statements xs)) c.deref-in-While.ensures.value in
    omega (arith, e, d)
