use Rattle.std.proofs.Common.{List, map, ap, ◌∙◌, arith, ◌+◌, drop}
use Rattle.std.proofs.Math.ListN.{drop_of_length-le}
use Rattle.src_ast.specs.View as view
use Rattle.src_ast.specs.declared.tree.Expr.{Expr}
use Rattle.src_ast.specs.Rules.{expression_rules, argument_rules}
use Rattle.src_check.specs.Rule.{first_broken}
use Rattle.src_check.proofs.Broken.{before_broken, after_kept, leaves}
use Rattle.src_check.proofs.Steps.{drop_next}
use Rattle.src_check.proofs.expressions.arguments.Goals as goal

pub returns-in_err-expression : goal.returns-in_err-expression
returns-in_err-expression c = λ visible st.
    leaves _ _ _ c.from_residual.ensures.1
    (c.loop-expr.invariant visible st
    ∙ ap (λ (l : List Expr). first_broken (argument_rules visible (map view.expression l)))
    (drop_next c.args.exprs.now c.loop-expr.expr-index c.expr-item.result (omega arith) c.expr-item.is)
    ∙ before_broken (expression_rules visible (view.expression c.expr-item.result))
    (argument_rules visible (map view.expression (drop (c.loop-expr.expr-index + 1) c.args.exprs.now))) _
    (c.in_err-expression.ensures visible st))

pub loop-expr-preserved : goal.loop-expr-preserved
loop-expr-preserved c = λ visible st.
    c.loop-expr.invariant visible st
    ∙ ap (λ (l : List Expr). first_broken (argument_rules visible (map view.expression l)))
    (drop_next c.args.exprs.now c.loop-expr.expr-index c.expr-item.result (omega arith) c.expr-item.is)
    ∙ after_kept (expression_rules visible (view.expression c.expr-item.result))
    (argument_rules visible (map view.expression (drop (c.loop-expr.expr-index + 1) c.args.exprs.now)))
    (c.in_ok-expression.ensures visible st)

pub returns : goal.returns
unfolding first_broken
returns c = λ visible st.
    c.loop-expr.invariant visible st
    ∙ ap (λ (l : List Expr). first_broken (argument_rules visible (map view.expression l)))
    (drop_of_length-le c.args.exprs.now {i = c.loop-expr.expr-index} c.loop-expr-test.false)
