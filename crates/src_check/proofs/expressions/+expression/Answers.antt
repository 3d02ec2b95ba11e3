use Rattle.std.proofs.Common.{refl}
use Rattle.src_ast.specs.Rules.{use_rules, expression_rules}
use Rattle.src_ast.specs.Rules as rules
use Rattle.src_ast.specs.View as view
use Rattle.src_check.specs.Rule.{first_broken}
use Rattle.src_check.proofs.Broken.{before_broken, answers_after, leaves}
use Rattle.src_check.proofs.expressions.+expression.Goals as goal

pub returns-in_err-name_use-in-Cell : goal.returns-in_err-name_use-in-Cell
returns-in_err-name_use-in-Cell t c = λ visible st.
    leaves _ _ _ c.from_residual.ensures.1
    (rw c.in-Cell.is (before_broken (use_rules visible c.in-Cell.name rules.array) _ _
    (c.in_err-name_use-in-Cell.ensures visible st)))

pub returns-in_err-expression-in-Binary : goal.returns-in_err-expression-in-Binary
returns-in_err-expression-in-Binary t c = λ visible st.
    leaves _ _ _ c.from_residual-in_err-expression-in-Binary.ensures.1
    (rw (c.in-Binary.is, ← c.deref-in-Binary.ensures)
    (before_broken (expression_rules visible (view.expression c.deref-in-Binary.result.now)) _ _
    (c.in_err-expression-in-Binary.ensures visible st)))

pub returns-in-Number : goal.returns-in-Number
unfolding first_broken
returns-in-Number t c = λ visible st. rw c.in-Number.is refl

pub returns-in_ok-name_use-in-Cell : goal.returns-in_ok-name_use-in-Cell
returns-in_ok-name_use-in-Cell t c = λ visible st.
    rw (c.in-Cell.is, ← c.deref.ensures) (answers_after (use_rules visible c.in-Cell.name rules.array) _ _
    (c.in_ok-name_use-in-Cell.ensures visible st) (c.expression.ensures visible st))

pub returns-in_ok-expression-in-Binary : goal.returns-in_ok-expression-in-Binary
returns-in_ok-expression-in-Binary t c = λ visible st.
    rw (c.in-Binary.is, ← c.deref-in-Binary.ensures, ← c.deref-in-Binary-2.ensures)
    (answers_after (expression_rules visible (view.expression c.deref-in-Binary.result.now)) _ _
    (c.in_ok-expression-in-Binary.ensures visible st) (c.expression-in-Binary-2.ensures visible st))
