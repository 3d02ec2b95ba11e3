use Rattle.std.proofs.Common.{◌∙◌, [], ◌∷◌, refl}
use Rattle.src_ast.specs.Rules.{statement_rule}
use Rattle.src_check.specs.Rule.{first_broken}
use Rattle.src_check.proofs.Broken.{before_broken, after_kept, leaves}
use Rattle.src_check.proofs.statements.ending.Goals as goal

pub returns-in_default-clause-rules : goal.returns-in_default-clause-rules
unfolding first_broken
returns-in_default-clause-rules c = λ visible st. rw c.in_default.is refl

pub returns-in_err-count-clause-rules : goal.returns-in_err-count-clause-rules
returns-in_err-count-clause-rules c = λ visible st.
    leaves _ _ _ c.from_residual.ensures.1
    (rw c.in-Some.is (before_broken (statement_rule c.args.before c.in-Some.last.place ∷ []) _ _
    c.in_err-count.ensures.rules))

pub returns-in_err-expression-clause-rules : goal.returns-in_err-expression-clause-rules
returns-in_err-expression-clause-rules c = λ visible st.
    leaves _ _ _ c.from_residual-in_err-expression.ensures.1
    (rw c.in-Some.is
    (after_kept (statement_rule c.args.before c.in-Some.last.place ∷ []) _ c.in_ok-count.ensures.rules
    ∙ c.in_err-expression.ensures visible st))

pub returns-clause-rules : goal.returns-clause-rules
returns-clause-rules c = λ visible st.
    rw c.in-Some.is
    (after_kept (statement_rule c.args.before c.in-Some.last.place ∷ []) _ c.in_ok-count.ensures.rules
    ∙ c.in_ok-expression.ensures visible st)
