use Rattle.std.proofs.Common.{◌∙◌, [], ◌∷◌, length}
use Rattle.std.proofs.lemmas.List.{length-map}
use Rattle.src_ast.specs.Rules.{use_rules, statement_rule}
use Rattle.src_ast.specs.Rules as rules
use Rattle.src_check.proofs.Broken.{before_broken, after_kept, leaves}
use Rattle.src_check.proofs.statements.call.Goals as goal

pub returns-in_err-name_use-clause-rules : goal.returns-in_err-name_use-clause-rules
returns-in_err-name_use-clause-rules c = λ visible st.
    leaves _ _ _ c.from_residual.ensures.1
    (rw (c.in_default.is, length-map)
    (before_broken (use_rules visible c.args.procedure.now (rules.procedure (length c.args.args.now))) _ _
    (c.in_err-name_use.ensures visible st)))

pub returns-in_err-count-clause-rules : goal.returns-in_err-count-clause-rules
returns-in_err-count-clause-rules c = λ visible st.
    leaves _ _ _ c.from_residual-in_err-count.ensures.1
    (rw (c.in_default.is, length-map)
    (after_kept (use_rules visible c.args.procedure.now (rules.procedure (length c.args.args.now))) _
    (c.in_ok-name_use.ensures visible st)
    ∙ before_broken (statement_rule c.args.before c.args.place ∷ []) _ _ c.in_err-count.ensures.rules))

pub returns-in_err-arguments-clause-rules : goal.returns-in_err-arguments-clause-rules
returns-in_err-arguments-clause-rules c = λ visible st.
    leaves _ _ _ c.from_residual-in_err-arguments.ensures.1
    (rw (c.in_default.is, length-map)
    (after_kept (use_rules visible c.args.procedure.now (rules.procedure (length c.args.args.now))) _
    (c.in_ok-name_use.ensures visible st)
    ∙ after_kept (statement_rule c.args.before c.args.place ∷ []) _ c.in_ok-count.ensures.rules
    ∙ c.in_err-arguments.ensures visible st))

pub returns-in_default-clause-rules : goal.returns-in_default-clause-rules
returns-in_default-clause-rules c = λ visible st.
    rw (c.in_default.is, length-map)
    (after_kept (use_rules visible c.args.procedure.now (rules.procedure (length c.args.args.now))) _
    (c.in_ok-name_use.ensures visible st)
    ∙ after_kept (statement_rule c.args.before c.args.place ∷ []) _ c.in_ok-count.ensures.rules
    ∙ c.in_ok-arguments.ensures visible st)

pub returns-in_err-name_use-2-clause-rules : goal.returns-in_err-name_use-2-clause-rules
returns-in_err-name_use-2-clause-rules c = λ visible st.
    leaves _ _ _ c.from_residual-in_err-name_use-2.ensures.1
    (rw (c.in-Some.is, length-map) (before_broken (use_rules visible c.in-Some.target rules.variable) _ _
    (c.in_err-name_use-2.ensures visible st)))

pub returns-in_err-count-2-clause-rules : goal.returns-in_err-count-2-clause-rules
returns-in_err-count-2-clause-rules c = λ visible st.
    leaves _ _ _ c.from_residual-in_err-count-2.ensures.1
    (rw (c.in-Some.is, length-map) (after_kept (use_rules visible c.in-Some.target rules.variable) _
    (c.in_ok-name_use-2.ensures visible st)
    ∙ before_broken (statement_rule c.args.before c.args.place ∷ []) _ _ c.in_err-count-2.ensures.rules))

pub returns-in_err-name_use-3-clause-rules : goal.returns-in_err-name_use-3-clause-rules
returns-in_err-name_use-3-clause-rules c = λ visible st.
    leaves _ _ _ c.from_residual-in_err-name_use-3.ensures.1
    (rw (c.in-Some.is, length-map) (after_kept (use_rules visible c.in-Some.target rules.variable) _
    (c.in_ok-name_use-2.ensures visible st)
    ∙ after_kept (statement_rule c.args.before c.args.place ∷ []) _ c.in_ok-count-2.ensures.rules
    ∙ before_broken (use_rules visible c.args.procedure.now (rules.procedure (length c.args.args.now))) _ _
    (c.in_err-name_use-3.ensures visible st)))

pub returns-in_err-arguments-2-clause-rules : goal.returns-in_err-arguments-2-clause-rules
returns-in_err-arguments-2-clause-rules c = λ visible st.
    leaves _ _ _ c.from_residual-in_err-arguments-2.ensures.1
    (rw (c.in-Some.is, length-map) (after_kept (use_rules visible c.in-Some.target rules.variable) _
    (c.in_ok-name_use-2.ensures visible st)
    ∙ after_kept (statement_rule c.args.before c.args.place ∷ []) _ c.in_ok-count-2.ensures.rules
    ∙ after_kept (use_rules visible c.args.procedure.now (rules.procedure (length c.args.args.now))) _
    (c.in_ok-name_use-3.ensures visible st)
    ∙ c.in_err-arguments-2.ensures visible st))

pub returns-clause-rules : goal.returns-clause-rules
returns-clause-rules c = λ visible st.
    rw (c.in-Some.is, length-map) (after_kept (use_rules visible c.in-Some.target rules.variable) _
    (c.in_ok-name_use-2.ensures visible st)
    ∙ after_kept (statement_rule c.args.before c.args.place ∷ []) _ c.in_ok-count-2.ensures.rules
    ∙ after_kept (use_rules visible c.args.procedure.now (rules.procedure (length c.args.args.now))) _
    (c.in_ok-name_use-3.ensures visible st)
    ∙ c.in_ok-arguments-2.ensures visible st)
