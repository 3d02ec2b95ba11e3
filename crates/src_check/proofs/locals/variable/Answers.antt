use Rattle.std.proofs.Common.{◌∙◌, [], ◌∷◌, not, true, sym, ap}
use Rattle.src_ast.specs.declared.fault.RefusalKind.TheVariants.{Twice}
use Rattle.src_check.specs.Names.{seen, passes}
use Rattle.src_ast.specs.Rules.{rule}
use Rattle.src_check.specs.Rule.{first_broken}
use Rattle.src_check.proofs.Broken.{before_broken, after_kept, leaves_in_memory, visible_where_found}
use Rattle.src_check.proofs.Tested.{variable_rules_as}
use Rattle.src_check.proofs.locals.variable.Goals as goal

pub returns-in_err-require-clause-rules : goal.returns-in_err-require-clause-rules
returns-in_err-require-clause-rules c = λ visible st.
    let taken = c.contains-taken.ensures ∙ ap (λ t. passes (λ _. true) (seen c.args.names.now t))
    c.as_slice.ensures ∙ sym (visible_where_found c.args.name.now.text st) in
    leaves_in_memory _ _ _ c.from_residual.ensures.1
    (ap first_broken (variable_rules_as visible c.args.before c.args.name.now _ taken)
    ∙ before_broken (rule c.args.name.now.place Twice (not c.contains-taken.result) ∷ []) _ _
    c.in_err-require.ensures.rule)

pub returns-in_err-require-2-clause-rules : goal.returns-in_err-require-2-clause-rules
returns-in_err-require-2-clause-rules c = λ visible st.
    let taken = c.contains-taken.ensures ∙ ap (λ t. passes (λ _. true) (seen c.args.names.now t))
    c.as_slice.ensures ∙ sym (visible_where_found c.args.name.now.text st) in
    leaves_in_memory _ _ _ c.from_residual-in_err-require-2.ensures.1
    (ap first_broken (variable_rules_as visible c.args.before c.args.name.now _ taken)
    ∙ after_kept (rule c.args.name.now.place Twice (not c.contains-taken.result) ∷ []) _
    c.in_ok-require.ensures.rule
    ∙ c.in_err-require-2.ensures.rule)

pub returns-clause-rules : goal.returns-clause-rules
returns-clause-rules c = λ visible st.
    let taken = c.contains-taken.ensures ∙ ap (λ t. passes (λ _. true) (seen c.args.names.now t))
    c.as_slice.ensures ∙ sym (visible_where_found c.args.name.now.text st) in
    ap first_broken (variable_rules_as visible c.args.before c.args.name.now _ taken)
    ∙ after_kept (rule c.args.name.now.place Twice (not c.contains-taken.result) ∷ []) _
    c.in_ok-require.ensures.rule
    ∙ c.in_ok-require-2.ensures.rule
