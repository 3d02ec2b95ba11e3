use Rattle.std.proofs.Common.{◌∙◌, sym, ap, true, [], ◌∷◌, refl}
use Rattle.std.specs.Option.{option_map}
use Rattle.src_ast.specs.declared.fault.RefusalKind.TheVariants.{Unknown, Kind}
use Rattle.src_check.specs.Names.{sort_of, seen}
use Rattle.src_ast.specs.Rules.{rule}
use Rattle.src_check.specs.Rule.{first_broken}
use Rattle.src_check.proofs.Broken.{before_broken, after_kept, answers_after, leaves, keeps_as, rule_kept}
use Rattle.src_check.proofs.Broken.{use_where_none, use_where_some}
use Rattle.src_check.proofs.expressions.name_use.Goals as goal

pub returns-in_default : goal.returns-in_default
returns-in_default c = λ visible st.
    use_where_none c.args.name.now (sort_of c.args.wanted) st
    (ap (seen c.args.names.now) (sym c.as_slice.ensures) ∙ sym c.find.ensures
    ∙ ap (option_map sort_of) c.in_default.is)

pub returns-in_err-require : goal.returns-in_err-require
returns-in_err-require c = λ visible st.
    leaves _ _ _ c.from_residual.ensures.1
    (ap first_broken (use_where_some c.args.name.now (sort_of c.args.wanted) st (sort_of c.in-Some.sort)
    c.is_of_kind.result _
    (ap (seen c.args.names.now) (sym c.as_slice.ensures) ∙ sym c.find.ensures
    ∙ ap (option_map sort_of) c.in-Some.is) c.is_of_kind.ensures refl)
    ∙ after_kept (rule c.args.name.now.place Unknown true ∷ []) _ (rule_kept c.args.name.now.place Unknown)
    ∙ before_broken (rule c.args.name.now.place Kind c.is_of_kind.result ∷ []) _ _
    c.in_err-require.ensures.rule)

pub returns : goal.returns
returns c = λ visible st.
    keeps_as _ _ _
    (use_where_some c.args.name.now (sort_of c.args.wanted) st (sort_of c.in-Some.sort) c.is_of_kind.result
    c.is_same.result
    (ap (seen c.args.names.now) (sym c.as_slice.ensures) ∙ sym c.find.ensures
    ∙ ap (option_map sort_of) c.in-Some.is) c.is_of_kind.ensures c.is_same.ensures)
    (answers_after (rule c.args.name.now.place Unknown true ∷ []) _ _
    (rule_kept c.args.name.now.place Unknown)
    (answers_after (rule c.args.name.now.place Kind c.is_of_kind.result ∷ []) _ _ c.in_ok-require.ensures.rule
    c.require-2.ensures.rule))
