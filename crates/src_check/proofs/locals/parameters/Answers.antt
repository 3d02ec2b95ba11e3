use Rattle.std.proofs.Common.{◌∙◌, ◌+◌, List, [], ◌∷◌, ap, sym, subst, take, drop, arith, add-one}
use Rattle.std.proofs.Math.ListN.{drop_of_length-le}
use Rattle.std.proofs.lemmas.List.{take_all}
use Rattle.src_ast.specs.declared.lexeme.Name.{Name}
use Rattle.src_ast.specs.Rules.{parameter_rules}
use Rattle.src_check.specs.Names.{seen, StandsFor}
use Rattle.src_check.specs.Rule.{first_broken}
use Rattle.src_check.proofs.Broken.{passes_on, stop_as, stop_before, after_kept}
use Rattle.src_check.proofs.Stands.{pushed, pushed_next, stands_for_pushed}
use Rattle.src_check.proofs.Steps.{drop_next}
use Rattle.src_check.proofs.locals.parameters.Goals as goal

pub returns-in_err-parameter-clause-rules : goal.returns-in_err-parameter-clause-rules
returns-in_err-parameter-clause-rules c = λ visible st.
    let now = pushed (take c.loop-name.name-index c.args.params.now) visible in
    let left = drop_next c.args.params.now c.loop-name.name-index c.name-item.result (omega arith)
    c.name-item.is in
    passes_on _ _ _ c.from_residual.ensures.1
    (stop_as _ _ _ (c.loop-name.invariant.rules visible st
    ∙ ap (λ (l : List Name). first_broken (parameter_rules c.args.main now c.loop-name.count l)) left)
    (stop_before (parameter_rules c.args.main now c.loop-name.count (c.name-item.result ∷ [])) _ _
    (c.in_err-parameter.ensures.rules now (c.loop-name.invariant.stands visible st))))

pub loop-name-preserved : goal.loop-name-preserved
loop-name-preserved c =
    let left = drop_next c.args.params.now c.loop-name.name-index c.name-item.result (omega arith)
    c.name-item.is in
    record {
      rules = λ visible st.
          let now = pushed (take c.loop-name.name-index c.args.params.now) visible in
          let next = pushed_next c.args.params.now c.loop-name.name-index c.name-item.result visible
          (omega arith) c.name-item.is in
          c.loop-name.invariant.rules visible st
          ∙ ap (λ (l : List Name). first_broken (parameter_rules c.args.main now c.loop-name.count l)) left
          ∙ after_kept (parameter_rules c.args.main now c.loop-name.count (c.name-item.result ∷ [])) _
          (c.in_ok-parameter.ensures.rules now (c.loop-name.invariant.stands visible st))
          ∙ (λ i. first_broken (parameter_rules c.args.main (sym next i) (sym (add-one c.loop-name.count) i)
          (drop (c.loop-name.name-index + 1) c.args.params.now)));
      stands = λ visible st.
          let next = pushed_next c.args.params.now c.loop-name.name-index c.name-item.result visible
          (omega arith) c.name-item.is in
          subst (λ v. StandsFor (seen c.parameter.new.names) v) (sym next)
          (c.in_ok-parameter.ensures.stands _ (c.loop-name.invariant.stands visible st));
      outer = c.in_ok-parameter.ensures.outer ∙ c.loop-name.invariant.outer;
    }

pub returns-clause-rules : goal.returns-clause-rules
unfolding first_broken
returns-clause-rules c = λ visible st.
    c.loop-name.invariant.rules visible st
    ∙ ap (λ (l : List Name).
    first_broken
    (parameter_rules c.args.main (pushed (take c.loop-name.name-index c.args.params.now) visible)
    c.loop-name.count l)) (drop_of_length-le c.args.params.now {i = c.loop-name.name-index}
    c.loop-name-test.false)

pub returns-clause-stands : goal.returns-clause-stands
returns-clause-stands c = λ visible st.
    stands_for_pushed c.args.params.now visible
    (subst (λ (l : List Name). StandsFor (seen c.loop-name.names) (pushed l visible))
    (take_all c.loop-name.name-index c.args.params.now c.loop-name-test.false)
    (c.loop-name.invariant.stands visible st))
