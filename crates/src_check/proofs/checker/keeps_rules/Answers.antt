use Rattle.std.proofs.Common.{◌∙◌, ◌+◌, List, [], ◌∷◌, sym, ap, subst, take, drop, arith}
use Rattle.std.proofs.Math.ListN.{drop_of_length-le}
use Rattle.std.proofs.lemmas.List.{take_all}
use Rattle.src_ast.specs.View as view
use Rattle.src_ast.specs.declared.tree.Item.{Item}
use Rattle.src_ast.specs.declared.fault.RefusalKind.TheVariants.{Main}
use Rattle.src_ast.specs.Syntax.{Part}
use Rattle.src_ast.specs.Rules.{part_rules, rules_after, has_main, rule}
use Rattle.src_check.specs.After.{IsAfter}
use Rattle.src_check.specs.Rule.{first_broken}
use Rattle.src_check.proofs.Broken.{none_broken, after_kept, leaves_in_memory, passes_on, stop_as}
use Rattle.src_check.proofs.Broken.{stop_before}
use Rattle.src_check.proofs.Steps.{drop_next, map-take_next}
use Rattle.src_check.proofs.checker.keeps_rules.Goals as goal

pub returns-in_err-item : goal.returns-in_err-item
returns-in_err-item c =
    let left = rw c.deref-item-items.ensures.value at
    (drop_next c.deref-item-items.result.now c.loop-item.item-index c.item-item.result (omega arith)
    c.item-item.is) in
    let now = view.parts (take c.loop-item.item-index c.args.program.now.items.items) in
    passes_on _ _ _ c.from_residual.ensures.1
    (stop_before (rules_after [] (view.parts c.args.program.now.items.items)) _ _
    (stop_as _ _ _ (c.loop-item.invariant.rules
    ∙ ap (λ (l : List Item). first_broken (rules_after now (view.parts l))) left)
    (stop_before (part_rules now (view.part c.item-item.result)) _ _
    (c.in_err-item.ensures.rules now c.loop-item.invariant.following))))

pub loop-item-preserved : goal.loop-item-preserved
loop-item-preserved c =
    let left = rw c.deref-item-items.ensures.value at
    (drop_next c.deref-item-items.result.now c.loop-item.item-index c.item-item.result (omega arith)
    c.item-item.is) in
    let next = rw c.deref-item-items.ensures.value at (map-take_next view.part c.deref-item-items.result.now
    c.loop-item.item-index c.item-item.result (omega arith) c.item-item.is) in
    let now = view.parts (take c.loop-item.item-index c.args.program.now.items.items) in
    record {
      rules =
          c.loop-item.invariant.rules
          ∙ ap (λ (l : List Item). first_broken (rules_after now (view.parts l))) left
          ∙ after_kept (part_rules now (view.part c.item-item.result)) _
          (c.in_ok-item.ensures.rules now c.loop-item.invariant.following)
          ∙ ap (λ (l : List Part).
          first_broken
          (rules_after l (view.parts (drop (c.loop-item.item-index + 1) c.args.program.now.items.items))))
          (sym next);
      following = subst (λ (l : List Part). IsAfter c.item.new.self l) (sym next)
          (c.in_ok-item.ensures.after now c.loop-item.invariant.following);
    }

pub returns-in_err-require : goal.returns-in_err-require
returns-in_err-require c =
    let none = rw c.deref-item-items.ensures.value at (drop_of_length-le c.deref-item-items.result.now
    {i = c.loop-item.item-index} c.loop-item-test.false) in
    let all = rw c.deref-item-items.ensures.value at
    (take_all c.loop-item.item-index c.deref-item-items.result.now c.loop-item-test.false) in
    let now = view.parts (take c.loop-item.item-index c.args.program.now.items.items) in
    leaves_in_memory _ _ _ c.from_residual-in_err-require.ensures.1
    (after_kept (rules_after [] (view.parts c.args.program.now.items.items)) _
    (c.loop-item.invariant.rules ∙ ap (λ (l : List Item). first_broken (rules_after now (view.parts l)))
    none ∙ none_broken)
    ∙ ap (λ b. first_broken (rule c.args.program.now.finish Main b ∷ []))
    (sym (c.loop-item.invariant.following.main ∙ ap (λ (l : List Item). has_main (view.parts l)) all))
    ∙ c.in_err-require.ensures.rule)

pub returns : goal.returns
returns c =
    let none = rw c.deref-item-items.ensures.value at (drop_of_length-le c.deref-item-items.result.now
    {i = c.loop-item.item-index} c.loop-item-test.false) in
    let all = rw c.deref-item-items.ensures.value at
    (take_all c.loop-item.item-index c.deref-item-items.result.now c.loop-item-test.false) in
    let now = view.parts (take c.loop-item.item-index c.args.program.now.items.items) in
    after_kept (rules_after [] (view.parts c.args.program.now.items.items)) _
    (c.loop-item.invariant.rules ∙ ap (λ (l : List Item). first_broken (rules_after now (view.parts l)))
    none ∙ none_broken)
    ∙ ap (λ b. first_broken (rule c.args.program.now.finish Main b ∷ []))
    (sym (c.loop-item.invariant.following.main ∙ ap (λ (l : List Item). has_main (view.parts l)) all))
    ∙ c.in_ok-require.ensures.rule
