use Rattle.std.proofs.Common.{◌∙◌, refl, [], ◌∷◌, not, true, nat_lt, nat_le, sym, ap}
use Rattle.src_ast.specs.declared.fault.RefusalKind.TheVariants.{Twice, Limit}
use Rattle.src_ast.specs.declared.fault.Quantity.TheVariants.{Arrays, Length}
use Rattle.src_check.specs.Names.{found, passes}
use Rattle.src_ast.specs.Rules.{rule}
use Rattle.src_check.specs.Rule.{first_broken}
use Rattle.src_check.proofs.Broken.{before_broken, after_kept, leaves_in_memory, visible_where_found}
use Rattle.src_check.proofs.Parts.{array_rules_as, after_array}
use Rattle.src_check.proofs.checker.Checker.array.Goals as goal
use Rattle.ws_words.proofs.Bools.{not_true}

pub returns-in_err-require-clause-rules : goal.returns-in_err-require-clause-rules
returns-in_err-require-clause-rules c = λ before b.
    let known = c.contains-known.ensures ∙ ap (λ t. passes (λ _. true) (found c.args.self.now.names.outer t))
    c.as_slice.ensures ∙ sym (visible_where_found c.args.name.now.text b.names) in
    leaves_in_memory _ _ _ c.from_residual.ensures.1
    (ap first_broken (array_rules_as before c.args.name.now c.args.length c.args.length_place _
    c.args.self.now known b)
    ∙ before_broken (rule c.args.name.now.place Twice (not c.contains-known.result) ∷ []) _ _
    c.in_err-require.ensures.rule)

pub returns-in_err-require-2-clause-rules : goal.returns-in_err-require-2-clause-rules
returns-in_err-require-2-clause-rules c = λ before b.
    let known = c.contains-known.ensures ∙ ap (λ t. passes (λ _. true) (found c.args.self.now.names.outer t))
    c.as_slice.ensures ∙ sym (visible_where_found c.args.name.now.text b.names) in
    leaves_in_memory _ _ _ c.from_residual-in_err-require-2.ensures.1
    (ap first_broken (array_rules_as before c.args.name.now c.args.length c.args.length_place _
    c.args.self.now known b)
    ∙ after_kept (rule c.args.name.now.place Twice (not c.contains-known.result) ∷ []) _
    c.in_ok-require.ensures.rule
    ∙ before_broken (rule c.args.name.now.place (Limit Arrays) (nat_lt c.args.self.now.arrays 64) ∷ []) _ _
    c.in_err-require-2.ensures.rule)

pub returns-in_err-require-3-clause-rules : goal.returns-in_err-require-3-clause-rules
returns-in_err-require-3-clause-rules c = λ before b.
    let known = c.contains-known.ensures ∙ ap (λ t. passes (λ _. true) (found c.args.self.now.names.outer t))
    c.as_slice.ensures ∙ sym (visible_where_found c.args.name.now.text b.names) in
    leaves_in_memory _ _ _ c.from_residual-in_err-require-3.ensures.1
    (ap first_broken (array_rules_as before c.args.name.now c.args.length c.args.length_place _
    c.args.self.now known b)
    ∙ after_kept (rule c.args.name.now.place Twice (not c.contains-known.result) ∷ []) _
    c.in_ok-require.ensures.rule
    ∙ after_kept (rule c.args.name.now.place (Limit Arrays) (nat_lt c.args.self.now.arrays 64) ∷ []) _
    c.in_ok-require-2.ensures.rule
    ∙ before_broken (rule c.args.length_place (Limit Length) (nat_le c.args.length 65536) ∷ []) _ _
    c.in_err-require-3.ensures.rule)

pub returns-in_err-require-4-clause-rules : goal.returns-in_err-require-4-clause-rules
returns-in_err-require-4-clause-rules c = λ before b.
    let known = c.contains-known.ensures ∙ ap (λ t. passes (λ _. true) (found c.args.self.now.names.outer t))
    c.as_slice.ensures ∙ sym (visible_where_found c.args.name.now.text b.names) in
    leaves_in_memory _ _ _ c.from_residual-in_err-require-4.ensures.1
    (ap first_broken (array_rules_as before c.args.name.now c.args.length c.args.length_place _
    c.args.self.now known b)
    ∙ after_kept (rule c.args.name.now.place Twice (not c.contains-known.result) ∷ []) _
    c.in_ok-require.ensures.rule
    ∙ after_kept (rule c.args.name.now.place (Limit Arrays) (nat_lt c.args.self.now.arrays 64) ∷ []) _
    c.in_ok-require-2.ensures.rule
    ∙ after_kept (rule c.args.length_place (Limit Length) (nat_le c.args.length 65536) ∷ []) _
    c.in_ok-require-3.ensures.rule
    ∙ c.in_err-require-4.ensures.rule)

pub returns-clause-rules : goal.returns-clause-rules
returns-clause-rules c = λ before b.
    let known = c.contains-known.ensures ∙ ap (λ t. passes (λ _. true) (found c.args.self.now.names.outer t))
    c.as_slice.ensures ∙ sym (visible_where_found c.args.name.now.text b.names) in
    ap first_broken (array_rules_as before c.args.name.now c.args.length c.args.length_place _ c.args.self.now
    known b)
    ∙ after_kept (rule c.args.name.now.place Twice (not c.contains-known.result) ∷ []) _
    c.in_ok-require.ensures.rule
    ∙ after_kept (rule c.args.name.now.place (Limit Arrays) (nat_lt c.args.self.now.arrays 64) ∷ []) _
    c.in_ok-require-2.ensures.rule
    ∙ after_kept (rule c.args.length_place (Limit Length) (nat_le c.args.length 65536) ∷ []) _
    c.in_ok-require-3.ensures.rule
    ∙ c.in_ok-require-4.ensures.rule

pub returns-clause-after : goal.returns-clause-after
returns-clause-after c = λ before b.
    after_array c.args.self.now _ before b c.args.name.now c.args.length c.args.length_place
    (sym (c.contains-known.ensures ∙ ap (λ t. passes (λ _. true) (found c.args.self.now.names.outer t))
    c.as_slice.ensures) ∙ not_true _ c.in_ok-require.ensures.kept)
    c.in_ok-put.ensures.ok refl refl refl refl refl
