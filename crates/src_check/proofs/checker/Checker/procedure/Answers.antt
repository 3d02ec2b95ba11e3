use Rattle.std.proofs.Common.{◌∙◌, ◌++◌, refl, [], ◌∷◌, Some, not, true, nat_lt, nat_eq, if◌then◌else◌, sym}
use Rattle.std.proofs.Common.{ap, length}
use lib.Pointwise.{pointwise}
use Rattle.src_ast.specs.View as view
use Rattle.src_ast.specs.declared.fault.RefusalKind.TheVariants.{Main, Twice, Limit}
use Rattle.src_ast.specs.declared.fault.Quantity.TheVariants.{Procs}
use Rattle.src_ast.specs.Rules as rules
use Rattle.src_ast.specs.Rules.{declared_by, variables, parameter_rules, variable_rules, body_rules, rule}
use Rattle.src_check.specs.Names.{found, passes, or_else}
use Rattle.src_check.specs.Rule.{first_broken}
use Rattle.src_check.proofs.Broken.{before_broken, after_kept, leaves_in_memory, passes_on, stop_as}
use Rattle.src_check.proofs.Broken.{stop_before, stop_after, visible_where_found}
use Rattle.src_check.proofs.Parts.{procedure_rules_as, after_procedure}
use Rattle.src_check.proofs.Stands.{stands_same, stands_for_locals}
use Rattle.src_check.proofs.checker.Checker.procedure.Goals as goal
use Rattle.ws_words.proofs.Bools.{not_true}

pub returns-in_err-require-clause-rules : goal.returns-in_err-require-clause-rules
returns-in_err-require-clause-rules c = λ before b.
    leaves_in_memory _ _ _ c.from_residual.ensures.1
    (ap first_broken
    (procedure_rules_as before (record {
      name = c.args.name.now;
      params = c.args.params.now;
      vars = c.args.vars.now;
      body = view.statements c.args.stmts.now;
      ending =
          view.maybe_last c.args.last.now;
    }) _ c.args.self.now c.is_main-main.result _ refl
    c.is_main-main.ensures b refl)
    ∙ before_broken (rule c.args.name.now.place Main (not c.args.self.now.has_main) ∷ []) _ _
    c.in_err-require.ensures.rule)

pub returns-in_err-require-2-clause-rules : goal.returns-in_err-require-2-clause-rules
returns-in_err-require-2-clause-rules c = λ before b.
    let known = c.contains-known.ensures ∙ ap (λ t. passes (λ _. true) (found c.args.self.now.names.outer t))
    c.as_slice.ensures ∙ sym (visible_where_found c.args.name.now.text b.names) in
    leaves_in_memory _ _ _ c.from_residual-in_err-require-2.ensures.1
    (ap first_broken
    (procedure_rules_as before (record {
      name = c.args.name.now;
      params = c.args.params.now;
      vars = c.args.vars.now;
      body = view.statements c.args.stmts.now;
      ending =
          view.maybe_last c.args.last.now;
    }) _ c.args.self.now c.is_main-main.result _ known
    c.is_main-main.ensures b refl)
    ∙ after_kept (rule c.args.name.now.place Main (not c.args.self.now.has_main) ∷ []) _
    c.in_ok-require.ensures.rule
    ∙ before_broken (rule c.args.name.now.place Twice (not c.contains-known.result) ∷ []) _ _
    c.in_err-require-2.ensures.rule)

pub returns-in_err-require-3-clause-rules : goal.returns-in_err-require-3-clause-rules
returns-in_err-require-3-clause-rules c = λ before b.
    let known = c.contains-known.ensures ∙ ap (λ t. passes (λ _. true) (found c.args.self.now.names.outer t))
    c.as_slice.ensures ∙ sym (visible_where_found c.args.name.now.text b.names) in
    leaves_in_memory _ _ _ c.from_residual-in_err-require-3.ensures.1
    (ap first_broken
    (procedure_rules_as before (record {
      name = c.args.name.now;
      params = c.args.params.now;
      vars = c.args.vars.now;
      body = view.statements c.args.stmts.now;
      ending =
          view.maybe_last c.args.last.now;
    }) _ c.args.self.now c.is_main-main.result _ known
    c.is_main-main.ensures b refl)
    ∙ after_kept (rule c.args.name.now.place Main (not c.args.self.now.has_main) ∷ []) _
    c.in_ok-require.ensures.rule
    ∙ after_kept (rule c.args.name.now.place Twice (not c.contains-known.result) ∷ []) _
    c.in_ok-require-2.ensures.rule
    ∙ before_broken (rule c.args.name.now.place (Limit Procs) (nat_lt c.args.self.now.procedures 64) ∷ []) _ _
    c.in_err-require-3.ensures.rule)

pub returns-in_err-parameters-clause-rules : goal.returns-in_err-parameters-clause-rules
returns-in_err-parameters-clause-rules c = λ before b.
    let known = c.contains-known.ensures ∙ ap (λ t. passes (λ _. true) (found c.args.self.now.names.outer t))
    c.as_slice.ensures ∙ sym (visible_where_found c.args.name.now.text b.names) in
    let at_start = stands_same (λ text. ap (λ o. or_else o (found c.args.self.now.names.outer text))
    (c.new.ensures text)) b.names in
    passes_on _ _ _ c.from_residual-in_err-parameters.ensures.1
    (stop_as _ _ _
    (ap first_broken
    (procedure_rules_as before (record {
      name = c.args.name.now;
      params = c.args.params.now;
      vars = c.args.vars.now;
      body = view.statements c.args.stmts.now;
      ending =
          view.maybe_last c.args.last.now;
    }) _ c.args.self.now c.is_main-main.result _ known
    c.is_main-main.ensures b refl))
    (stop_after (rule c.args.name.now.place Main (not c.args.self.now.has_main) ∷ []) _ _
    c.in_ok-require.ensures.rule
    (stop_after (rule c.args.name.now.place Twice (not c.contains-known.result) ∷ []) _ _
    c.in_ok-require-2.ensures.rule
    (stop_after (rule c.args.name.now.place (Limit Procs) (nat_lt c.args.self.now.procedures 64) ∷ []) _ _
    c.in_ok-require-3.ensures.rule
    (stop_before (parameter_rules c.is_main-main.result (declared_by before) 0 c.args.params.now) _ _
    (c.in_err-parameters.ensures.rules (declared_by before) at_start))))))

pub returns-in_err-variables-clause-rules : goal.returns-in_err-variables-clause-rules
returns-in_err-variables-clause-rules c = λ before b.
    let known = c.contains-known.ensures ∙ ap (λ t. passes (λ _. true) (found c.args.self.now.names.outer t))
    c.as_slice.ensures ∙ sym (visible_where_found c.args.name.now.text b.names) in
    let at_start = stands_same (λ text. ap (λ o. or_else o (found c.args.self.now.names.outer text))
    (c.new.ensures text)) b.names in
    let with_params = c.in_ok-parameters.ensures.stands (declared_by before) at_start in
    passes_on _ _ _ c.from_residual-in_err-variables.ensures.1
    (stop_as _ _ _
    (ap first_broken
    (procedure_rules_as before (record {
      name = c.args.name.now;
      params = c.args.params.now;
      vars = c.args.vars.now;
      body = view.statements c.args.stmts.now;
      ending =
          view.maybe_last c.args.last.now;
    }) _ c.args.self.now c.is_main-main.result _ known
    c.is_main-main.ensures b refl))
    (stop_after (rule c.args.name.now.place Main (not c.args.self.now.has_main) ∷ []) _ _
    c.in_ok-require.ensures.rule
    (stop_after (rule c.args.name.now.place Twice (not c.contains-known.result) ∷ []) _ _
    c.in_ok-require-2.ensures.rule
    (stop_after (rule c.args.name.now.place (Limit Procs) (nat_lt c.args.self.now.procedures 64) ∷ []) _ _
    c.in_ok-require-3.ensures.rule
    (stop_after (parameter_rules c.is_main-main.result (declared_by before) 0 c.args.params.now) _ _
    (c.in_ok-parameters.ensures.rules (declared_by before) at_start)
    (stop_before (variable_rules (variables c.args.params.now ++ declared_by before)
    (length c.args.params.now) c.args.vars.now) _ _
    (c.in_err-variables.ensures.rules (variables c.args.params.now ++ declared_by before)
    with_params)))))))

pub returns-in_err-count-clause-rules : goal.returns-in_err-count-clause-rules
returns-in_err-count-clause-rules c = λ before b.
    let known = c.contains-known.ensures ∙ ap (λ t. passes (λ _. true) (found c.args.self.now.names.outer t))
    c.as_slice.ensures ∙ sym (visible_where_found c.args.name.now.text b.names) in
    let at_start = stands_same (λ text. ap (λ o. or_else o (found c.args.self.now.names.outer text))
    (c.new.ensures text)) b.names in
    let with_params = c.in_ok-parameters.ensures.stands (declared_by before) at_start in
    let with_vars = stands_for_locals c.args.params.now c.args.vars.now (declared_by before)
    (c.in_ok-variables.ensures.stands (variables c.args.params.now ++ declared_by before) with_params) in
    leaves_in_memory _ _ _ c.from_residual-in_err-count.ensures.1
    (ap first_broken
    (procedure_rules_as before (record {
      name = c.args.name.now;
      params = c.args.params.now;
      vars = c.args.vars.now;
      body = view.statements c.args.stmts.now;
      ending =
          view.maybe_last c.args.last.now;
    }) _ c.args.self.now c.is_main-main.result _ known
    c.is_main-main.ensures b refl)
    ∙ after_kept (rule c.args.name.now.place Main (not c.args.self.now.has_main) ∷ []) _
    c.in_ok-require.ensures.rule
    ∙ after_kept (rule c.args.name.now.place Twice (not c.contains-known.result) ∷ []) _
    c.in_ok-require-2.ensures.rule
    ∙ after_kept (rule c.args.name.now.place (Limit Procs) (nat_lt c.args.self.now.procedures 64) ∷ []) _
    c.in_ok-require-3.ensures.rule
    ∙ after_kept (parameter_rules c.is_main-main.result (declared_by before) 0 c.args.params.now) _
    (c.in_ok-parameters.ensures.rules (declared_by before) at_start)
    ∙ after_kept (variable_rules (variables c.args.params.now ++ declared_by before)
    (length c.args.params.now) c.args.vars.now) _
    (c.in_ok-variables.ensures.rules (variables c.args.params.now ++ declared_by before) with_params)
    ∙ before_broken (body_rules (variables (c.args.params.now ++ c.args.vars.now) ++ declared_by before)
    c.args.self.now.statements (view.statements c.args.stmts.now)) _ _
    (c.in_err-count.ensures.rules (variables (c.args.params.now ++ c.args.vars.now) ++ declared_by before)
    with_vars))

pub returns-in_err-count-2-clause-rules : goal.returns-in_err-count-2-clause-rules
returns-in_err-count-2-clause-rules c = λ before b.
    let known = c.contains-known.ensures ∙ ap (λ t. passes (λ _. true) (found c.args.self.now.names.outer t))
    c.as_slice.ensures ∙ sym (visible_where_found c.args.name.now.text b.names) in
    let at_start = stands_same (λ text. ap (λ o. or_else o (found c.args.self.now.names.outer text))
    (c.new.ensures text)) b.names in
    let with_params = c.in_ok-parameters.ensures.stands (declared_by before) at_start in
    let with_vars = stands_for_locals c.args.params.now c.args.vars.now (declared_by before)
    (c.in_ok-variables.ensures.stands (variables c.args.params.now ++ declared_by before) with_params) in
    leaves_in_memory _ _ _ c.from_residual-in_err-count-2.ensures.1
    (ap first_broken
    (procedure_rules_as before (record {
      name = c.args.name.now;
      params = c.args.params.now;
      vars = c.args.vars.now;
      body = view.statements c.args.stmts.now;
      ending =
          view.maybe_last c.args.last.now;
    }) _ c.args.self.now c.is_main-main.result _ known
    c.is_main-main.ensures b c.in_ok-count.ensures.count)
    ∙ after_kept (rule c.args.name.now.place Main (not c.args.self.now.has_main) ∷ []) _
    c.in_ok-require.ensures.rule
    ∙ after_kept (rule c.args.name.now.place Twice (not c.contains-known.result) ∷ []) _
    c.in_ok-require-2.ensures.rule
    ∙ after_kept (rule c.args.name.now.place (Limit Procs) (nat_lt c.args.self.now.procedures 64) ∷ []) _
    c.in_ok-require-3.ensures.rule
    ∙ after_kept (parameter_rules c.is_main-main.result (declared_by before) 0 c.args.params.now) _
    (c.in_ok-parameters.ensures.rules (declared_by before) at_start)
    ∙ after_kept (variable_rules (variables c.args.params.now ++ declared_by before)
    (length c.args.params.now) c.args.vars.now) _
    (c.in_ok-variables.ensures.rules (variables c.args.params.now ++ declared_by before) with_params)
    ∙ after_kept (body_rules (variables (c.args.params.now ++ c.args.vars.now) ++ declared_by before)
    c.args.self.now.statements (view.statements c.args.stmts.now)) _
    (c.in_ok-count.ensures.rules (variables (c.args.params.now ++ c.args.vars.now) ++ declared_by before)
    with_vars)
    ∙ c.in_err-count-2.ensures.rules (variables (c.args.params.now ++ c.args.vars.now) ++ declared_by before)
    with_vars)

pub returns-clause-rules : goal.returns-clause-rules
returns-clause-rules c = λ before b.
    let known = c.contains-known.ensures ∙ ap (λ t. passes (λ _. true) (found c.args.self.now.names.outer t))
    c.as_slice.ensures ∙ sym (visible_where_found c.args.name.now.text b.names) in
    let at_start = stands_same (λ text. ap (λ o. or_else o (found c.args.self.now.names.outer text))
    (c.new.ensures text)) b.names in
    let with_params = c.in_ok-parameters.ensures.stands (declared_by before) at_start in
    let with_vars = stands_for_locals c.args.params.now c.args.vars.now (declared_by before)
    (c.in_ok-variables.ensures.stands (variables c.args.params.now ++ declared_by before) with_params) in
    ap first_broken
    (procedure_rules_as before (record {
      name = c.args.name.now;
      params = c.args.params.now;
      vars = c.args.vars.now;
      body = view.statements c.args.stmts.now;
      ending =
          view.maybe_last c.args.last.now;
    }) _ c.args.self.now c.is_main-main.result _ known
    c.is_main-main.ensures b c.in_ok-count.ensures.count)
    ∙ after_kept (rule c.args.name.now.place Main (not c.args.self.now.has_main) ∷ []) _
    c.in_ok-require.ensures.rule
    ∙ after_kept (rule c.args.name.now.place Twice (not c.contains-known.result) ∷ []) _
    c.in_ok-require-2.ensures.rule
    ∙ after_kept (rule c.args.name.now.place (Limit Procs) (nat_lt c.args.self.now.procedures 64) ∷ []) _
    c.in_ok-require-3.ensures.rule
    ∙ after_kept (parameter_rules c.is_main-main.result (declared_by before) 0 c.args.params.now) _
    (c.in_ok-parameters.ensures.rules (declared_by before) at_start)
    ∙ after_kept (variable_rules (variables c.args.params.now ++ declared_by before)
    (length c.args.params.now) c.args.vars.now) _
    (c.in_ok-variables.ensures.rules (variables c.args.params.now ++ declared_by before) with_params)
    ∙ after_kept (body_rules (variables (c.args.params.now ++ c.args.vars.now) ++ declared_by before)
    c.args.self.now.statements (view.statements c.args.stmts.now)) _
    (c.in_ok-count.ensures.rules (variables (c.args.params.now ++ c.args.vars.now) ++ declared_by before)
    with_vars)
    ∙ c.in_ok-count-2.ensures.rules (variables (c.args.params.now ++ c.args.vars.now) ++ declared_by before)
    with_vars

pub returns-clause-after : goal.returns-clause-after
returns-clause-after c = λ before b.
    let outer = c.in_ok-variables.ensures.outer ∙ c.in_ok-parameters.ensures.outer in
    after_procedure c.args.self.now _ before b (record {
      name = c.args.name.now;
      params = c.args.params.now;
      vars = c.args.vars.now;
      body = view.statements c.args.stmts.now;
      ending =
          view.maybe_last c.args.last.now;
    }) c.in_ok-count.count
    (sym (c.contains-known.ensures ∙ ap (λ t. passes (λ _. true) (found c.args.self.now.names.outer t))
    c.as_slice.ensures) ∙ not_true _ c.in_ok-require-2.ensures.kept)
    (not_true _ c.in_ok-require.ensures.kept)
    (λ text. c.in_ok-put.ensures.ok text ∙ ap (λ t. if pointwise nat_eq c.args.name.now.text text
    then Some (rules.procedure (length c.args.params.now)) else found t text) outer)
    refl refl refl c.in_ok-count.ensures.count c.in_ok-count-2.ensures.count c.is_main-main.ensures
