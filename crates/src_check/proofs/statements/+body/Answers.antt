use Rattle.std.proofs.Common.{◌∙◌, ◌+◌, sym, ap, refl, List, [], ◌∷◌, drop, arith}
use Rattle.std.proofs.Math.ListN.{drop_of_length-le}
use Rattle.std.proofs.lemmas.Result.{IfOk-weaker}
use Rattle.src_ast.specs.declared.tree.Stmt.{Stmt}
use Rattle.src_ast.specs.Rules.{expression_rules, statement_rule, body_rules, statement_rules, size_of_all}
use Rattle.src_ast.specs.View as view
use Rattle.src_check.specs.Rule.{first_broken}
use Rattle.src_check.proofs.Blocks.{if_rules, if_size, while_rules, while_size}
use Rattle.src_check.proofs.Broken.{before_broken, after_kept, answers_after, leaves, keeps_as}
use Rattle.src_check.proofs.Steps.{drop_next}
use Rattle.src_check.proofs.statements.+body.Goals as goal

pub statement-returns-in_err-count-in-If-clause-rules : goal.statement-returns-in_err-count-in-If-clause-rules
statement-returns-in_err-count-in-If-clause-rules t c = λ visible st.
    leaves _ _ _ c.from_residual.ensures.1
    (ap first_broken (if_rules c.args.stmt.now c.in-If.test visible c.args.before _ _ c.in-If.first
    c.in-If.second _ _ c.in-If.is refl refl refl refl)
    ∙ before_broken (statement_rule c.args.before c.args.stmt.now.place ∷ []) _ _
    c.in_err-count-in-If.ensures.rules)

pub statement-returns-in_err-expression-in-If-clause-rules :
    goal.statement-returns-in_err-expression-in-If-clause-rules
statement-returns-in_err-expression-in-If-clause-rules t c = λ visible st.
    leaves _ _ _ c.from_residual-in_err-expression-in-If.ensures.1
    (ap first_broken (if_rules c.args.stmt.now c.in-If.test visible c.args.before _ _ c.in-If.first
    c.in-If.second _ _ c.in-If.is refl refl refl refl)
    ∙ after_kept (statement_rule c.args.before c.args.stmt.now.place ∷ []) _ c.in_ok-count-in-If.ensures.rules
    ∙ before_broken (expression_rules visible (view.expression c.in-If.test)) _ _
    (c.in_err-expression-in-If.ensures visible st))

pub statement-returns-in_err-count-in-If-2-clause-rules :
    goal.statement-returns-in_err-count-in-If-2-clause-rules
statement-returns-in_err-count-in-If-2-clause-rules t c = λ visible st.
    leaves _ _ _ c.from_residual-in_err-count-in-If-2.ensures.1
    (ap first_broken (if_rules c.args.stmt.now c.in-If.test visible c.args.before _ _ c.in-If.first
    c.in-If.second _ _ c.in-If.is c.deref-in-If.ensures.value refl c.in_ok-count-in-If.ensures.count refl)
    ∙ after_kept (statement_rule c.args.before c.args.stmt.now.place ∷ []) _ c.in_ok-count-in-If.ensures.rules
    ∙ after_kept (expression_rules visible (view.expression c.in-If.test)) _
    (c.in_ok-expression-in-If.ensures visible st)
    ∙ before_broken (body_rules visible c.in_ok-count-in-If.count (view.statements c.deref-in-If.result.now))
    _ _ (c.in_err-count-in-If-2.ensures.rules visible st))

pub statement-returns-in_ok-count-in-If-2-clause-rules :
    goal.statement-returns-in_ok-count-in-If-2-clause-rules
statement-returns-in_ok-count-in-If-2-clause-rules t c = λ visible st.
    keeps_as _ _ _ (if_rules c.args.stmt.now c.in-If.test visible c.args.before c.in_ok-count-in-If.count
    c.in_ok-count-in-If-2.count c.in-If.first c.in-If.second _ _ c.in-If.is c.deref-in-If.ensures.value
    c.deref-in-If-2.ensures.value c.in_ok-count-in-If.ensures.count c.in_ok-count-in-If-2.ensures.count)
    (answers_after (statement_rule c.args.before c.args.stmt.now.place ∷ []) _ _
    c.in_ok-count-in-If.ensures.rules
    (answers_after (expression_rules visible (view.expression c.in-If.test)) _ _
    (c.in_ok-expression-in-If.ensures visible st)
    (answers_after (body_rules visible c.in_ok-count-in-If.count (view.statements c.deref-in-If.result.now)) _
    _ (c.in_ok-count-in-If-2.ensures.rules visible st)
    (c.body-in-If.ensures.rules visible st))))

pub statement-returns-in_err-count-in-While-clause-rules :
    goal.statement-returns-in_err-count-in-While-clause-rules
statement-returns-in_err-count-in-While-clause-rules t c = λ visible st.
    leaves _ _ _ c.from_residual-in_err-count-in-While.ensures.1
    (ap first_broken (while_rules c.args.stmt.now c.in-While.test visible c.args.before _ c.in-While.inner _
    c.in-While.is refl refl)
    ∙ before_broken (statement_rule c.args.before c.args.stmt.now.place ∷ []) _ _
    c.in_err-count-in-While.ensures.rules)

pub statement-returns-in_err-expression-in-While-clause-rules :
    goal.statement-returns-in_err-expression-in-While-clause-rules
statement-returns-in_err-expression-in-While-clause-rules t c = λ visible st.
    leaves _ _ _ c.from_residual-in_err-expression-in-While.ensures.1
    (ap first_broken (while_rules c.args.stmt.now c.in-While.test visible c.args.before _ c.in-While.inner _
    c.in-While.is refl refl)
    ∙ after_kept (statement_rule c.args.before c.args.stmt.now.place ∷ []) _
    c.in_ok-count-in-While.ensures.rules
    ∙ before_broken (expression_rules visible (view.expression c.in-While.test)) _ _
    (c.in_err-expression-in-While.ensures visible st))

pub statement-returns-in_ok-expression-in-While-clause-rules :
    goal.statement-returns-in_ok-expression-in-While-clause-rules
statement-returns-in_ok-expression-in-While-clause-rules t c = λ visible st.
    keeps_as _ _ _ (while_rules c.args.stmt.now c.in-While.test visible c.args.before
    c.in_ok-count-in-While.count c.in-While.inner _ c.in-While.is c.deref-in-While.ensures.value
    c.in_ok-count-in-While.ensures.count)
    (answers_after (statement_rule c.args.before c.args.stmt.now.place ∷ []) _ _
    c.in_ok-count-in-While.ensures.rules
    (answers_after (expression_rules visible (view.expression c.in-While.test)) _ _
    (c.in_ok-expression-in-While.ensures visible st)
    (c.body-in-While.ensures.rules visible st)))

pub statement-returns-in_ok-count-in-If-2-clause-count :
    goal.statement-returns-in_ok-count-in-If-2-clause-count
statement-returns-in_ok-count-in-If-2-clause-count t c =
    IfOk-weaker _ _ _ (λ after is. if_size c.args.stmt.now c.in-If.test c.args.before
    c.in_ok-count-in-If.count c.in_ok-count-in-If-2.count after c.in-If.first c.in-If.second _ _
    c.in-If.is c.deref-in-If.ensures.value c.deref-in-If-2.ensures.value c.in_ok-count-in-If.ensures.count
    c.in_ok-count-in-If-2.ensures.count is)
    c.body-in-If.ensures.count

pub statement-returns-in_ok-expression-in-While-clause-count :
    goal.statement-returns-in_ok-expression-in-While-clause-count
statement-returns-in_ok-expression-in-While-clause-count t c =
    IfOk-weaker _ _ _ (λ after is. while_size c.args.stmt.now c.in-While.test c.args.before
    c.in_ok-count-in-While.count after c.in-While.inner _ c.in-While.is c.deref-in-While.ensures.value
    c.in_ok-count-in-While.ensures.count is)
    c.body-in-While.ensures.count

pub body-returns-in_err-count-clause-rules : goal.body-returns-in_err-count-clause-rules
body-returns-in_err-count-clause-rules t c = λ visible st.
    leaves _ _ _ c.from_residual.ensures.1
    (c.loop-stmt.invariant.rules visible st
    ∙ ap (λ (l : List Stmt). first_broken (body_rules visible c.loop-stmt.count (view.statements l)))
    (drop_next c.args.stmts.now c.loop-stmt.stmt-index c.stmt-item.result (omega arith) c.stmt-item.is)
    ∙ before_broken (statement_rules visible c.loop-stmt.count (view.statement c.stmt-item.result)) _ _
    (c.in_err-count.ensures.rules visible st))

pub body-loop-stmt-preserved : goal.body-loop-stmt-preserved
body-loop-stmt-preserved t c =
    let left = drop_next c.args.stmts.now c.loop-stmt.stmt-index c.stmt-item.result (omega arith)
    c.stmt-item.is in
    let counted = ap (λ (l : List Stmt). size_of_all (view.statements l)) left in
    record {
      rules = λ visible st.
          c.loop-stmt.invariant.rules visible st
          ∙ ap (λ (l : List Stmt). first_broken (body_rules visible c.loop-stmt.count (view.statements l)))
          left
          ∙ after_kept (statement_rules visible c.loop-stmt.count (view.statement c.stmt-item.result)) _
          (c.in_ok-count.ensures.rules visible st)
          ∙ ap (λ k.
          first_broken
          (body_rules visible k (view.statements (drop (c.loop-stmt.stmt-index + 1) c.args.stmts.now))))
          (sym c.in_ok-count.ensures.count);
      count = omega (arith, counted, c.in_ok-count.ensures.count, c.loop-stmt.invariant.count);
    }

pub body-returns-clause-rules : goal.body-returns-clause-rules
unfolding first_broken
body-returns-clause-rules t c = λ visible st.
    c.loop-stmt.invariant.rules visible st
    ∙ ap (λ (l : List Stmt). first_broken (body_rules visible c.loop-stmt.count (view.statements l)))
    (drop_of_length-le c.args.stmts.now {i = c.loop-stmt.stmt-index} c.loop-stmt-test.false)
