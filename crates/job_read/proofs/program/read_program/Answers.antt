use Rattle.std.proofs.Common.{subst, sym}
use Rattle.src_ast.specs.View as view
use Rattle.src_ast.specs.Rules.{IsAccepted, IsCheckFault}
use Rattle.job_read.proofs.Programs.{lex_fault, syntax_fault, rule_fault, same_lexemes, err_lexemes}
use Rattle.job_read.proofs.Programs.{err_tree, err_check, tree_of}
use Rattle.job_read.proofs.program.read_program.Goals as goal

pub returns-in-Err-clause-only : goal.returns-in-Err-clause-only
returns-in-Err-clause-only c = err_lexemes _ _ c.in-Err.ensures.only

pub returns-in-Err-clause-refused : goal.returns-in-Err-clause-refused
returns-in-Err-clause-refused c = lex_fault _ _ c.in-Err.ensures.refused

pub returns-in-Err-parse-clause-only : goal.returns-in-Err-parse-clause-only
returns-in-Err-parse-clause-only c = err_tree _ _ _ _ (same_lexemes _ c.in-Ok.lexemes c.in-Ok.ensures.only)
    c.in-Err-parse.ensures.only

pub returns-in-Err-parse-clause-refused : goal.returns-in-Err-parse-clause-refused
returns-in-Err-parse-clause-refused c = syntax_fault _ _ _ _ c.in-Ok.ensures.found c.in-Ok.ensures.kept
    c.in-Err-parse.ensures.refused

pub returns-in-Ok-check-clause-only : goal.returns-in-Ok-check-clause-only
returns-in-Ok-check-clause-only c parts r = rw c.in-Ok-check.ensures.ok (c.in-Ok-parse.ensures.only parts
    (tree_of _ _ _ parts (same_lexemes _ c.in-Ok.lexemes c.in-Ok.ensures.only) r))

pub returns-clause-only : goal.returns-clause-only
returns-clause-only c = err_check _ _ _ (view.parts c.in-Ok-parse.tree.items.items) _ (same_lexemes _
    c.in-Ok.lexemes c.in-Ok.ensures.only) c.in-Ok-parse.ensures.only (λ a. c.in-Err-check.ensures.only (subst
    (λ p. IsAccepted (view.parts c.in-Ok-parse.tree.items.items) p) (sym c.in-Ok-parse.ensures.finish) a))

pub returns-clause-refused : goal.returns-clause-refused
returns-clause-refused c = rule_fault _ _ _ _ _ c.in-Ok.ensures.found c.in-Ok.ensures.kept
    c.in-Ok-parse.ensures.found (subst (λ p. IsCheckFault (view.parts c.in-Ok-parse.tree.items.items) p
    c.in-Err-check.fault) c.in-Ok-parse.ensures.finish c.in-Err-check.ensures.refused)
