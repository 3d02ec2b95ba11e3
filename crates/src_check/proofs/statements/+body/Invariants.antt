use Rattle.std.proofs.Common.{◌≡◌, ◌+◌, List, drop}
use Rattle.src_ast.specs.View as view
use Rattle.src_ast.specs.Rules.{Declared, body_rules, size_of_all}
use Rattle.src_check.specs.Names.{seen, StandsFor}
use Rattle.src_check.specs.Rule.{first_broken}
use Rattle.src_check.proofs.statements.+body.Given as goal

-- the statements that are left decide, after this many
abbrev pub invariant-body-loop-stmt : goal.invariant-body-loop-stmt
invariant-body-loop-stmt l = record {
  rules : (visible : List Declared) → StandsFor (seen l.fn.names) visible →
      first_broken (body_rules visible l.fn.before (view.statements l.stmts)) ≡ first_broken
      (body_rules visible l.count (view.statements (drop l.stmt-index l.stmts)));
  count : l.count + size_of_all (view.statements (drop l.stmt-index l.stmts)) ≡ l.fn.before + size_of_all
      (view.statements l.stmts);
}
