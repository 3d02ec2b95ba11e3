use Rattle.std.proofs.Common.{◌≡◌, [], take, drop}
use Rattle.src_ast.specs.View as view
use Rattle.src_ast.specs.Rules.{rules_after}
use Rattle.src_check.specs.After.{IsAfter}
use Rattle.src_check.specs.Rule.{first_broken}
use Rattle.src_check.proofs.checker.keeps_rules.Given as goal

-- the arrays and procedures that are left decide, after those before them
abbrev pub invariant-loop-item : goal.invariant-loop-item
invariant-loop-item l = record {
  rules : first_broken (rules_after [] (view.parts l.program.items.items)) ≡ first_broken
      (rules_after (view.parts (take l.item-index l.program.items.items))
      (view.parts (drop l.item-index l.program.items.items)));
  following : IsAfter l.checker (view.parts (take l.item-index l.program.items.items));
}
