use Rattle.std.proofs.Common.{◌≡◌, List, map, drop}
use Rattle.src_ast.specs.View as view
use Rattle.src_ast.specs.Rules.{Declared, argument_rules}
use Rattle.src_check.specs.Names.{seen, StandsFor}
use Rattle.src_check.specs.Rule.{first_broken}
use Rattle.src_check.proofs.expressions.arguments.Given as goal

-- the arguments that are left decide
abbrev pub invariant-loop-expr : goal.invariant-loop-expr
invariant-loop-expr l = (visible : List Declared) → StandsFor (seen l.fn.names) visible →
    first_broken (argument_rules visible (map view.expression l.exprs)) ≡ first_broken
    (argument_rules visible (map view.expression (drop l.expr-index l.exprs)))
