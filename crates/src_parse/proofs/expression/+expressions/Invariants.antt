-- Each call is on fewer lexemes, or on as many by a function further down.
use Rattle.std.proofs.Common.{◌≡◌, ◌+◌, ◌*◌, ◌<◌, length}
use Rattle.src_ast.specs.View as view
use Rattle.src_parse.specs.Expressions.{expression_at, operators_at}
use Rattle.src_parse.proofs.expression.+expressions.Given as goal

abbrev pub decreases-expression : goal.decreases-expression
decreases-expression l = 4 * length l.lexemes.now + 1

abbrev pub decreases-named : goal.decreases-named
decreases-named l = 4 * length l.lexemes.now + 2

abbrev pub decreases-operand : goal.decreases-operand
decreases-operand l = 4 * length l.lexemes.now

abbrev pub decreases-operand_of : goal.decreases-operand_of
decreases-operand_of l = 4 * length l.rest.now + 3

abbrev pub decreases-signed : goal.decreases-signed
decreases-signed l = 4 * length l.lexemes.now + 1

abbrev pub invariant-expression-loop-op : goal.invariant-expression-loop-op
invariant-expression-loop-op l = record {
  shorter : length l.rest < length l.fn.lexemes;
  same : expression_at l.min l.fn.lexemes ≡ operators_at l.min (view.expression l.left) l.rest;
}

abbrev pub decreases-expression-loop-op : goal.decreases-expression-loop-op
decreases-expression-loop-op l = length l.rest
