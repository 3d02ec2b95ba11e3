use Rattle.std.proofs.Common.{◌≡◌, ◌<◌, length, map}
use Rattle.src_ast.specs.View as view
use Rattle.src_parse.specs.Expressions.{expression_at}
use Rattle.src_parse.specs.Lists.{separated_at, going_on}
use Rattle.src_parse.proofs.list.expressions.Given as goal

abbrev pub invariant-items : goal.invariant-items
invariant-items l = record {
  shorter : length l.rest < length l.fn.lexemes;
  same : separated_at (expression_at 0) l.fn.lexemes ≡ going_on (expression_at 0)
      (map view.expression l.all.items) l.rest;
}

abbrev pub decreases-items : goal.decreases-items
decreases-items l = length l.rest
