-- Each call is on fewer lexemes, or on as many by a function further down.
use Rattle.std.proofs.Common.{◌≡◌, ◌+◌, ◌*◌, ◌≤◌, length}
use Rattle.src_ast.specs.View as view
use Rattle.src_parse.specs.Statements.{statements_at, prefixed}
use Rattle.src_parse.proofs.statement.+statements.Given as goal

abbrev pub decreases-statements : goal.decreases-statements
decreases-statements l = 4 * length l.lexemes.now + 3

abbrev pub decreases-statement : goal.decreases-statement
decreases-statement l = 4 * length l.lexemes.now + 2

abbrev pub decreases-statement_after : goal.decreases-statement_after
decreases-statement_after l = 4 * length l.lexemes.now + 1

abbrev pub decreases-if_statement : goal.decreases-if_statement
decreases-if_statement l = 4 * length l.lexemes.now + 2

abbrev pub decreases-while_statement : goal.decreases-while_statement
decreases-while_statement l = 4 * length l.lexemes.now + 2

abbrev pub decreases-otherwise : goal.decreases-otherwise
decreases-otherwise l = 4 * length l.lexemes.now + 1

abbrev pub decreases-block : goal.decreases-block
decreases-block l = 4 * length l.lexemes.now

abbrev pub invariant-statements-items : goal.invariant-statements-items
invariant-statements-items l = record {
  shorter : length l.rest ≤ length l.fn.lexemes;
  same : statements_at l.fn.lexemes ≡ prefixed (view.statements l.all.items) (statements_at l.rest);
}

abbrev pub decreases-statements-items : goal.decreases-statements-items
decreases-statements-items l = length l.rest
