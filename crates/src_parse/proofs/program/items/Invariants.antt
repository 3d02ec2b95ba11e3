use Rattle.std.proofs.Common.{◌≡◌, length}
use Rattle.src_ast.specs.View as view
use Rattle.src_parse.specs.Reading.{before}
use Rattle.src_parse.specs.Programs.{program_at}
use Rattle.src_parse.proofs.program.items.Given as goal

abbrev pub invariant-items : goal.invariant-items
invariant-items l = program_at l.fn.lexemes ≡ before (view.parts l.all.items) (program_at l.rest)

abbrev pub decreases-items : goal.decreases-items
decreases-items l = length l.rest
