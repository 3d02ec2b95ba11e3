use Rattle.std.proofs.Common.{◌≡◌, ◌≤◌, length}
use Rattle.src_parse.specs.Reading.{before}
use Rattle.src_parse.specs.Programs.{vars_at}
use Rattle.src_parse.proofs.procedure.variables.Given as goal

abbrev pub invariant-lines : goal.invariant-lines
invariant-lines l = record {
  shorter : length l.rest ≤ length l.fn.lexemes;
  same : vars_at l.fn.lexemes ≡ before l.all.items (vars_at l.rest);
}

abbrev pub decreases-lines : goal.decreases-lines
decreases-lines l = length l.rest
