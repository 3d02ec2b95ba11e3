use Rattle.std.proofs.Common.{◌≡◌, ◌<◌, length}
use Rattle.src_parse.specs.Reading.{name_at, before}
use Rattle.src_parse.specs.Lists.{separated_at, going_on}
use Rattle.src_parse.proofs.list.names.Given as goal

abbrev pub invariant-items : goal.invariant-items
invariant-items l = record {
  shorter : length l.rest < length l.fn.lexemes;
  same : before l.fn.all.items (separated_at name_at l.fn.lexemes) ≡ going_on name_at l.all.items l.rest;
}

abbrev pub decreases-items : goal.decreases-items
decreases-items l = length l.rest
