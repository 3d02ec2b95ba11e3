use Rattle.std.proofs.Common.{◌+◌, ◌-◌, ◌≤◌, length}
use Rattle.ws_io.specs.Streams.{Takes}
use Rattle.ws_io.proofs.read.read_all.Given as goal

-- the text is what was taken so far
abbrev pub invariant-pieces : goal.invariant-pieces
invariant-pieces g l = record {
  within : length l.text ≤ l.limit;
  taken : Takes (g.S.Source.left l.fn.source) l.text (g.S.Source.left l.source);
  counted : g.S.Source.faults l.fn.source ≤ g.S.Source.faults l.source;
}

abbrev pub decreases-pieces : goal.decreases-pieces
decreases-pieces g l = l.limit + 1 - length l.text
