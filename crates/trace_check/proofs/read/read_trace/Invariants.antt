use Rattle.std.proofs.Common.{◌≡◌, ◌+◌, ◌≤◌, ◌^◌, length}
use Rattle.asm_text.specs.Reading.{lines_of}
use Rattle.trace_check.specs.Traces.{behind, events_from, events_in}
use Rattle.trace_check.proofs.read.read_trace.Given as goal

abbrev pub invariant-lines : goal.invariant-lines
invariant-lines l = record {
  same : behind l.trace (events_from l.line (lines_of l.rest)) ≡ events_in l.first_line l.text;
  few : l.line + length (lines_of l.rest) ≤ 2 ^ 32;
}

abbrev pub decreases-lines : goal.decreases-lines
decreases-lines l = length l.rest
