use Rattle.std.proofs.Common.{◌≡◌, ◌++◌, take}
use Rattle.std.specs.Prelude.{flat_map}
use Rattle.trace_check.specs.Traces.{event_line, AllFit}
use Rattle.trace_check.proofs.write.put_events.Given as goal

abbrev pub invariant-loop-event : goal.invariant-loop-event
invariant-loop-event l = record {
  text : l.text ≡ l.initial.text ++ flat_map event_line (take l.event-index l.events);
  fit : AllFit (take l.event-index l.events);
}
