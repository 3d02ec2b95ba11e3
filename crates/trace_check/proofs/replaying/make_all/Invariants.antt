use Rattle.std.proofs.Common.{◌≡◌, take}
use Rattle.trace_check.specs.Replays.{events_of}
use Rattle.trace_check.proofs.Making.{LedAlong}
use Rattle.trace_check.proofs.replaying.make_all.Given as goal
use Rattle.df_core.specs.Cores.{IsRunning, gone}

abbrev pub invariant-loop-event : goal.invariant-loop-event
invariant-loop-event l = record {
  core : IsRunning l.core;
  gone : gone l.core ≡ gone l.initial.core;
  made : LedAlong (events_of (take l.event-index l.events)) l.initial.core l.core;
}
