use Rattle.std.proofs.Common.{List, sym, subst}
use Rattle.df_core.specs.declared.engine.Event.{Event}
use Rattle.df_core.specs.Cores.{event_of}
use Rattle.trace_check.specs.Recorded.{MakesEvents}
use Rattle.trace_check.proofs.Led.{none_led, one_led, next_enabled}
use Rattle.trace_check.proofs.recording.make_events.Goals as goal

pub loop-init : goal.loop-init
loop-init c = record {
  core = c.requires;
  made = subst (λ (es : List Event). MakesEvents c.args.budget es c.args.core.now c.args.core.now)
      (sym c.empty-events.ensures) (none_led c.args.core.now c.args.budget);
}

pub loop-preserved : goal.loop-preserved
loop-preserved c = record {
  core = c.in_ok-make.ensures.core;
  made = subst (λ (es : List Event). MakesEvents c.args.budget es c.args.core.now c.make.new.core)
      (sym c.in_ok-push.ensures)
      (one_led c.loop.events c.in-Some.event c.args.budget c.args.core.now c.loop.core c.make.new.core
      c.loop.invariant.made c.in-Some.ensures c.in_ok-make.ensures.made);
}

pub make-requires-clause-enabled : goal.make-requires-clause-enabled
make-requires-clause-enabled c = next_enabled (event_of c.in-Some.event) c.args.budget c.loop.core
    c.in-Some.ensures
