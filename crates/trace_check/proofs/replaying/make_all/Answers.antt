use Rattle.std.proofs.Common.{List, ap, subst, sym, ◌∙◌, refl, arith}
use Rattle.df_core.specs.Core.{Event}
use Rattle.trace_check.specs.Replays.{events_of}
use Rattle.trace_check.proofs.Making.{LedAlong, none_made, one_made, all_made, not_made, events_more}
use Rattle.trace_check.proofs.Making.{take_all}
use Rattle.trace_check.proofs.replaying.make_all.Goals as goal

pub loop-event-init : goal.loop-event-init
loop-event-init c = record {
  core = c.requires;
  gone = refl;
  made = none_made c.args.core.now;
}

pub loop-event-preserved : goal.loop-event-preserved
loop-event-preserved c = record {
  core = c.in_default.ensures.core;
  gone = c.in_default.ensures.gone ∙ c.loop-event.invariant.gone;
  made = subst (λ (es : List Event). LedAlong es c.args.core.now c.make.new.core)
      (sym (events_more c.args.events.now c.loop-event.event-index _ _ (omega arith) c.loop-event-test.true))
      (one_made _ _ c.args.core.now c.loop-event.core c.make.new.core c.loop-event.invariant.made
      c.in_default.ensures.made);
}

pub returns-in-Err-clause-refused : goal.returns-in-Err-clause-refused
returns-in-Err-clause-refused c =
    not_made c.args.events.now c.loop-event.event-index _ c.args.core.now c.loop-event.core c.in-Err.fault
    c.loop-event-test.true c.loop-event.invariant.made c.in-Err.ensures.refused

pub returns-clause-made : goal.returns-clause-made
returns-clause-made c =
    all_made c.args.events.now _ c.args.core.now c.loop-event.core
    (ap events_of (take_all c.args.events.now c.loop-event.event-index c.loop-event-test.false))
    c.loop-event.invariant.made
