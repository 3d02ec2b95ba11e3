use Rattle.trace_check.proofs.Written.{fit_more, text_more}
use Rattle.trace_check.proofs.write.put_events.Goals as goal

pub loop-event-preserved : goal.loop-event-preserved
loop-event-preserved c = record {
  text = text_more c.args.events.now c.loop-event.event-index _ c.args.text.now c.loop-event.text
      c.put_event.new.text c.loop-event-test.true c.loop-event.invariant.text c.in_ok-put_event.ensures.text;
  fit = fit_more c.args.events.now c.loop-event.event-index _ c.loop-event-test.true
      c.loop-event.invariant.fit c.in_ok-put_event.ensures.fit;
}
