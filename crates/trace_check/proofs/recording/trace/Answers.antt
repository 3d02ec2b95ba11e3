use Rattle.ws_words.specs.Plain.{world_of}
use Rattle.df_core.specs.Cores.{event_of}
use Rattle.std.proofs.Common.{map}
use Rattle.df_core.specs.Core.{core_opening}
use Rattle.trace_check.proofs.Led.{Facts, traces_so, opened, led_run}
use Rattle.trace_check.proofs.recording.trace.Goals as goal

pub returns : goal.returns
returns c =
    let image = c.args.image.now in
    let world = world_of c.args.world.now in
    let led = c.in_ok-events.ensures.leads image world (core_opening image world) c.in_ok-core.ensures.opening
    (opened image world c.args.budget) in
    let s = led.state in
    let run = led_run image world (core_opening image world) c.args.budget c.in_ok-events.events
    c.make_events.new.core led in
    let reached = c.every_list_of_events.ensures.reach image world led.at.formed led.at.sound s
    (map event_of c.in_ok-events.events, run) in
    let facts : Facts image world s = record {
      ends = c.every_list_of_events.ensures.rest image world led.at.formed led.at.sound s reached.0;
      stopped = c.every_list_of_events.ensures.stopped image world led.at.formed led.at.sound s reached.0;
      all = c.counts.ensures.rest image world led.at.formed led.at.sound s reached.0;
      way = c.counts.ensures.way image world led.at.formed led.at.sound s reached.0 reached.2;
    } in
    traces_so image world c.args.budget s facts c.in_ok-events.events run led.within c.end_of-end.result
    (c.end_of-end.ensures image world s led.at led.within)
