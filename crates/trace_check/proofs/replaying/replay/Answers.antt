use Rattle.std.proofs.Common.{ℕ, List, drop, sym, ap, subst, ◌∙◌}
use Rattle.ws_words.specs.Outside.{printed_words}
use Rattle.ws_words.specs.Plain.{world_of}
use Rattle.df_core.specs.Core.{Run, core_opening}
use Rattle.trace_check.specs.declared.events.Lined.{Lined}
use Rattle.trace_check.specs.Replays.{events_of}
use Rattle.trace_check.proofs.Telling.{Facts, fault_told, replay_told, rest_told}
use Rattle.trace_check.proofs.replaying.replay.Goals as goal

pub returns-in-Err-clause-refused : goal.returns-in-Err-clause-refused
returns-in-Err-clause-refused c =
    fault_told c.args.image.now (world_of c.args.world.now) c.in_ok-core.core c.args.trace.now
    c.as_slice.result.now c.in-Err.fault
    c.as_slice.ensures c.in_ok-core.ensures.opening c.in-Err.ensures.refused

pub returns-clause-replayed : goal.returns-clause-replayed
returns-clause-replayed c =
    let image = c.args.image.now in
    let world = world_of c.args.world.now in
    let made = c.in_default.ensures.made image world (core_opening image world)
    c.in_ok-core.ensures.opening in
    let s = made.0 in
    let at = made.2 in
    let run : Run image (core_opening image world) (events_of c.args.trace.now) s =
    subst (λ (ls : List Lined). Run image (core_opening image world) (events_of ls) s) c.as_slice.ensures
    made.1 in
    let reached = c.every_list_of_events.ensures.reach image world at.formed at.sound s
    (events_of c.args.trace.now, run) in
    let facts : Facts image world s = record {
      fit = reached.0;
      ends = c.every_list_of_events.ensures.rest image world at.formed at.sound s reached.0;
      all = c.counts.ensures.rest image world at.formed at.sound s reached.0;
      some = c.counts.ensures.fired image world at.formed at.sound s reached.0 reached.2;
      goes = c.walks_go_on.ensures.instances image world;
      one = c.effects_are_one.ensures image world;
    } in
    replay_told image world c.args.trace.now _ s run facts
    (c.fired.ensures.state image world s at)
    (sym (c.printed.ensures.state image world s at
    ∙ ap (λ (n : ℕ). drop n (printed_words s.memory.acts))
    (c.make_all.ensures.gone ∙ c.in_ok-core.ensures.gone))
    ∙ sym c.in_ok-from_slice.ensures)
    (rest_told c.pick.result c.is_none.result c.make_all.new.core c.is_none.ensures c.pick.ensures image world
    s at)
