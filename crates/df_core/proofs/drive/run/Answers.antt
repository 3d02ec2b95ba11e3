use Rattle.std.proofs.Common.{[], ◌≡◌, ◌+◌, ◌-◌, ◌∙◌, refl, sym, ap, subst, is_some, false, arith}
use Rattle.df_core.specs.Core.{Issue}
use Rattle.df_core.specs.declared.drive.Finish.{Finish}
use Rattle.df_core.specs.Places.{image_of}
use Rattle.df_core.specs.Flows.{asked_at, FlowFaultIs, FlowRoom}
use Rattle.df_core.specs.Finishes.{FinishIs}
use Rattle.df_core.proofs.Parts.Driving.{alone, follows_none, follows_on, going_on, leads_on, stands_still}
use Rattle.df_core.proofs.Parts.Driving.{none_may}
use Rattle.df_core.proofs.Sizes.Steady.{same_parts, room_less}
use Rattle.df_core.proofs.drive.run.Goals as goal

pub loop-flow-init : goal.loop-flow-init
loop-flow-init c = record {
  follows = follows_none (image_of c.args.program.now) c.args.flow.now;
  room = c.requires.room;
  within = c.requires.fired;
  kept = λ n m e r. room_less c.args.flow.now n m (omega arith) r;
  gone = refl;
}

pub returns-in-Some-clause-finish : goal.returns-in-Some-clause-finish
returns-in-Some-clause-finish c = λ world s formed sound h.
    let r = c.loop-flow.invariant.follows world s formed sound h in (
      r.0,
      r.1,
      r.2,
      (
        r.2.stopped_is ∙ ap is_some c.in-Some.is,
        subst (FlowFaultIs (image_of c.args.program.now) world)
            c.in-Some.is r.2.fault_is,
      ),
    )

pub loop-flow-preserved-in-Some-issuable : goal.loop-flow-preserved-in-Some-issuable
loop-flow-preserved-in-Some-issuable c =
    let image = image_of c.args.program.now in
    let flow = c.loop-flow.flow in
    let place = c.in-Some-issuable.place in
    record {
      follows = follows_on image c.args.flow.now flow c.issue.new.self c.loop-flow.invariant.follows
          (leads_on image (Issue (asked_at flow place).wave (asked_at flow place).instr) flow flow
          c.issue.new.self (same_parts flow) c.issue.ensures.leads);
      room = subst (λ n. FlowRoom c.issue.new.self 0 (c.args.budget - n)) (sym c.issue.ensures.count)
          (c.issue.ensures.room (c.args.budget - flow.fired) c.loop-flow.invariant.room);
      within = omega (arith, c.loop-flow.invariant.within, c.issue.ensures.count);
      kept = λ n m e r. c.issue.ensures.room m
          (c.loop-flow.invariant.kept n m (omega (arith, e, c.issue.ensures.count)) r);
      gone = c.issue.ensures.gone ∙ c.loop-flow.invariant.gone;
    }

pub returns-in-None-clause-finish : goal.returns-in-None-clause-finish
returns-in-None-clause-finish c = λ world s formed sound h.
    let image = image_of c.args.program.now in
    let flow = c.loop-flow.flow in
    let r = c.loop-flow.invariant.follows world s formed sound h in
    let going : is_some flow.fault ≡ false = ap is_some c.in_default.is in (
      r.0,
      r.1,
      r.2,
      subst (λ (f : Finish). FinishIs image world c.args.budget f r.0) (sym c.stopped_at.ensures)
          (stands_still image world flow r.0 c.args.budget formed sound r.2 going
          (none_may image flow going c.in-None.ensures) c.loop-flow.invariant.within
          (c.is_still.ensures.still c.if-is_still.true)),
    )

pub match_next-requires-clause-going : goal.match_next-requires-clause-going
match_next-requires-clause-going c = going_on (image_of c.args.program.now) c.args.flow.now c.loop-flow.flow
    c.requires.going c.loop-flow.invariant.follows

pub match_next-requires-clause-some : goal.match_next-requires-clause-some
match_next-requires-clause-some c = (c.is_still.ensures.going c.if-is_still.false).0

pub match_next-requires-clause-room : goal.match_next-requires-clause-room
match_next-requires-clause-room c = room_less c.loop-flow.flow (c.args.budget - c.loop-flow.flow.fired) 1
    (omega (arith, (c.is_still.ensures.going c.if-is_still.false).1)) c.loop-flow.invariant.room

pub loop-flow-preserved : goal.loop-flow-preserved
loop-flow-preserved c =
    let less = (c.is_still.ensures.going c.if-is_still.false).1 in
    record {
      follows = follows_on (image_of c.args.program.now) c.args.flow.now c.loop-flow.flow
          c.match_next.new.flow c.loop-flow.invariant.follows c.match_next.ensures.follows;
      room = c.match_next.ensures.room (c.args.budget - c.loop-flow.flow.fired)
          (c.args.budget - c.match_next.new.flow.fired)
          (omega (arith, c.match_next.ensures.count.0, c.match_next.ensures.count.1, less))
          c.loop-flow.invariant.room;
      within = omega (arith, c.match_next.ensures.count.1, less);
      kept = λ n m e r. (let k = m + c.match_next.new.flow.fired - c.loop-flow.flow.fired in
          c.match_next.ensures.room k m (omega (arith, c.match_next.ensures.count.0))
          (c.loop-flow.invariant.kept n k (omega (arith, e, c.match_next.ensures.count.0)) r));
      gone = c.match_next.ensures.gone ∙ c.loop-flow.invariant.gone;
    }

pub issue-requires-clause-going : goal.issue-requires-clause-going
issue-requires-clause-going c = alone (image_of c.args.program.now) [] _
    (going_on (image_of c.args.program.now) c.args.flow.now c.loop-flow.flow c.requires.going
    c.loop-flow.invariant.follows)
