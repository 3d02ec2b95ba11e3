use Rattle.std.proofs.Common.{[], ◌∙◌, refl, arith}
use Rattle.df_core.specs.Core.{Issue}
use Rattle.df_core.specs.Places.{image_of}
use Rattle.df_core.specs.Flows.{asked_at}
use Rattle.df_core.proofs.Parts.Driving.{alone, going_on, follows_none, follows_on, leads_on}
use Rattle.df_core.proofs.Sizes.Steady.{same_parts}
use Rattle.df_core.proofs.drive.issue_next.Goals as goal

pub loop-place-init : goal.loop-place-init
loop-place-init c = record {
  follows = follows_none (image_of c.args.program.now) c.args.flow.now;
  room = λ n r. r;
  weight = omega arith;
  count = refl;
  gone = refl;
}

pub loop-place-preserved : goal.loop-place-preserved
loop-place-preserved c = record {
  follows = follows_on (image_of c.args.program.now) c.args.flow.now c.loop-place.flow c.issue.new.self
      c.loop-place.invariant.follows
      (leads_on (image_of c.args.program.now) (Issue (asked_at c.loop-place.flow c.in-Some.place).wave
      (asked_at c.loop-place.flow c.in-Some.place).instr) c.loop-place.flow c.loop-place.flow
      c.issue.new.self (same_parts c.loop-place.flow) c.issue.ensures.leads);
  room = λ n r. c.issue.ensures.room n (c.loop-place.invariant.room n r);
  weight = omega (arith, c.issue.ensures.weight, c.loop-place.invariant.weight);
  count = c.issue.ensures.count ∙ c.loop-place.invariant.count;
  gone = c.issue.ensures.gone ∙ c.loop-place.invariant.gone;
}

pub issue-requires-clause-room : goal.issue-requires-clause-room
issue-requires-clause-room c = c.loop-place.invariant.room 0 c.requires.room

pub issue-requires-clause-going : goal.issue-requires-clause-going
issue-requires-clause-going c = alone (image_of c.args.program.now) [] _
    (going_on (image_of c.args.program.now) c.args.flow.now c.loop-place.flow c.requires.going
    c.loop-place.invariant.follows)
