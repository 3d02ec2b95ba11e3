use Rattle.std.proofs.Common.{arith}
use Rattle.multi_wave.proofs.Turns.{all_few, all_more, all_stay, in_step_start}
use Rattle.multi_wave.proofs.crew.ThreadCrew.run_on.Goals as goal

pub loop-phases-init : goal.loop-phases-init
loop-phases-init g c = record {
  step = (
    in_step_start c.args.lanes.first,
    in_step_start c.args.lanes.second,
    in_step_start c.args.lanes.third,
    in_step_start c.args.lanes.fourth,
  );
  few = λ cost most. omega arith;
}

pub loop-phases-preserved : goal.loop-phases-preserved
loop-phases-preserved g c =
    let phases = c.loop-phases.phases in
    let parts = g.M.FourParts.parts in
    let lanes = c.settle_all-lanes.result in
    let settled = c.settle_all-lanes.ensures.settled in
    let step = all_stay phases c.loop-phases.lanes lanes c.settle_all-lanes.ensures.same
    c.loop-phases.invariant.step in
    record {
      step = all_more phases parts lanes settled step c.round-lanes.result c.round-lanes.ensures;
      few = λ cost most. (let few = all_few phases parts lanes settled step cost most
          (c.any_going.ensures.some c.if-not-any_going.false) in omega (arith, few));
    }

pub returns-clause-few : goal.returns-clause-few
returns-clause-few g c = λ cost most.
    (let few = c.loop-phases.invariant.few cost most in
    let end = c.loop-phases-test.false in omega (arith, few, end))
