use Rattle.std.proofs.Common.{◌≡◌, ◌∙◌, ◌⊎◌, refl, sym, false, inl, inr, arith}
use Rattle.df_core.specs.Places.{image_of}
use Rattle.df_core.proofs.Parts.Driving.{follows_none, follows_on, going_on, same_follows, ended_follows}
use Rattle.df_core.proofs.Parts.Driving.{ended_on}
use Rattle.df_core.specs.Finishes.{is_budget}
use Rattle.df_core.proofs.drive.run_on.Goals.{then-until-budget-via-then-until-budget}
use Rattle.df_core.proofs.drive.run_on.Goals.{then-until-budget-via-else-until-budget+then-not-is_budget}
use Rattle.df_core.proofs.drive.run_on.Goals as goal

pub loop-flow-init : goal.loop-flow-init
loop-flow-init c = record {
  follows = follows_none (image_of c.args.program.now) c.args.flow.now;
  within = c.requires.fired;
  gone = refl;
}

pub run-finish-requires-clause-going : goal.run-finish-requires-clause-going
run-finish-requires-clause-going c =
    let image = image_of c.args.program.now in
    going_on image c.args.flow.now c.prepare.new.self c.requires.going
    (follows_on image c.args.flow.now c.loop-flow.flow c.prepare.new.self c.loop-flow.invariant.follows
    (same_follows image c.loop-flow.flow c.prepare.new.self c.in_ok-prepare.ensures.same))

pub returns-then-until-budget-clause-finish : goal.returns-then-until-budget-clause-finish
returns-then-until-budget-clause-finish c =
    let image = image_of c.args.program.now in
    let e : (c.min-until.result ≡ c.args.budget) ⊎ (is_budget c.run-finish.result ≡ false) =
    elim c.then-until-budget.branch [
      | then-until-budget-via-then-until-budget w ↦
          inl (omega (arith, w.if-until-budget.true, c.min-until.ensures))
      | then-until-budget-via-else-until-budget+then-not-is_budget w ↦
          inr (sym w.is_budget.ensures ∙ w.if-not-is_budget.true)
    ] in
    ended_on image c.min-until.result c.args.budget c.args.flow.now c.prepare.new.self c.run-finish.new.flow
    c.run-finish.result e
    (follows_on image c.args.flow.now c.loop-flow.flow c.prepare.new.self c.loop-flow.invariant.follows
    (same_follows image c.loop-flow.flow c.prepare.new.self c.prepare.ensures.same))
    c.run-finish.ensures.finish

pub loop-flow-preserved : goal.loop-flow-preserved
loop-flow-preserved c =
    let image = image_of c.args.program.now in
    record {
      follows = follows_on image c.args.flow.now c.loop-flow.flow c.run-finish.new.flow
          c.loop-flow.invariant.follows
          (follows_on image c.loop-flow.flow c.prepare.new.self c.run-finish.new.flow
          (same_follows image c.loop-flow.flow c.prepare.new.self c.prepare.ensures.same)
          (ended_follows image c.min-until.result c.prepare.new.self c.run-finish.new.flow c.run-finish.result
          c.run-finish.ensures.finish));
      within = omega (arith, c.run-finish.ensures.within, c.if-until-budget.false);
      gone = c.run-finish.ensures.gone ∙ c.prepare.ensures.same.memory.gone ∙ c.loop-flow.invariant.gone;
    }
