use Rattle.std.proofs.Common.{◌≡◌, ◌+◌, ◌<◌, ◌^◌, suc, sym, ap, subst, arith}
use Rattle.std.specs.Prelude.{OnOk}
use Rattle.seq_run.specs.Resolved.{If, While, Nothing, Then}
use Rattle.seq_run.specs.Resolved as resolved
use Rattle.seq_run.specs.View as source
use Rattle.cfg_core.specs.View as view
use Rattle.seq_run.specs.Weight.{weight, heft}
use Rattle.cfg_core.specs.Graph.{Tick}
use Rattle.cfg_build.specs.Lowered.{begun as begun_in}
use Rattle.cfg_build.specs.Building.{number, emit_one, StepFits}
use Rattle.cfg_build.specs.Views.{builder as builder_of}
use Rattle.cfg_build.proofs.CodeSteps.{step_lighter, if_is, while_is, after_op, after_exit, after_steps}
use Rattle.cfg_build.proofs.CodeSteps.{emitted_next, room_here, room_next, fit_here}
use Rattle.cfg_build.proofs.steps.+lower.Goals as goal

pub lower_steps-lower_step-requires : goal.lower_steps-lower_step-requires
lower_steps-lower_step-requires t c =
    let ss = c.args.steps.now in let i = c.loop-step.step-index in let x = c.step-item.result in
    let w = step_lighter ss i x c.loop-step-test.true c.step-item.is in
    let r : suc (weight (source.step x)) < t = omega (arith, c.decreases) in (
      r,
      (
        room_here ss i x c.loop-step-test.true c.step-item.is (number (builder_of c.loop-step.builder))
            c.loop-step.invariant.room,
        (fit_here ss i x c.loop-step-test.true c.step-item.is c.loop-step.invariant.ports).0,
      ),
    )

pub lower_steps-loop-step-preserved : goal.lower_steps-loop-step-preserved
lower_steps-loop-step-preserved t c =
    let ss = c.args.steps.now in let i = c.loop-step.step-index in let x = c.step-item.result in
    let old = builder_of c.loop-step.builder in let new = builder_of c.lower_step.new.builder in
    record {
      emitted = emitted_next ss i x c.loop-step-test.true c.step-item.is old new _ c.in_ok-lower_step.ensures
          c.loop-step.invariant.emitted;
      room = room_next ss i x c.loop-step-test.true c.step-item.is old new c.in_ok-lower_step.ensures
          c.loop-step.invariant.room;
      ports = (fit_here ss i x c.loop-step-test.true c.step-item.is c.loop-step.invariant.ports).1;
    }

pub lower_step-lower_if-requires : goal.lower_step-lower_if-requires
lower_step-lower_if-requires t c =
    let xs = c.deref-in-If.result.now in let ys = c.deref-in-If-2.result.now in
    let is = if_is c.args.step.now c.in-If.test c.in-If.first c.in-If.second xs ys c.in-If.is
    c.deref-in-If.ensures.value c.deref-in-If-2.ensures.value in
    let w = ap weight is in
    let b = ap (λ (s : resolved.Step). begun_in (Then s Nothing)) is in
    let fit = subst (λ (s : resolved.Step). StepFits s) is c.requires.ports in
    let r : suc (heft (source.steps xs) + heft (source.steps ys)) < t = omega (arith, c.decreases, w) in
    let room : number (builder_of c.args.builder.now) + begun_in
    (Then (If (view.term c.in-If.test) (source.steps xs) (source.steps ys)) Nothing) < 2 ^ 32 =
    omega (arith, b, c.requires.room) in
    (r, (room, (fit.0, fit.1)))

pub lower_step-lower_while-requires : goal.lower_step-lower_while-requires
lower_step-lower_while-requires t c =
    let xs = c.deref-in-While.result.now in
    let is = while_is c.args.step.now c.in-While.test c.in-While.body xs c.in-While.is
    c.deref-in-While.ensures.value in
    let w = ap weight is in
    let b = ap (λ (s : resolved.Step). begun_in (Then s Nothing)) is in
    let fit = subst (λ (s : resolved.Step). StepFits s) is c.requires.ports in
    let r : suc (heft (source.steps xs)) < t = omega (arith, c.decreases, w) in
    let room : number (builder_of c.args.builder.now) + begun_in
    (Then (While (view.term c.in-While.test) (source.steps xs)) Nothing) < 2 ^ 32 =
    omega (arith, b, c.requires.room) in
    (r, (room, fit))

pub lower_step-returns-in-If : goal.lower_step-returns-in-If
lower_step-returns-in-If t c =
    let is = if_is c.args.step.now c.in-If.test c.in-If.first c.in-If.second c.deref-in-If.result.now
    c.deref-in-If-2.result.now c.in-If.is c.deref-in-If.ensures.value c.deref-in-If-2.ensures.value in
    subst (λ (s : resolved.Step). OnOk c.lower_if.result (builder_of c.lower_if.new.builder ≡ emit_one s
    (builder_of c.args.builder.now))) (sym is) c.lower_if.ensures

pub lower_step-returns-in-While : goal.lower_step-returns-in-While
lower_step-returns-in-While t c =
    let is = while_is c.args.step.now c.in-While.test c.in-While.body c.deref-in-While.result.now
    c.in-While.is c.deref-in-While.ensures.value in
    subst (λ (s : resolved.Step). OnOk c.lower_while.result (builder_of c.lower_while.new.builder ≡ emit_one s
    (builder_of c.args.builder.now))) (sym is) c.lower_while.ensures

pub lower_if-lower_steps-requires-2 : goal.lower_if-lower_steps-requires-2
lower_if-lower_steps-requires-2 t c =
    let n1 = after_op (Tick 1) (builder_of c.args.builder.now) (builder_of c.tick.new.self)
    c.in_ok-tick.ensures in
    let n2 = after_exit _ (builder_of c.tick.new.self) (builder_of c.close.new.self) c.in_ok-close.ensures in
    let n3 = after_steps (source.steps c.args.first.now) (builder_of c.close.new.self)
    (builder_of c.lower_steps.new.builder) c.in_ok-lower_steps.ensures in
    let n4 = after_exit _ (builder_of c.lower_steps.new.builder) (builder_of c.close-2.new.self)
    c.in_ok-close-2.ensures in
    let r : heft (source.steps c.args.second.now) < t = omega (arith, c.decreases) in
    let room : number (builder_of c.close-2.new.self) + begun_in (source.steps c.args.second.now) < 2 ^ 32 =
    omega (arith, n1, n2, n3, n4, c.requires.room) in
    (r, (room, c.requires.second_ports))
