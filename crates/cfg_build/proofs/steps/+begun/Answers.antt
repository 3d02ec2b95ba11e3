use Rattle.std.proofs.Common.{◌<◌, ◌^◌, suc, refl, ap, arith}
use Rattle.seq_run.specs.Resolved.{Nothing, Then}
use Rattle.seq_run.specs.Resolved as resolved
use Rattle.seq_run.specs.View as source
use Rattle.seq_run.specs.Weight.{weight, heft}
use Rattle.cfg_build.specs.Lowered.{begun as begun_in}
use Rattle.cfg_build.proofs.CodeSteps.{begun_next, step_lighter, if_is, while_is}
use Rattle.cfg_build.proofs.steps.+begun.Goals as goal

pub begun-begun_by-count-requires : goal.begun-begun_by-count-requires
begun-begun_by-count-requires t c =
    let w = step_lighter c.args.steps.now c.loop-step.step-index c.step-item.result c.loop-step-test.true
    c.step-item.is in
    let n = begun_next c.args.steps.now c.loop-step.step-index c.step-item.result c.loop-step-test.true
    c.step-item.is in
    let r : suc (weight (source.step c.step-item.result)) < t = omega (arith, c.decreases) in
    let few : begun_in (Then (source.step c.step-item.result) Nothing) < 2 ^ 32 =
    omega (arith, n, c.loop-step.invariant, c.requires) in
    (r, few)

pub begun_by-begun-requires : goal.begun_by-begun-requires
begun_by-begun-requires t c =
    let is = if_is c.args.step.now c.in-If.field-0 c.in-If.first c.in-If.second c.deref.result.now
    c.in-If.second.items c.in-If.is c.deref.ensures.value refl in
    let w = ap weight is in let b = ap (λ (s : resolved.Step). begun_in (Then s Nothing)) is in
    let r : heft (source.steps c.deref.result.now) < t = omega (arith, c.decreases, w) in
    let few : begun_in (source.steps c.deref.result.now) < 2 ^ 32 = omega (arith, c.requires, b) in
    (r, few)

pub begun_by-overflow_add-result : goal.begun_by-overflow_add-result
begun_by-overflow_add-result t c =
    let is = if_is c.args.step.now c.in-If.field-0 c.in-If.first c.in-If.second c.deref.result.now
    c.in-If.second.items c.in-If.is c.deref.ensures.value refl in
    let b = ap (λ (s : resolved.Step). begun_in (Then s Nothing)) is in
    omega (arith, c.requires, c.begun.ensures, b)

pub begun_by-begun-requires-in-If : goal.begun_by-begun-requires-in-If
begun_by-begun-requires-in-If t c =
    let is = if_is c.args.step.now c.in-If.field-0 c.in-If.first c.in-If.second c.deref.result.now
    c.deref-in-If.result.now c.in-If.is c.deref.ensures.value c.deref-in-If.ensures.value in
    let w = ap weight is in let b = ap (λ (s : resolved.Step). begun_in (Then s Nothing)) is in
    let r : heft (source.steps c.deref-in-If.result.now) < t = omega (arith, c.decreases, w) in
    let few : begun_in (source.steps c.deref-in-If.result.now) < 2 ^ 32 = omega (arith, c.requires, b) in
    (r, few)

pub begun_by-overflow_add-result-in-If : goal.begun_by-overflow_add-result-in-If
begun_by-overflow_add-result-in-If t c =
    let is = if_is c.args.step.now c.in-If.field-0 c.in-If.first c.in-If.second c.deref.result.now
    c.deref-in-If.result.now c.in-If.is c.deref.ensures.value c.deref-in-If.ensures.value in
    let b = ap (λ (s : resolved.Step). begun_in (Then s Nothing)) is in
    omega (arith, c.requires, c.begun.ensures, c.begun-in-If.ensures, b)

pub begun_by-returns-in-If : goal.begun_by-returns-in-If
begun_by-returns-in-If t c =
    let is = if_is c.args.step.now c.in-If.field-0 c.in-If.first c.in-If.second c.deref.result.now
    c.deref-in-If.result.now c.in-If.is c.deref.ensures.value c.deref-in-If.ensures.value in
    let b = ap (λ (s : resolved.Step). begun_in (Then s Nothing)) is in
    omega (arith, c.begun.ensures, c.begun-in-If.ensures, b)

pub begun_by-begun-requires-in-While : goal.begun_by-begun-requires-in-While
begun_by-begun-requires-in-While t c =
    let is = while_is c.args.step.now c.in-While.field-0 c.in-While.body c.deref-in-While.result.now
    c.in-While.is c.deref-in-While.ensures.value in
    let w = ap weight is in let b = ap (λ (s : resolved.Step). begun_in (Then s Nothing)) is in
    let r : heft (source.steps c.deref-in-While.result.now) < t = omega (arith, c.decreases, w) in
    let few : begun_in (source.steps c.deref-in-While.result.now) < 2 ^ 32 = omega (arith, c.requires, b) in
    (r, few)

pub begun_by-overflow_add-result-in-While : goal.begun_by-overflow_add-result-in-While
begun_by-overflow_add-result-in-While t c =
    let is = while_is c.args.step.now c.in-While.field-0 c.in-While.body c.deref-in-While.result.now
    c.in-While.is c.deref-in-While.ensures.value in
    let b = ap (λ (s : resolved.Step). begun_in (Then s Nothing)) is in
    omega (arith, c.requires, c.begun-in-While.ensures, b)

pub begun_by-returns-in-While : goal.begun_by-returns-in-While
begun_by-returns-in-While t c =
    let is = while_is c.args.step.now c.in-While.field-0 c.in-While.body c.deref-in-While.result.now
    c.in-While.is c.deref-in-While.ensures.value in
    let b = ap (λ (s : resolved.Step). begun_in (Then s Nothing)) is in
    omega (arith, c.begun-in-While.ensures, b)
