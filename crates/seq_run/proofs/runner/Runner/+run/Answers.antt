use Rattle.std.proofs.Common.{◌≡◌, ◌≤◌, ◌<◌, ◌+◌, ◌-◌, suc, length, map, List, slice_index_or, arith, sym, ap}
use Rattle.std.proofs.Common.{◌∙◌, subst, Bor}
use Rattle.src_ast.specs.Turns.{CallEnd}
use Rattle.cfg_core.specs.Walk.{value as value_on, value_of, values_of}
use Rattle.cfg_core.specs.View as graph
use Rattle.seq_run.specs.Resolved.{calls_below, run_one, run_all}
use Rattle.seq_run.specs.Shows.{CallOut}
use Rattle.seq_run.specs.View as view
use Rattle.seq_run.specs.Weight.{weight, heft, weight_below}
use Rattle.seq_run.specs.declared.flow.Flow.TheVariants as flows
use Rattle.seq_run.specs.declared.flow.Reply.TheVariants as replies
use Rattle.seq_run.specs.declared.tree.Proc.{Proc}
use Rattle.seq_run.specs.declared.tree.Step.{Step}
use Rattle.seq_run.specs.declared.tree.Step.TheVariants as code
use Rattle.seq_run.proofs.TurnsLeft.{all_most, calls_most}
use Rattle.seq_run.proofs.Cost.{all_cost, calls_cost}
use Rattle.seq_run.proofs.Grows.{all_tells, calls_tell}
use Rattle.seq_run.proofs.Effects.{value_holds, values_hold}
use Rattle.seq_run.proofs.Follows.{stepped, stopped_at, weight_lt, is_ended, if_zero, if_other, if_stops}
use Rattle.seq_run.proofs.Follows.{call_is, call_out, call_faulted, arguments_stop, test_stops, loop_zero}
use Rattle.seq_run.proofs.Follows.{loop_next, loop_stopped, calls_past, call_ended, call_wants, call_stops}
use Rattle.seq_run.proofs.Follows.{from_step, if_step, while_step, call_step, if_weight, while_weight}
use Rattle.seq_run.proofs.Follows.{heft_of, call_weight, as_steps, as_flow, as_reply}
use Rattle.seq_run.proofs.runner.Runner.+run.Goals as goal
use Rattle.seq_run.proofs.runner.Runner.+run.Goals.{run_if-then-word-eq0, run_if-else-word-eq0}
use Rattle.cfg_core.proofs.Follows.{other_test as other_flag, zero_test as zero_flag}

pub run_steps-returns-then-has_stopped-clause-follows : goal.run_steps-returns-then-has_stopped-clause-follows
run_steps-returns-then-has_stopped-clause-follows t c = λ start s h.
    let below = c.args.below in let procs = view.procs c.args.self.now.procs.now in
    let u = c.loop-step.invariant.upto start s h in
    stopped_at (calls_below below procs) (calls_most below procs) (calls_cost below procs)
    (calls_tell below procs) start c.args.steps.now c.loop-step.step-index c.step-item.result
    (run_all (calls_below below procs) (view.steps c.args.steps.now) s) c.args.run.now.turns
    c.loop-step.run.turns c.loop-step.run.memory c.loop-step.vars c.loop-step-test.true c.step-item.is u
    c.run_step.new.run.memory c.run_step.new.vars c.run_step.new.run.turns c.in_ok-flow.flow
    (sym c.has_stopped.ensures ∙ c.if-has_stopped.true) (c.in_ok-flow.ensures.follows start u.at u.holds)

pub run_steps-loop-step-preserved : goal.run_steps-loop-step-preserved
run_steps-loop-step-preserved t c = record {
  fewer = omega (arith, c.in_ok-flow.ensures.turns);
  upto = λ start s h.
      let below = c.args.below in let procs = view.procs c.args.self.now.procs.now in
      let calls = calls_below below procs in
      let u = c.loop-step.invariant.upto start s h in
      stepped calls (calls_most below procs) (calls_cost below procs) (calls_tell below procs) start
      c.args.steps.now c.loop-step.step-index c.step-item.result
      (run_all calls (view.steps c.args.steps.now) s) c.args.run.now.turns c.loop-step.run.turns
      c.loop-step.run.memory c.loop-step.vars c.loop-step-test.true c.step-item.is u
      c.run_step.new.run.memory c.run_step.new.vars c.run_step.new.run.turns (c.loop-step.step-index + 1)
      (omega arith)
      (is_ended start (run_one calls (view.step c.step-item.result) u.at) c.loop-step.run.turns
      c.in_ok-flow.flow c.run_step.new.run.memory c.run_step.new.vars c.run_step.new.run.turns
      (sym c.has_stopped.ensures ∙ c.if-has_stopped.false)
      (c.in_ok-flow.ensures.follows start u.at u.holds));
}

pub run_steps-run_step-requires : goal.run_steps-run_step-requires
run_steps-run_step-requires t c =
    let w = weight_lt c.args.steps.now c.loop-step.step-index c.step-item.result c.loop-step-test.true
    c.step-item.is in
    let r : weight_below c.args.below (view.procs c.args.self.now.procs.now) + suc
    (weight (view.step c.step-item.result)) < t = omega (arith, c.decreases) in
    (r, c.requires)

pub run_call_for-returns-in-Some-clause-follows : goal.run_call_for-returns-in-Some-clause-follows
run_call_for-returns-in-Some-clause-follows t c = λ start s h.
    let below = c.args.below in let procs = view.procs c.args.self.now.procs.now in
    arguments_stop (calls_below below procs) (calls_tell below procs) start s c.args.run.now.memory
    c.args.vars.now h c.args.run.now.turns (omega arith) c.args.x.now c.args.f
    (map graph.term c.args.args.now) c.in-Some.array c.args.vars.now
    (sym c.in_ok-words.ensures.past ∙ c.in-Some.is)

pub run_call_for-returns-in-Value-clause-follows : goal.run_call_for-returns-in-Value-clause-follows
run_call_for-returns-in-Value-clause-follows t c = λ start s h.
    let below = c.args.below in let procs = view.procs c.args.self.now.procs.now in let ts =
    map graph.term c.args.args.now in
    let held = values_hold start s c.args.run.now.memory c.args.vars.now h ts
    (sym c.in_ok-words.ensures.past ∙ c.in_default.is) in
    call_is (calls_below below procs) (calls_tell below procs) start s c.args.run.now.memory c.args.vars.now h
    c.args.run.now.turns (omega arith) c.args.x.now c.args.f ts c.in_ok-words.words
    c.in_ok-words.ensures.values
    c.run_call.new.run.memory c.in-Value.v c.run_call.new.run.turns c.take_result.new.vars
    (as_reply start (calls_below below procs c.args.f c.in_ok-words.words (values_of ts s).1.out)
    (c.args.run.now.turns - 1) c.in_ok-reply.reply (replies.Value c.in-Value.v) c.run_call.new.run.memory
    c.run_call.new.run.turns c.in-Value.is (c.in_ok-reply.ensures.follows start (values_of ts s).1.out
    held.out)) c.take_result.ensures

pub run_call_for-returns-in-Out-clause-follows : goal.run_call_for-returns-in-Out-clause-follows
run_call_for-returns-in-Out-clause-follows t c = λ start s h.
    let below = c.args.below in let procs = view.procs c.args.self.now.procs.now in let ts =
    map graph.term c.args.args.now in
    let held = values_hold start s c.args.run.now.memory c.args.vars.now h ts
    (sym c.in_ok-words.ensures.past ∙ c.in_default.is) in
    call_out (calls_below below procs) (calls_tell below procs) start s c.args.run.now.memory c.args.vars.now
    h c.args.run.now.turns (omega arith) c.args.x.now c.args.f ts c.in_ok-words.words
    c.in_ok-words.ensures.values
    c.run_call.new.run.memory c.run_call.new.run.turns c.args.vars.now
    (as_reply start (calls_below below procs c.args.f c.in_ok-words.words (values_of ts s).1.out)
    (c.args.run.now.turns - 1) c.in_ok-reply.reply replies.Out c.run_call.new.run.memory
    c.run_call.new.run.turns c.in-Out.is (c.in_ok-reply.ensures.follows start (values_of ts s).1.out
    held.out))

pub run_call_for-returns-in-Fault-clause-follows : goal.run_call_for-returns-in-Fault-clause-follows
run_call_for-returns-in-Fault-clause-follows t c = λ start s h.
    let below = c.args.below in let procs = view.procs c.args.self.now.procs.now in let ts =
    map graph.term c.args.args.now in
    let held = values_hold start s c.args.run.now.memory c.args.vars.now h ts
    (sym c.in_ok-words.ensures.past ∙ c.in_default.is) in
    call_faulted (calls_below below procs) (calls_tell below procs) start s c.args.run.now.memory
    c.args.vars.now h c.args.run.now.turns (omega arith) c.args.x.now c.args.f ts c.in_ok-words.words
    c.in_ok-words.ensures.values
    c.run_call.new.run.memory c.in-Fault.array c.run_call.new.run.turns c.args.vars.now
    (as_reply start (calls_below below procs c.args.f c.in_ok-words.words (values_of ts s).1.out)
    (c.args.run.now.turns - 1) c.in_ok-reply.reply (replies.Fault c.in-Fault.array)
    c.run_call.new.run.memory c.run_call.new.run.turns c.in-Fault.is
    (c.in_ok-reply.ensures.follows start (values_of ts s).1.out held.out))

pub run_if-returns-in-Some-clause-follows : goal.run_if-returns-in-Some-clause-follows
run_if-returns-in-Some-clause-follows t c = λ start s h.
    let below = c.args.below in let procs = view.procs c.args.self.now.procs.now in
    if_stops (calls_below below procs) (calls_tell below procs) start s c.args.run.now.memory c.args.vars.now
    h c.args.run.now.turns (omega arith) (graph.term c.args.test.now) (view.steps c.args.first.now)
    (view.steps c.args.second.now) c.in-Some.array c.args.vars.now
    (sym c.quick-word.ensures.past ∙ c.in-Some.is)

pub run_if-returns-clause-follows : goal.run_if-returns-clause-follows
run_if-returns-clause-follows t c = λ start s h.
    let below = c.args.below in let procs = view.procs c.args.self.now.procs.now in let calls =
    calls_below below procs in
    let run = c.args.run.now in let test = graph.term c.args.test.now in let after = c.run_steps.new.run in
    let held = value_holds start s run.memory c.args.vars.now h test (sym c.quick-word.ensures.past
    ∙ c.in_default.is) in
    elim c.if-word-eq0.branch [
      | run_if-then-word-eq0 w ↦
          let e : c.if-word-eq0.chosen.now ≡ c.args.second.now = ap (λ (r : Bor (List Step)). r.now)
          w.chosen-is in
          if_zero calls (calls_tell below procs) start s run.memory c.args.vars.now h run.turns (omega arith)
          test (view.steps c.args.first.now) (view.steps c.args.second.now) c.in_ok-flow.flow after.memory
          c.run_steps.new.vars after.turns
          (zero_flag (value_on test c.args.vars.now run.memory.cells) c.quick-word.result
          c.quick-word.ensures.value w.if-word-eq0.true)
          (as_steps calls start c.if-word-eq0.chosen.now c.args.second.now (value_of test s).1 (run.turns - 1)
          c.in_ok-flow.flow after.memory c.run_steps.new.vars after.turns e
          (c.in_ok-flow.ensures.follows start (value_of test s).1 held))
      | run_if-else-word-eq0 w ↦
          let e : c.if-word-eq0.chosen.now ≡ c.args.first.now = ap (λ (r : Bor (List Step)). r.now)
          w.chosen-is in
          if_other calls (calls_tell below procs) start s run.memory c.args.vars.now h run.turns (omega arith)
          test (view.steps c.args.first.now) (view.steps c.args.second.now) c.in_ok-flow.flow after.memory
          c.run_steps.new.vars after.turns
          (other_flag (value_on test c.args.vars.now run.memory.cells) c.quick-word.result
          c.quick-word.ensures.value w.if-word-eq0.false)
          (as_steps calls start c.if-word-eq0.chosen.now c.args.first.now (value_of test s).1 (run.turns - 1)
          c.in_ok-flow.flow after.memory c.run_steps.new.vars after.turns e
          (c.in_ok-flow.ensures.follows start (value_of test s).1 held))
    ]

pub run_if-run_steps-requires : goal.run_if-run_steps-requires
run_if-run_steps-requires t c =
    let r : weight_below c.args.below (view.procs c.args.self.now.procs.now) + heft
    (view.steps c.if-word-eq0.chosen.now) < t =
    elim c.if-word-eq0.branch [
      | run_if-then-word-eq0 v ↦ let h = heft_of c.if-word-eq0.chosen.now c.args.second.now
          (ap (λ (r : Bor (List Step)). r.now) v.chosen-is) in omega (arith, c.decreases)
      | run_if-else-word-eq0 v ↦ let h = heft_of c.if-word-eq0.chosen.now c.args.first.now
          (ap (λ (r : Bor (List Step)). r.now) v.chosen-is) in omega (arith, c.decreases)
    ] in
    (r, c.requires)

pub run_loop-returns-in-Some-clause-follows : goal.run_loop-returns-in-Some-clause-follows
run_loop-returns-in-Some-clause-follows t c = λ start s h.
    let below = c.args.below in let procs = view.procs c.args.self.now.procs.now in
    let body = run_all (calls_below below procs) (view.steps c.args.body.now) in
    test_stops (graph.term c.args.test.now) body (all_most (calls_below below procs) (calls_most below procs)
    (view.steps c.args.body.now)) (all_tells (calls_below below procs) (calls_tell below procs)
    (view.steps c.args.body.now)) (all_cost (calls_below below procs) (calls_most below procs)
    (calls_cost below procs) (view.steps c.args.body.now))
    start _ c.args.run.now.turns c.loop-run.run.turns c.loop-run.run.memory c.loop-run.vars
    (c.loop-run.invariant.upto start s h) c.in-Some.array c.loop-run-test.true
    (sym c.quick-word.ensures.past ∙ c.in-Some.is)

pub run_loop-returns-then-word-eq0-clause-follows : goal.run_loop-returns-then-word-eq0-clause-follows
run_loop-returns-then-word-eq0-clause-follows t c = λ start s h.
    let below = c.args.below in let procs = view.procs c.args.self.now.procs.now in
    let body = run_all (calls_below below procs) (view.steps c.args.body.now) in
    loop_zero (graph.term c.args.test.now) body (all_most (calls_below below procs) (calls_most below procs)
    (view.steps c.args.body.now)) (all_tells (calls_below below procs) (calls_tell below procs)
    (view.steps c.args.body.now)) (all_cost (calls_below below procs) (calls_most below procs)
    (calls_cost below procs) (view.steps c.args.body.now))
    start _ c.args.run.now.turns c.loop-run.run.turns c.loop-run.run.memory c.loop-run.vars
    (c.loop-run.invariant.upto start s h) c.loop-run-test.true (sym c.quick-word.ensures.past
    ∙ c.in_default.is)
    (zero_flag (value_on (graph.term c.args.test.now) c.loop-run.vars c.loop-run.run.memory.cells)
    c.quick-word.result c.quick-word.ensures.value c.if-word-eq0.true)

pub run_loop-returns-then-has_stopped-clause-follows : goal.run_loop-returns-then-has_stopped-clause-follows
run_loop-returns-then-has_stopped-clause-follows t c = λ start s h.
    let below = c.args.below in let procs = view.procs c.args.self.now.procs.now in let test =
    graph.term c.args.test.now in
    let body = run_all (calls_below below procs) (view.steps c.args.body.now) in
    let u = c.loop-run.invariant.upto start s h in
    let held = value_holds start u.at c.loop-run.run.memory c.loop-run.vars u.holds test
    (sym c.quick-word.ensures.past ∙ c.in_default.is) in
    loop_stopped test body (all_most (calls_below below procs) (calls_most below procs)
    (view.steps c.args.body.now)) (all_tells (calls_below below procs) (calls_tell below procs)
    (view.steps c.args.body.now)) (all_cost (calls_below below procs) (calls_most below procs)
    (calls_cost below procs) (view.steps c.args.body.now))
    start _ c.args.run.now.turns c.loop-run.run.turns c.loop-run.run.memory c.loop-run.vars u
    c.run_steps.new.run.memory c.run_steps.new.vars c.run_steps.new.run.turns c.in_ok-flow.flow
    c.loop-run-test.true
    (other_flag (value_on test c.loop-run.vars c.loop-run.run.memory.cells) c.quick-word.result
    c.quick-word.ensures.value c.if-word-eq0.false) (sym c.has_stopped.ensures ∙ c.if-has_stopped.true)
    (c.in_ok-flow.ensures.follows start (value_of test u.at).1 held)

pub run_loop-loop-run-preserved : goal.run_loop-loop-run-preserved
run_loop-loop-run-preserved t c = record {
  fewer = omega (arith, c.in_ok-flow.ensures.turns);
  upto = λ start s h.
      let below = c.args.below in let procs = view.procs c.args.self.now.procs.now in let test =
      graph.term c.args.test.now in
      let body = run_all (calls_below below procs) (view.steps c.args.body.now) in
      let u = c.loop-run.invariant.upto start s h in
      let held = value_holds start u.at c.loop-run.run.memory c.loop-run.vars u.holds test
      (sym c.quick-word.ensures.past ∙ c.in_default.is) in
      loop_next test body (all_most (calls_below below procs) (calls_most below procs)
      (view.steps c.args.body.now)) (all_tells (calls_below below procs) (calls_tell below procs)
      (view.steps c.args.body.now)) (all_cost (calls_below below procs) (calls_most below procs)
      (calls_cost below procs) (view.steps c.args.body.now))
      start _ c.args.run.now.turns c.loop-run.run.turns c.loop-run.run.memory c.loop-run.vars u
      c.run_steps.new.run.memory c.run_steps.new.vars c.run_steps.new.run.turns c.loop-run-test.true
      (other_flag (value_on test c.loop-run.vars c.loop-run.run.memory.cells) c.quick-word.result
      c.quick-word.ensures.value c.if-word-eq0.false)
      (is_ended start (body (value_of test u.at).1) (c.loop-run.run.turns - 1) c.in_ok-flow.flow
      c.run_steps.new.run.memory c.run_steps.new.vars c.run_steps.new.run.turns
      (sym c.has_stopped.ensures ∙ c.if-has_stopped.false)
      (c.in_ok-flow.ensures.follows start (value_of test u.at).1 held));
}

pub run_step-run_if-requires : goal.run_step-run_if-requires
run_step-run_if-requires t c =
    let w = if_weight c.in-If.test c.in-If.first c.in-If.second c.args.step.now c.in-If.is in
    let h = heft_of c.deref-in-If.result.now c.in-If.first.items c.deref-in-If.ensures.value in
    let g = heft_of c.deref-in-If-2.result.now c.in-If.second.items c.deref-in-If-2.ensures.value in
    let r : weight_below c.args.below (view.procs c.args.self.now.procs.now) + suc
    (heft (view.steps c.deref-in-If.result.now) + heft (view.steps c.deref-in-If-2.result.now)) < t =
    omega (arith, c.decreases) in
    (r, c.requires)

pub run_step-run_loop-requires : goal.run_step-run_loop-requires
run_step-run_loop-requires t c =
    let w = while_weight c.in-While.test c.in-While.body c.args.step.now c.in-While.is in
    let h = heft_of c.deref-in-While.result.now c.in-While.body.items c.deref-in-While.ensures.value in
    let r : weight_below c.args.below (view.procs c.args.self.now.procs.now) + suc
    (heft (view.steps c.deref-in-While.result.now)) < t = omega (arith, c.decreases) in
    (r, c.requires)

pub run_step-returns-in_ok-flow-in-Do-clause-follows : goal.run_step-returns-in_ok-flow-in-Do-clause-follows
run_step-returns-in_ok-flow-in-Do-clause-follows t c = λ start s h.
    let calls = calls_below c.args.below (view.procs c.args.self.now.procs.now) in
    from_step calls start (code.Do c.in-Do.action) c.args.step.now s c.args.run.now.turns
    c.in_ok-flow-in-Do.flow c.run_action.new.run.memory c.run_action.new.vars c.run_action.new.run.turns
    c.in-Do.is (c.in_ok-flow-in-Do.ensures.follows calls start s h)

pub run_step-returns-in_ok-flow-in-Call-clause-follows :
    goal.run_step-returns-in_ok-flow-in-Call-clause-follows
run_step-returns-in_ok-flow-in-Call-clause-follows t c = λ start s h.
    let calls = calls_below c.args.below (view.procs c.args.self.now.procs.now) in
    call_step calls start s c.args.run.now.turns c.in-Call.x c.in-Call.f c.in-Call.args c.args.step.now
    c.deref.result.now c.in-Call.is c.deref.ensures.value c.in_ok-flow-in-Call.flow
    c.run_call_for.new.run.memory c.run_call_for.new.vars c.run_call_for.new.run.turns
    (c.in_ok-flow-in-Call.ensures.follows start s h)

pub run_step-returns-in_ok-flow-in-If-clause-follows : goal.run_step-returns-in_ok-flow-in-If-clause-follows
run_step-returns-in_ok-flow-in-If-clause-follows t c = λ start s h.
    let calls = calls_below c.args.below (view.procs c.args.self.now.procs.now) in
    if_step calls start s c.args.run.now.turns c.in-If.test c.in-If.first c.in-If.second c.args.step.now
    c.deref-in-If.result.now c.deref-in-If-2.result.now c.in-If.is c.deref-in-If.ensures.value
    c.deref-in-If-2.ensures.value c.in_ok-flow-in-If.flow c.run_if.new.run.memory c.run_if.new.vars
    c.run_if.new.run.turns (c.in_ok-flow-in-If.ensures.follows start s h)

pub run_step-returns-in_ok-flow-in-While-clause-follows :
    goal.run_step-returns-in_ok-flow-in-While-clause-follows
run_step-returns-in_ok-flow-in-While-clause-follows t c = λ start s h.
    let calls = calls_below c.args.below (view.procs c.args.self.now.procs.now) in
    while_step calls start s c.args.run.now.turns c.in-While.test c.in-While.body c.args.step.now
    c.deref-in-While.result.now c.in-While.is c.deref-in-While.ensures.value c.in_ok-flow-in-While.flow
    c.run_loop.new.run.memory c.run_loop.new.vars c.run_loop.new.run.turns
    (c.in_ok-flow-in-While.ensures.follows start s h)

pub run_call-returns-then-f-below-clause-follows : goal.run_call-returns-then-f-below-clause-follows
run_call-returns-then-f-below-clause-follows t c = λ start o sh.
    subst (λ (x : CallEnd). CallOut start x c.args.run.now.memory)
    (sym (calls_past c.args.below c.args.f (view.procs c.args.self.now.procs.now) c.if-f-below.true
    c.args.args o c.args.run.now.turns)) sh

pub run_call-run_steps-requires : goal.run_call-run_steps-requires
run_call-run_steps-requires t c =
    let procs = c.args.self.now.procs.now in let p = slice_index_or procs c.args.f c.index-self-f.result in
    let is = ap (λ (d : Proc). slice_index_or procs c.args.f d) c.index-self-f.is in
    let w = call_weight procs c.args.below c.args.f p c.if-f-below.false (omega (arith, c.requires)) is in
    let h = heft_of c.deref.result.now p.body.items c.deref.ensures.value in
    let r : weight_below c.args.f (view.procs procs) + heft (view.steps c.deref.result.now) < t =
    omega (arith, c.decreases) in
    let le : c.args.f ≤ length procs = omega (arith, c.requires) in
    (r, le)

pub run_call-returns-in-Ended-clause-follows : goal.run_call-returns-in-Ended-clause-follows
run_call-returns-in-Ended-clause-follows t c = λ start o sh.
    let procs = c.args.self.now.procs.now in let p = slice_index_or procs c.args.f c.index-self-f.result in
    let is = ap (λ (d : Proc). slice_index_or procs c.args.f d) c.index-self-f.is in let run =
    c.args.run.now in let after = c.run_steps.new.run in
    let calls = calls_below c.args.f (view.procs procs) in
    call_ended c.args.below c.args.f procs p c.if-f-below.false (omega (arith, c.requires)) is start
    c.args.args run.memory run.turns c.add_zeros.new.vars c.in_ok-add_zeros.ensures o sh
    after.memory c.finish.new.run.memory c.run_steps.new.vars c.finish.result after.turns
    c.finish.new.run.turns
    (λ s h. as_flow start (run_all calls (view.steps p.body.items) s) run.turns c.in_ok-flow.flow flows.Ended
    after.memory c.run_steps.new.vars after.turns c.in-Ended.is
    (as_steps calls start c.deref.result.now p.body.items s run.turns c.in_ok-flow.flow after.memory
    c.run_steps.new.vars after.turns c.deref.ensures.value (c.in_ok-flow.ensures.follows start s h)))
    (λ s h. c.finish.ensures.follows start s h)

pub run_call-returns-in-Out-clause-follows : goal.run_call-returns-in-Out-clause-follows
run_call-returns-in-Out-clause-follows t c = λ start o sh.
    let procs = c.args.self.now.procs.now in let p = slice_index_or procs c.args.f c.index-self-f.result in
    let is = ap (λ (d : Proc). slice_index_or procs c.args.f d) c.index-self-f.is in let run =
    c.args.run.now in let after = c.run_steps.new.run in
    let calls = calls_below c.args.f (view.procs procs) in
    call_wants c.args.below c.args.f procs p c.if-f-below.false (omega (arith, c.requires)) is start
    c.args.args run.memory run.turns c.add_zeros.new.vars c.in_ok-add_zeros.ensures o sh
    after.memory c.run_steps.new.vars after.turns
    (λ s h. as_flow start (run_all calls (view.steps p.body.items) s) run.turns c.in_ok-flow.flow flows.Out
    after.memory c.run_steps.new.vars after.turns c.in-Out.is
    (as_steps calls start c.deref.result.now p.body.items s run.turns c.in_ok-flow.flow after.memory
    c.run_steps.new.vars after.turns c.deref.ensures.value (c.in_ok-flow.ensures.follows start s h)))

pub run_call-returns-clause-follows : goal.run_call-returns-clause-follows
run_call-returns-clause-follows t c = λ start o sh.
    let procs = c.args.self.now.procs.now in let p = slice_index_or procs c.args.f c.index-self-f.result in
    let is = ap (λ (d : Proc). slice_index_or procs c.args.f d) c.index-self-f.is in let run =
    c.args.run.now in let after = c.run_steps.new.run in
    let calls = calls_below c.args.f (view.procs procs) in
    call_stops c.args.below c.args.f procs p c.if-f-below.false (omega (arith, c.requires)) is start
    c.args.args run.memory run.turns c.add_zeros.new.vars c.in_ok-add_zeros.ensures o sh
    after.memory c.run_steps.new.vars c.in-Fault.array after.turns
    (λ s h. as_flow start (run_all calls (view.steps p.body.items) s) run.turns c.in_ok-flow.flow
    (flows.Fault c.in-Fault.array) after.memory c.run_steps.new.vars after.turns c.in-Fault.is
    (as_steps calls start c.deref.result.now p.body.items s run.turns c.in_ok-flow.flow after.memory
    c.run_steps.new.vars after.turns c.deref.ensures.value (c.in_ok-flow.ensures.follows start s h)))
