use Rattle.std.proofs.Common.{◌≡◌, subst}
use Rattle.wsc_top.specs.declared.step.CallStep.TheVariants.{Run as Due, Threads as Many}
use Rattle.wsc_top.specs.Steps.{StepSo}
use Rattle.wsc_top.specs.Answers.{before}
use Rattle.wsc_top.proofs.Calling.Due.{due_reply, ready_reply, unbegun_reply}
use Rattle.wsc_top.proofs.Several.ThreadAnswers.{threads_reply, some_inputs}
use Rattle.wsc_top.proofs.call.wsc.Goals as goal

pub returns-in-Ok-Ready-clause-ends : goal.returns-in-Ok-Ready-clause-ends
returns-in-Ok-Ready-clause-ends g c = c.written.ensures.ends _ _ _ c.requires.told
    (ready_reply _ _ _ _ _ c.new.ensures.items c.in-Ok-Ready.field-0 _ _ (cc) c.in-Ok-Ready.ensures.ok)

pub returns-in-Ok-Run-clause-ends : goal.returns-in-Ok-Run-clause-ends
returns-in-Ok-Run-clause-ends g c =
    let is : c.in-Ok-Run.field-0 ≡ Due c.in-Ok-Run.options c.in-Ok-Run.image c.in-Ok-Run.input = cc in
    let due =
    subst (StepSo _ _ _ (g.S.Source.faults c.args.source.now) (g.S.Source.faults c.prepare.new.source)) is
    c.in-Ok-Run.ensures.ok in
    c.written-in-Ok-Run.ensures.ends _ _ _ c.requires.told
    (due_reply _ _ _ _ c.in-Ok-Run.options c.in-Ok-Run.image c.in-Ok-Run.input due _
    c.new-in-Ok-Run.ensures.items (λ none. (let e = c.in-Ok-Run.ensures.unknown none in absurd cc)) _
    (λ status out e. c.what_is_due_is_answered.ensures _ _ _ _ _ _ _ c.in-Ok-Run.options c.in-Ok-Run.image
    c.in-Ok-Run.input status out due c.requires.told e) c.executed-answer.ensures.answered)

pub returns-in-Ok-Threads-clause-ends : goal.returns-in-Ok-Threads-clause-ends
returns-in-Ok-Threads-clause-ends g c =
    let is : c.in-Ok-Threads.field-0 ≡ Many c.in-Ok-Threads.options c.in-Ok-Threads.jobs = cc in
    let due =
    subst (StepSo _ _ _ (g.S.Source.faults c.args.source.now) (g.S.Source.faults c.prepare.new.source)) is
    c.in-Ok-Threads.ensures.ok in
    c.written-in-Ok-Threads.ensures.ends _ _ _ c.requires.told
    (threads_reply _ _ _ _ c.in-Ok-Threads.options _ _ c.as_slice.ensures.value _ due
    (λ none. (let e = c.in-Ok-Threads.ensures.unknown none in absurd cc)) _
    (λ statuses out e. c.what_threads_do_is_answered.ensures _ _ _ _ _ _ _ c.in-Ok-Threads.options due.0
    statuses out due.1 c.requires.told e) c.all_executed-answer.ensures.executes
    c.all_executed-answer.ensures.begun)

pub returns-in-Err-clause-ends : goal.returns-in-Err-clause-ends
returns-in-Err-clause-ends g c = c.written-in-Err.ensures.ends _ _ _ c.requires.told
    (unbegun_reply _ _ _ _ _ c.new-in-Err.ensures.items _
    (λ none. (let e = c.in-Err.ensures.unknown none in absurd cc)) (before c.in-Err.ensures.memory))

pub all_executed-answer-requires-clause-some : goal.all_executed-answer-requires-clause-some
all_executed-answer-requires-clause-some g c κs alive =
    let is : c.in-Ok-Threads.field-0 ≡ Many c.in-Ok-Threads.options c.in-Ok-Threads.jobs = cc in
    let due =
    subst (StepSo _ _ _ (g.S.Source.faults c.args.source.now) (g.S.Source.faults c.prepare.new.source)) is
    c.in-Ok-Threads.ensures.ok in
    some_inputs due.1.text due.0 _ due.1.jobs due.3
