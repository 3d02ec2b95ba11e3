use Rattle.wsc_top.proofs.Several.ThreadAnswers.{reply_told}
use Rattle.wsc_top.proofs.Calling.CallEnds.{starved_reply, not_ok, call_answered, call_cut, call_starved}
use Rattle.wsc_top.proofs.call.written.Goals as goal
use Rattle.std.specs.Prelude.{refl}

pub returns-in-Ok-write_all-clause-ends : goal.returns-in-Ok-write_all-clause-ends
returns-in-Ok-write_all-clause-ends g c words reads handed told reply =
    let r = reply_told _ _ _ _ _ _ _ _ _ _ c.in-Ok.status c.in-Ok.text (cc) reply.answered in
    call_answered words reads _ handed c.words_are_one_line.ensures
    (record {
      job = c.each_answer_has_its_status.ensures.job;
      assembly = c.each_answer_has_its_status.ensures.assembly;
      bench = c.each_answer_has_its_status.ensures.bench;
      threads = c.each_answer_of_threads_has_its_status.ensures;
      walk = c.each_run_ends_as_its_walk.ensures.job;
      bench_walk = c.each_run_ends_as_its_walk.ensures.bench;
      walks = c.threads_end_as_their_walks.ensures;
    })
    told _ _ _ _ _ r _ c.as_slice.ensures c.in-Ok-write_all.ensures.ok
    c.in-Ok-write_all.ensures.flushed

pub returns-in-Ok-clause-ends : goal.returns-in-Ok-clause-ends
returns-in-Ok-clause-ends g c words reads handed told reply =
    let r = reply_told _ _ _ _ _ _ _ _ _ _ c.in-Ok.status c.in-Ok.text (cc) reply.answered in
    let front = c.in-Err-write_all.ensures.prefix in
    call_cut words reads _ handed c.in-Ok.status c.in-Ok.text front.0 _ _ _ r _ c.as_slice.ensures front.1
    front.2 c.in-Err-write_all.ensures.unflushed c.in-Err-write_all.ensures.failed

pub returns-clause-ends : goal.returns-clause-ends
returns-clause-ends g c words reads handed told reply = call_starved words reads _ handed _ _ _ (starved_reply
    _ c.in-Err.field-0 (cc) reply.memory) refl refl (λ none. not_ok _ c.in-Err.field-0 (cc) (reply.known
    none))
