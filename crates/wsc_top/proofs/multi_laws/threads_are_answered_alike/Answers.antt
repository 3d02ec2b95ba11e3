use Rattle.wsc_top.proofs.Several.ThreadAnswers.{multi_alike}
use Rattle.wsc_top.proofs.multi_laws.threads_are_answered_alike.Goals as goal

pub returns : goal.returns
returns c options text handed a b h k =
    let runs = c.one_answer.ensures in
    multi_alike c.each_text_is_a_job_or_refused.ensures
    (record {
      some = runs.some;
      one_end = runs.one_end;
      one_fault = runs.one_fault;
      one_going = runs.one_going;
      no_end_with_a_fault = runs.no_end_with_a_fault;
      no_end_on_the_way = runs.no_end_on_the_way;
      no_fault_on_the_way = runs.no_fault_on_the_way;
    })
    options text handed a b h k
