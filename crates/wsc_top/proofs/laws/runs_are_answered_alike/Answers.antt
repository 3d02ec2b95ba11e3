use Rattle.wsc_top.proofs.Told.RunsAlike.{runs_alike}
use Rattle.wsc_top.proofs.laws.runs_are_answered_alike.Goals as goal

pub returns : goal.returns
returns c options text handed a b h k free also =
    let runs = c.one_answer.ensures in
    runs_alike text (c.each_text_is_a_job_or_refused.ensures text) options handed
    (record {
      some = runs.some;
      one_end = runs.one_end;
      one_fault = runs.one_fault;
      one_going = runs.one_going;
      no_end_with_a_fault = runs.no_end_with_a_fault;
      no_end_on_the_way = runs.no_end_on_the_way;
      no_fault_on_the_way = runs.no_fault_on_the_way;
    })
    a.0 b.0 a.1 b.1 h.0 k.0 h.1 k.1 h.2 k.2 free also
