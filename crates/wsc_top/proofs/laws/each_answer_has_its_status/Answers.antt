use Rattle.wsc_top.proofs.Calling.Ends.{job_answer_so, assembly_answer_so, bench_answer_so}
use Rattle.wsc_top.proofs.laws.each_answer_has_its_status.Goals as goal

pub returns-clause-job : goal.returns-clause-job
returns-clause-job c words left after faults counted handed back status out image task parts input answer told
    given whole =
    let runs = c.one_answer.ensures in
    job_answer_so c.words_are_one_line.ensures words left after faults counted handed
    (record {
      some = runs.some;
      one_end = runs.one_end;
      one_fault = runs.one_fault;
      one_going = runs.one_going;
      no_end_with_a_fault = runs.no_end_with_a_fault;
      no_end_on_the_way = runs.no_end_on_the_way;
      no_fault_on_the_way = runs.no_fault_on_the_way;
    })
    c.each_text_is_a_job_or_refused.ensures task parts input given told status out image back answer whole

pub returns-clause-assembly : goal.returns-clause-assembly
returns-clause-assembly c words left after faults counted handed back status out again task image input answer
    told whole = assembly_answer_so c.words_are_one_line.ensures words left after faults counted handed
    c.breaches_break.ensures task image input told status out again back answer whole

pub returns-clause-bench : goal.returns-clause-bench
returns-clause-bench c words left after faults counted handed back status out image options parts answer line
    job given =
    let runs = c.one_answer.ensures in
    bench_answer_so c.words_are_one_line.ensures words left after faults counted handed
    (record {
      some = runs.some;
      one_end = runs.one_end;
      one_fault = runs.one_fault;
      one_going = runs.one_going;
      no_end_with_a_fault = runs.no_end_with_a_fault;
      no_end_on_the_way = runs.no_end_on_the_way;
      no_fault_on_the_way = runs.no_fault_on_the_way;
    })
    c.each_text_is_a_job_or_refused.ensures options parts given line job status out image back answer
