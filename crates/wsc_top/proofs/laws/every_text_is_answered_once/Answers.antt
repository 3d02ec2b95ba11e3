use Rattle.job_read.proofs.Jobs.{job_written}
use Rattle.wsc_top.proofs.Reading.AnswersOnce.{answered_once}
use Rattle.wsc_top.proofs.laws.every_text_is_answered_once.Goals as goal

pub returns : goal.returns
returns c task text handed one =
    let runs = c.one_answer.ensures in
    answered_once
    (record {
      some = runs.some;
      one_end = runs.one_end;
      one_fault = runs.one_fault;
      one_going = runs.one_going;
      no_end_with_a_fault = runs.no_end_with_a_fault;
      no_end_on_the_way = runs.no_end_on_the_way;
      no_fault_on_the_way = runs.no_fault_on_the_way;
    })
    (λ parts bytes input job. c.printed_reads_the_same.ensures parts
    (job_written bytes parts input c.read_is_written.ensures job))
    task text handed one (c.each_text_is_a_job_or_refused.ensures text)
