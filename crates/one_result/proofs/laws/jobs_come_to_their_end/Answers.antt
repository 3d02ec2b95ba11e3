use Rattle.one_result.proofs.Compiled.{job_told, code_assembly, never_ends}
use Rattle.one_result.proofs.Ending.{jobs_end, code_ends}
use Rattle.one_result.proofs.laws.jobs_come_to_their_end.Goals as goal

pub returns-clause-job : goal.returns-clause-job
returns-clause-job c = jobs_end c.words_are_one_line.ensures c.each_answer_has_its_status.ensures.job

pub returns-clause-code : goal.returns-clause-code
returns-clause-code c =
    let runs = c.one_answer.ensures in
    code_ends c.words_are_one_line.ensures (record {
      some = runs.some;
      one_end = runs.one_end;
      one_fault = runs.one_fault;
      one_going = runs.one_going;
      no_end_with_a_fault = runs.no_end_with_a_fault;
      no_end_on_the_way = runs.no_end_on_the_way;
      no_fault_on_the_way = runs.no_fault_on_the_way;
    }) c.each_text_is_a_job_or_refused.ensures
    c.each_answer_has_its_status.ensures.job c.each_answer_has_its_status.ensures.assembly
    (code_assembly c.printed_reads_again.ensures c.printed_texts_have_no_marker.ensures.bytes
    c.printed_texts_have_no_marker.ensures.end)

pub returns-clause-never : goal.returns-clause-never
returns-clause-never c =
    let runs = c.one_answer.ensures in
    never_ends (record {
      some = runs.some;
      one_end = runs.one_end;
      one_fault = runs.one_fault;
      one_going = runs.one_going;
      no_end_with_a_fault = runs.no_end_with_a_fault;
      no_end_on_the_way = runs.no_end_on_the_way;
      no_fault_on_the_way = runs.no_fault_on_the_way;
    }) c.each_text_is_a_job_or_refused.ensures
    (job_told c.printed_reads_again.ensures c.printed_texts_have_no_marker.ensures.bytes
    c.printed_texts_have_no_marker.ensures.end (record {
      instances = c.walks_go_on.ensures.instances;
      effects = c.effects_are_one.ensures;
    }) c.walks_go_on.ensures.ended)
