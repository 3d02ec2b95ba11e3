use Rattle.one_result.proofs.Compiled.{code_assembly}
use Rattle.one_result.proofs.Streamed.{streams_end, stream_code_ends}
use Rattle.one_result.proofs.laws.streams_come_to_their_end.Goals as goal

pub returns-clause-assembly : goal.returns-clause-assembly
returns-clause-assembly c = streams_end c.each_status_has_its_cause.ensures

pub returns-clause-code : goal.returns-clause-code
returns-clause-code c =
    let runs = c.one_answer.ensures in
    stream_code_ends c.each_status_has_its_cause.ensures (record {
      some = runs.some;
      one_end = runs.one_end;
      one_fault = runs.one_fault;
      one_going = runs.one_going;
      no_end_with_a_fault = runs.no_end_with_a_fault;
      no_end_on_the_way = runs.no_end_on_the_way;
      no_fault_on_the_way = runs.no_fault_on_the_way;
    }) c.each_text_is_a_job_or_refused.ensures
    (code_assembly c.printed_reads_again.ensures c.printed_texts_have_no_marker.ensures.bytes
    c.printed_texts_have_no_marker.ensures.end)
