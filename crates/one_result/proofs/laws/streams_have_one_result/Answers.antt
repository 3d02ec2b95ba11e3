use Rattle.one_result.proofs.Compiled.{job_told, code_told}
use Rattle.one_result.proofs.Streamed.{one_stream_result, one_stream_again, one_stream_count}
use Rattle.one_result.proofs.Streamed.{one_stream_front, one_stream_job, stream_meaning}
use Rattle.one_result.proofs.Unwritten.{one_stream_broken_off}
use Rattle.one_result.proofs.laws.streams_have_one_result.Goals as goal

pub returns-clause-assembly : goal.returns-clause-assembly
returns-clause-assembly c = one_stream_result (record {
  instances = c.walks_go_on.ensures.instances;
  effects = c.effects_are_one.ensures;
})

pub returns-clause-again : goal.returns-clause-again
returns-clause-again c = one_stream_again (record {
  instances = c.walks_go_on.ensures.instances;
  effects = c.effects_are_one.ensures;
})

pub returns-clause-count : goal.returns-clause-count
returns-clause-count c = one_stream_count (record {
  instances = c.walks_go_on.ensures.instances;
  effects = c.effects_are_one.ensures;
})

pub returns-clause-front : goal.returns-clause-front
returns-clause-front c = one_stream_front (record {
  instances = c.walks_go_on.ensures.instances;
  effects = c.effects_are_one.ensures;
}) c.walks_go_on.ensures.acts

pub returns-clause-broken : goal.returns-clause-broken
returns-clause-broken c = one_stream_broken_off (record {
  instances = c.walks_go_on.ensures.instances;
  effects = c.effects_are_one.ensures;
}) c.walks_go_on.ensures.acts c.runs_have_one_result.ensures.walk c.read_images_are_formed.ensures
    c.each_assembly_is_read_or_refused.ensures.never_both

pub returns-clause-says : goal.returns-clause-says
returns-clause-says c = stream_meaning (code_told c.printed_reads_again.ensures
    c.printed_texts_have_no_marker.ensures.bytes
    c.printed_texts_have_no_marker.ensures.end (record {
      instances = c.walks_go_on.ensures.instances;
      effects = c.effects_are_one.ensures;
    }) c.walks_go_on.ensures.ended)

pub returns-clause-job : goal.returns-clause-job
returns-clause-job c =
    let runs = c.one_answer.ensures in
    one_stream_job (code_told c.printed_reads_again.ensures c.printed_texts_have_no_marker.ensures.bytes
    c.printed_texts_have_no_marker.ensures.end (record {
      instances = c.walks_go_on.ensures.instances;
      effects = c.effects_are_one.ensures;
    }) c.walks_go_on.ensures.ended) (record {
      some = runs.some;
      one_end = runs.one_end;
      one_fault = runs.one_fault;
      one_going = runs.one_going;
      no_end_with_a_fault = runs.no_end_with_a_fault;
      no_end_on_the_way = runs.no_end_on_the_way;
      no_fault_on_the_way = runs.no_fault_on_the_way;
    }) c.each_text_is_a_job_or_refused.ensures
    (job_told c.printed_reads_again.ensures c.printed_texts_have_no_marker.ensures.bytes
    c.printed_texts_have_no_marker.ensures.end (record {
      instances = c.walks_go_on.ensures.instances;
      effects = c.effects_are_one.ensures;
    }) c.walks_go_on.ensures.ended)
