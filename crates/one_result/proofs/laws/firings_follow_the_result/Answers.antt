use Rattle.one_result.proofs.Compiled.{job_told}
use Rattle.one_result.proofs.Counted.{one_image_stats, one_stats}
use Rattle.one_result.proofs.laws.firings_follow_the_result.Goals as goal

pub returns-clause-job : goal.returns-clause-job
returns-clause-job c =
    let runs = c.one_answer.ensures in
    one_stats (record {
      some = runs.some;
      one_end = runs.one_end;
      one_fault = runs.one_fault;
      one_going = runs.one_going;
      no_end_with_a_fault = runs.no_end_with_a_fault;
      no_end_on_the_way = runs.no_end_on_the_way;
      no_fault_on_the_way = runs.no_fault_on_the_way;
    }) c.each_text_is_a_job_or_refused.ensures
    (job_told c.printed_reads_again.ensures c.printed_texts_have_no_marker.ensures.bytes
    c.printed_texts_have_no_marker.ensures.end (record {
      instances = c.walks_go_on.ensures.instances;
      effects = c.effects_are_one.ensures;
    }) c.walks_go_on.ensures.ended)

pub returns-clause-assembly : goal.returns-clause-assembly
returns-clause-assembly c = one_image_stats (record {
  instances = c.walks_go_on.ensures.instances;
  effects = c.effects_are_one.ensures;
})
