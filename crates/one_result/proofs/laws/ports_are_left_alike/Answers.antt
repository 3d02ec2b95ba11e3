use Rattle.one_result.proofs.Compiled.{code_assembly}
use Rattle.one_result.proofs.Ported.{one_result_with, one_image_result_with}
use Rattle.one_result.proofs.laws.ports_are_left_alike.Goals as goal

pub returns-clause-job : goal.returns-clause-job
returns-clause-job c =
    let runs = c.one_answer.ensures in
    one_result_with (record {
      some = runs.some;
      one_end = runs.one_end;
      one_fault = runs.one_fault;
      one_going = runs.one_going;
      no_end_with_a_fault = runs.no_end_with_a_fault;
      no_end_on_the_way = runs.no_end_on_the_way;
      no_fault_on_the_way = runs.no_fault_on_the_way;
    }) c.each_text_is_a_job_or_refused.ensures (record {
      instances = c.walks_go_on.ensures.instances;
      effects = c.effects_are_one.ensures;
    }) c.walks_go_on.ensures.ended
    (code_assembly c.printed_reads_again.ensures c.printed_texts_have_no_marker.ensures.bytes
    c.printed_texts_have_no_marker.ensures.end)

pub returns-clause-assembly : goal.returns-clause-assembly
returns-clause-assembly c = one_image_result_with (record {
  instances = c.walks_go_on.ensures.instances;
  effects = c.effects_are_one.ensures;
})
