use Rattle.one_result.proofs.Compiled.{job_told}
use Rattle.one_result.proofs.Threads.{one_multi}
use Rattle.one_result.proofs.laws.threads_have_their_own_results.Goals as goal

pub returns : goal.returns
returns c =
    let runs = c.one_answer.ensures in
    one_multi (record {
      some = runs.some;
      one_end = runs.one_end;
      one_fault = runs.one_fault;
      one_going = runs.one_going;
      no_end_with_a_fault = runs.no_end_with_a_fault;
      no_end_on_the_way = runs.no_end_on_the_way;
      no_fault_on_the_way = runs.no_fault_on_the_way;
    }) c.acts_tell_all.ensures.fronts c.each_text_is_a_job_or_refused.ensures
    (job_told c.printed_reads_again.ensures c.printed_texts_have_no_marker.ensures.bytes
    c.printed_texts_have_no_marker.ensures.end (record {
      instances = c.walks_go_on.ensures.instances;
      effects = c.effects_are_one.ensures;
    }) c.walks_go_on.ensures.ended)
