use Rattle.one_result.proofs.Replayed.{one_trace}
use Rattle.one_result.proofs.laws.traces_print_the_result.Goals as goal

pub returns : goal.returns
returns c = one_trace (record {
  instances = c.walks_go_on.ensures.instances;
  effects = c.effects_are_one.ensures;
}) c.printed_texts_are_read_again.ensures.replayed
