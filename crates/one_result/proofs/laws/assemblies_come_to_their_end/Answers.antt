use Rattle.one_result.proofs.Ending.{assemblies_end}
use Rattle.one_result.proofs.laws.assemblies_come_to_their_end.Goals as goal

pub returns : goal.returns
returns c = assemblies_end c.words_are_one_line.ensures c.each_answer_has_its_status.ensures.job
    c.each_answer_has_its_status.ensures.assembly
