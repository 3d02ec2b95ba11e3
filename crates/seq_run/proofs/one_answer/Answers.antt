use Rattle.seq_run.proofs.OneAnswer.{some_answer, one_end, one_fault, one_going, end_no_fault, end_no_going}
use Rattle.seq_run.proofs.OneAnswer.{fault_no_going}
use Rattle.seq_run.proofs.one_answer.Goals as goal

pub returns-clause-some : goal.returns-clause-some
returns-clause-some c = some_answer

pub returns-clause-one_end : goal.returns-clause-one_end
returns-clause-one_end c = one_end

pub returns-clause-one_fault : goal.returns-clause-one_fault
returns-clause-one_fault c = one_fault

pub returns-clause-one_going : goal.returns-clause-one_going
returns-clause-one_going c = one_going

pub returns-clause-no_end_with_a_fault : goal.returns-clause-no_end_with_a_fault
returns-clause-no_end_with_a_fault c = end_no_fault

pub returns-clause-no_end_on_the_way : goal.returns-clause-no_end_on_the_way
returns-clause-no_end_on_the_way c = end_no_going

pub returns-clause-no_fault_on_the_way : goal.returns-clause-no_fault_on_the_way
returns-clause-no_fault_on_the_way c = fault_no_going
