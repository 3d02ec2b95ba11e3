use Rattle.src_lex.proofs.Lawful.{one_fault_of}
use Rattle.src_lex.proofs.laws.one_fault.Goals as goal

pub returns : goal.returns
returns c = one_fault_of
