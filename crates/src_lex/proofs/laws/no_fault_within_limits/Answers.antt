use Rattle.src_lex.proofs.Lawful.{no_fault_of}
use Rattle.src_lex.proofs.laws.no_fault_within_limits.Goals as goal

pub returns : goal.returns
returns c = no_fault_of
