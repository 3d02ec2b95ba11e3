use Rattle.src_check.proofs.First.{checked_once}
use Rattle.src_check.proofs.laws.each_program_is_checked_once.Goals as goal

pub returns : goal.returns
returns c = checked_once
