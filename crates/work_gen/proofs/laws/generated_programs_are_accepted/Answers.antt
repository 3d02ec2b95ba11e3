use Rattle.work_gen.proofs.Jobs.{generated}
use Rattle.work_gen.proofs.laws.generated_programs_are_accepted.Goals as goal

pub returns : goal.returns
returns c = generated
