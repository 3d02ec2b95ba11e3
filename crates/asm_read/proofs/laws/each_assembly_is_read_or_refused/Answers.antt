use Rattle.asm_read.proofs.Once.{one_assembly, never_both, one_refusal, text_comes}
use Rattle.asm_read.proofs.laws.each_assembly_is_read_or_refused.Goals as goal

pub returns-clause-one : goal.returns-clause-one
returns-clause-one c = one_assembly

pub returns-clause-never_both : goal.returns-clause-never_both
returns-clause-never_both c text = never_both text c.breaches_break.ensures

pub returns-clause-one_refusal : goal.returns-clause-one_refusal
returns-clause-one_refusal c text = one_refusal text c.breaches_break.ensures

pub returns-clause-some : goal.returns-clause-some
returns-clause-some c = text_comes
