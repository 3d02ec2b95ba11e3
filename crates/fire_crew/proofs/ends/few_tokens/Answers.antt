use Rattle.match_table.proofs.Few.{few_come}
use Rattle.fire_crew.proofs.ends.few_tokens.Goals as goal

pub returns : goal.returns
returns g c = few_come _ _ c.facts-2.ensures.formed c.facts-2.ensures.sound _ c.facts.ensures.part.right
