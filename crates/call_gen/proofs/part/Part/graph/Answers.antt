use Rattle.std.proofs.Common.{rules}
use Rattle.call_gen.specs.Part.{part}
use Rattle.call_gen.proofs.part.Part.graph.Goals as goal

pub returns : goal.returns
unfolding part
returns c = search rules
