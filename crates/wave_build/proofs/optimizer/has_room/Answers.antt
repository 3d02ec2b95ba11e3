use Rattle.std.proofs.Common.{arith}
use Rattle.ws_isa.specs.Formed.{most_instrs}
use Rattle.wave_build.proofs.optimizer.has_room.Goals as goal

pub returns : goal.returns
unfolding most_instrs
returns c = λ some. grind (arith, c.after_blocks.ensures, some)
