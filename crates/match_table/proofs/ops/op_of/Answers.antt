use Rattle.std.proofs.Common.{arith}
use Rattle.ws_isa.specs.Image.{no_instr}
use Rattle.df_core.proofs.Parts.Look.{op_none}
use Rattle.match_table.proofs.ops.op_of.Goals as goal

pub returns-in-None : goal.returns-in-None
unfolding no_instr
returns-in-None c = grind (arith, op_none)
