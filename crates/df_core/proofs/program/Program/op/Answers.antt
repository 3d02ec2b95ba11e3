use Rattle.std.proofs.Common.{sym}
use Rattle.ws_isa.specs.Image.{no_instr}
use Rattle.df_core.specs.Places.{image_of}
use Rattle.df_core.proofs.Parts.Look.{op_none}
use Rattle.df_core.proofs.program.Program.op.Goals as goal

pub returns-in-None : goal.returns-in-None
unfolding no_instr
returns-in-None c = sym (op_none (image_of c.args.self.now) c.args.number c.in-None.ensures)
