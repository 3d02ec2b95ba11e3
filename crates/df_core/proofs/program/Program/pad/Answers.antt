use Rattle.df_core.specs.Places.{image_of}
use Rattle.df_core.proofs.Parts.Look.{pads_none}
use Rattle.df_core.proofs.program.Program.pad.Goals as goal

pub returns-in-None : goal.returns-in-None
returns-in-None c = pads_none (image_of c.args.self.now) c.args.number c.args.pad c.in-None.ensures
