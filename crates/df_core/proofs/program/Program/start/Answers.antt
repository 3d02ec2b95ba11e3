use Rattle.std.proofs.Common.{◌∙◌}
use Rattle.df_core.specs.Places.{image_of}
use Rattle.df_core.proofs.Parts.Opening.{start_is}
use Rattle.df_core.proofs.program.Program.start.Goals as goal

pub returns : goal.returns
returns c = c.pad.ensures ∙ start_is (image_of c.args.self.now)
