use Rattle.std.proofs.Common.{◌∙◌, ap}
use Rattle.ws_isa.specs.Image.{pad_of, block_at}
use Rattle.ws_isa.specs.View as view
use Rattle.df_core.specs.Places.{image_of}
use Rattle.df_core.proofs.Parts.Look.{target_is, target_none}
use Rattle.df_core.proofs.program.Program.landed.Goals as goal

pub returns-in-Some : goal.returns-in-Some
returns-in-Some c = let image = image_of c.args.self.now in
    c.pad.ensures ∙ ap (λ n. pad_of (block_at image n).pads c.args.pad)
    (c.target_of.ensures ∙ target_is image c.args.number c.args.answer (view.block c.in-Some.block.now)
    c.in-Some.ensures)

pub returns-in-None : goal.returns-in-None
returns-in-None c = let image = image_of c.args.self.now in
    c.pad-in-None.ensures ∙ ap (λ n. pad_of (block_at image n).pads c.args.pad)
    (target_none image c.args.number c.args.answer c.in-None.ensures)
