use Rattle.std.proofs.Common.{◌++◌, List, ap, ◌∙◌}
use Rattle.ws_isa.specs.Image.{Token, tokens_to}
use Rattle.df_core.specs.Places.{image_of}
use Rattle.df_core.proofs.Walked.Starts.{starts_are, starts_right}
use Rattle.df_core.proofs.pulse.start.Goals as goal

pub send-requires : goal.send-requires
send-requires g c = starts_right g.J.Job.image (image_of c.program.result.now) g.J.Job.world
    c.start-pulse.result.now c.program.ensures.formed c.program.ensures.sound c.start-pulse.ensures
    c.program.ensures.image

pub returns : goal.returns
returns g c = c.in_ok-send.ensures.ok ∙ ap (λ (ts : List Token). ts ++ tokens_to 0 0 c.start-pulse.result.now)
    c.empty-tokens.ensures ∙ starts_are g.J.Job.image (image_of c.program.result.now) c.start-pulse.result.now
    c.start-pulse.ensures c.program.ensures.image
