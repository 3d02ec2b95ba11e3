use Rattle.std.proofs.Common.{List, length, ap, ◌∙◌}
use Rattle.ws_isa.specs.Image.{Token}
use Rattle.df_core.proofs.Sizes.Sends.{tokens_count}
use Rattle.df_core.proofs.sent.Sent.len.Goals as goal

pub returns : goal.returns
returns g c = tokens_count c.self.inside.wave c.self.inside.word c.self.inside.dests.now
    ∙ ap (λ (ts : List Token). length ts) c.self.view_is
