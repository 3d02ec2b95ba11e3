use Rattle.std.proofs.Common.{ap, ◌∙◌, sym}
use Rattle.ws_words.specs.Outside.{zeros}
use Rattle.cfg_core.specs.Graph.{Spot, no_spot}
use Rattle.cfg_core.specs.Walk as walks
use Rattle.cfg_core.proofs.exits.land.Goals as goal

pub returns-in-None : goal.returns-in-None
unfolding no_spot
returns-in-None c = c.empty.ensures
    ∙ sym (ap (λ (x : Spot). walks.landed x.block.named c.args.words.now (zeros x.vars)) c.in-None.ensures)
