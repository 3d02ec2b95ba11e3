use Rattle.std.proofs.Common.{◌∙◌, sym}
use Rattle.ws_isa.specs.View as view
use Rattle.annot_check.proofs.Shaped.Exiting.{edge_shape, stop_edges}
use Rattle.annot_check.proofs.targets.edges_ok.Goals as goal

pub returns-then-stops_at-clause-yes : goal.returns-then-stops_at-clause-yes
returns-then-stops_at-clause-yes c = λ t. stop_edges (view.image c.args.image.now) c.args.number
    (sym c.stops_at.ensures ∙ c.if-stops_at.true)

pub returns-clause-yes : goal.returns-clause-yes
returns-clause-yes c = λ t. edge_shape (view.image c.args.image.now) c.args.number c.requires.formed
    c.requires.block
    (sym c.stops_at.ensures ∙ c.if-stops_at.false) (c.edges_later.ensures.yes t)
