use Rattle.std.proofs.Common.{arith}
use Rattle.cfg_core.specs.Graph.{spots, spot_at}
use Rattle.cfg_core.specs.View as view
use Rattle.cfg_core.proofs.Spots.{count_is}
use Rattle.cfg_core.proofs.Tables.{spot_in}
use Rattle.cfg_core.proofs.table.GraphTable.spot_there.Goals as goal

pub index-requires : goal.index-requires
index-requires c = omega (arith, count_is c.args.self.now, c.args.self.now.spots.ok.0, c.requires)

pub returns : goal.returns
unfolding spot_at
returns c =
    let t = c.args.self.now in
    spot_in t.spots.items (spots (view.graph t.graph.now)) c.args.b c.index.result.now t.spots_listed
    (omega (arith, count_is t, c.requires)) c.index.ensures
