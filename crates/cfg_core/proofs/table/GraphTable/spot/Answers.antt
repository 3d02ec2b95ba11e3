use Rattle.cfg_core.specs.Graph.{spots, spot_at}
use Rattle.cfg_core.specs.View as view
use Rattle.cfg_core.proofs.Tables.{spot_in, spot_past}
use Rattle.cfg_core.proofs.table.GraphTable.spot.Goals as goal

pub returns-in-Some : goal.returns-in-Some
unfolding spot_at
returns-in-Some c =
    let l = c.in-Some.ensures.lookup in
    spot_in c.args.self.now.spots.items (spots (view.graph c.args.self.now.graph.now)) c.args.b
    c.in-Some.spot.now c.args.self.now.spots_listed (rw c.deref.ensures.value at (l.3).0)
    (rw c.deref.ensures.value at l.1)

pub returns-in-None : goal.returns-in-None
unfolding spot_at
returns-in-None c = spot_past c.args.self.now.spots.items (spots (view.graph c.args.self.now.graph.now))
    c.args.b c.args.self.now.spots_listed (rw c.deref.ensures.value at c.in-None.ensures.lookup.3)
