use Rattle.cfg_core.specs.Tables.{graph_in}
use Rattle.cfg_core.specs.View as view
use Rattle.call_gen.proofs.Parted.Marking.{marks_beyond}
use Rattle.call_gen.proofs.find.Finder.look.Goals as goal

pub returns-in-None : goal.returns-in-None
returns-in-None c = marks_beyond (view.graph (graph_in c.args.table.now)) c.args.b c.args.self.now.flags.items
    c.args.self.now.waits.items c.in-None.ensures
