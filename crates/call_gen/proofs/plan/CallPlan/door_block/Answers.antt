use Rattle.std.proofs.Common.{arith}
use Rattle.cfg_core.specs.Tables.{graph_in}
use Rattle.cfg_core.specs.View as view
use Rattle.call_gen.proofs.Spelled.Planning.{entry_there}
use Rattle.call_gen.proofs.plan.CallPlan.door_block.Goals as goal

pub overflow_cast-entry : goal.overflow_cast-entry
overflow_cast-entry c = omega (
  arith,
  entry_there (view.graph (graph_in c.args.self.now.table)) c.args.f
      c.requires.rules c.requires.there,
  c.room-entry.ensures.entry,
  c.requires.plan.few.blocks,
)

pub place-requires-clause-there : goal.place-requires-clause-there
place-requires-clause-there c =
    omega (
      arith,
      entry_there (view.graph (graph_in c.args.self.now.table)) c.args.f c.requires.rules c.requires.there,
      c.room-entry.ensures.entry,
    )
