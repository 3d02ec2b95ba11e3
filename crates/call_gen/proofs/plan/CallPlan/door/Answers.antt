use Rattle.std.proofs.Common.{◌∙◌, ◌-◌, ap, arith}
use Rattle.call_gen.specs.Spelled.{moved}
use Rattle.cfg_core.specs.Tables.{graph_in}
use Rattle.cfg_core.specs.View as view
use Rattle.call_gen.proofs.Spelled.Planning.{entry_there, door_is}
use Rattle.call_gen.proofs.plan.CallPlan.door.Goals as goal

pub overflow_cast-entry : goal.overflow_cast-entry
overflow_cast-entry c = omega (
  arith,
  entry_there (view.graph (graph_in c.args.self.now.table)) c.args.f
      c.requires.rules c.requires.there,
  c.room-entry.ensures.entry,
  c.requires.plan.few.blocks,
)

pub place-requires-clause-there : goal.place-requires-clause-there
place-requires-clause-there c =
    omega (
      arith,
      entry_there (view.graph (graph_in c.args.self.now.table)) c.args.f c.requires.rules c.requires.there,
      c.room-entry.ensures.entry,
    )

pub overflow_sub-result : goal.overflow_sub-result
overflow_sub-result c =
    let g = view.graph (graph_in c.args.self.now.table) in
    omega (
      arith,
      door_is g c.args.f (entry_there g c.args.f c.requires.rules c.requires.there).1,
      c.place.ensures,
      ap (moved g) c.room-entry.ensures.entry,
    )

pub returns : goal.returns
returns c =
    let g = view.graph (graph_in c.args.self.now.table) in
    ap (λ n. n - 1) (c.place.ensures ∙ ap (moved g) c.room-entry.ensures.entry)
    ∙ (door_is g c.args.f (entry_there g c.args.f c.requires.rules c.requires.there).1).1
