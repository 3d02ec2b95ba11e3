use Rattle.std.proofs.Common.{◌≡◌, ◌++◌, map, drop}
use Rattle.cfg_core.specs.View as view
use Rattle.wave_gen.specs.Gen.{gen_ops}
use Rattle.wave_gen.specs.View as plans
use Rattle.wave_gen.proofs.body.Body.ops.Given as goal

abbrev pub invariant-loop-op : goal.invariant-loop-op
invariant-loop-op l = record {
  items : map plans.item l.self.items.items
      ++ (gen_ops l.self.next (map view.op (drop l.op-index l.ops))).items
      ≡ map plans.item l.initial.self.items.items ++ (gen_ops l.initial.self.next (map view.op l.ops)).items;
  next : (gen_ops l.self.next (map view.op (drop l.op-index l.ops))).next
      ≡ (gen_ops l.initial.self.next (map view.op l.ops)).next;
}
