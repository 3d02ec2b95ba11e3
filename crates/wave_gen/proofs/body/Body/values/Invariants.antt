use Rattle.std.proofs.Common.{◌≡◌, ◌++◌, ◌∷◌, map, drop}
use Rattle.cfg_core.specs.View as view
use Rattle.wave_gen.specs.Plans.{pulse}
use Rattle.wave_gen.specs.Drawn.{gen_terms}
use Rattle.wave_gen.specs.View as plans
use Rattle.wave_gen.proofs.body.Body.values.Given as goal

abbrev pub invariant-loop-t : goal.invariant-loop-t
invariant-loop-t l = record {
  items : map plans.item l.self.items.items
      ++ (gen_terms l.self.next (map view.term (drop l.t-index l.terms))).items
      ≡ map plans.item l.initial.self.items.items
      ++ (gen_terms l.initial.self.next (map view.term l.terms)).items;
  names : l.list.items ++ (gen_terms l.self.next (map view.term (drop l.t-index l.terms))).names
      ≡ pulse ∷ (gen_terms l.initial.self.next (map view.term l.terms)).names;
  next : (gen_terms l.self.next (map view.term (drop l.t-index l.terms))).next
      ≡ (gen_terms l.initial.self.next (map view.term l.terms)).next;
}
