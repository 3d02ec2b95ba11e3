use Rattle.std.proofs.Common.{◌≡◌, ◌++◌, ◌∷◌, drop, map, false}
use Rattle.ws_isa.specs.View as view
use Rattle.annot_check.specs.Facts.{waves_of, advances_of, ops_of}
use Rattle.ws_isa.specs.declared.instr.Op.TheVariants.{Halt}
use Rattle.annot_check.proofs.facts.facts_of.Given as goal

abbrev pub invariant-loop-block : goal.invariant-loop-block
invariant-loop-block l = record {
  ops : l.facts.ops.items ++ ops_of (map view.block (drop l.block-index l.image.blocks.items)) ≡ Halt ∷ ops_of
      (map view.block l.image.blocks.items);
  advances : l.facts.advances.items ++ advances_of (map view.block
      (drop l.block-index l.image.blocks.items)) ≡ false ∷ advances_of (map view.block l.image.blocks.items);
  waves : l.facts.waves.items ++ waves_of (map view.block (drop l.block-index l.image.blocks.items)) ≡ 0 ∷
      waves_of (map view.block l.image.blocks.items);
}
