use Rattle.std.proofs.Common.{◌≡◌, ◌++◌, map}
use Rattle.ws_isa.specs.View as view
use Rattle.wave_link.specs.Plain.{noted_from}
use Rattle.wave_link.proofs.plain.note_blocks.Given as goal

abbrev pub invariant-loop-block : goal.invariant-loop-block
invariant-loop-block l = record {
  whole : l.yielded ++ l.block-iterator.rest.items ≡ l.fn.blocks.items;
  made : map view.block l.list.items ++ noted_from l.places l.number
      (map view.block l.block-iterator.rest.items)
      ≡ noted_from l.places 1 (map view.block l.fn.blocks.items);
}
