use Rattle.std.proofs.Common.{◌≡◌, ◌++◌, ◌+◌, map}
use Rattle.ws_isa.specs.View as view
use Rattle.wave_link.specs.Plain.{noted_instrs}
use Rattle.wave_link.proofs.plain.note_instrs.Given as goal

abbrev pub invariant-loop-instr : goal.invariant-loop-instr
invariant-loop-instr l = record {
  whole : l.yielded ++ l.instr-iterator.rest.items ≡ l.fn.instrs.items;
  made : map view.instr l.list.items ++ noted_instrs l.place l.seq l.writer
      (map view.instr l.instr-iterator.rest.items)
      ≡ noted_instrs l.place (l.place.low + 1) l.place.writer (map view.instr l.fn.instrs.items);
}
