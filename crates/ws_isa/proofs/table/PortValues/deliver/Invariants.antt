use Rattle.std.proofs.Common.{◌≡◌, drop}
use Rattle.ws_isa.specs.Shows.{delivered}
use Rattle.ws_isa.proofs.table.PortValues.deliver.Given as goal

abbrev pub invariant-loop-dest : goal.invariant-loop-dest
invariant-loop-dest l = record {
  operands : delivered (drop l.dest-index l.dests) l.word l.self.operands ≡ delivered l.dests l.word
      l.initial.self.operands;
  results : l.self.results ≡ l.initial.self.results;
}
