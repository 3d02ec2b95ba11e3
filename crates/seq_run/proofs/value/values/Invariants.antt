use Rattle.std.proofs.Common.{◌≡◌, map, take}
use Rattle.ws_words.specs.Memory.{lengths_of}
use Rattle.cfg_core.specs.Walk as walks
use Rattle.cfg_core.specs.View as graph
use Rattle.seq_run.specs.Firsts.{first_past}
use Rattle.seq_run.proofs.value.values.Given as goal
use Rattle.ws_words.specs.Items.{first_some}

abbrev pub invariant-loop-term : goal.invariant-loop-term
invariant-loop-term l = record {
  words : l.words ≡ walks.values (map graph.term (take l.term-index l.terms)) l.vars l.memory.cells;
  past : l.past ≡ first_some l.initial.past (first_past (lengths_of l.memory.cells)
      (walks.all_loads (map graph.term (take l.term-index l.terms)) l.vars l.memory.cells));
}
