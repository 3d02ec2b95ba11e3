use Rattle.std.proofs.Common.{◌≡◌, ◌++◌, drop, map}
use Rattle.cfg_core.specs.Walk as walks
use Rattle.cfg_core.specs.View.{term as term_of}
use Rattle.cfg_core.proofs.terms.values.Given as goal

abbrev pub invariant-loop-term : goal.invariant-loop-term
invariant-loop-term l = l.words ++ walks.values (map term_of (drop l.term-index l.terms)) l.vars l.cells
    ≡ walks.values (map term_of l.terms) l.vars l.cells
