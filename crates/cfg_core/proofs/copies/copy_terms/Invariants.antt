use Rattle.std.proofs.Common.{◌≡◌, ◌++◌, map, drop}
use Rattle.cfg_core.specs.View.{term as term_of}
use Rattle.cfg_core.proofs.copies.copy_terms.Given as goal

abbrev pub invariant-loop-term : goal.invariant-loop-term
invariant-loop-term l = map term_of l.list.items ++ map term_of (drop l.term-index l.terms) ≡ map term_of
    l.terms
