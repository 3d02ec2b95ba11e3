use Rattle.std.specs.List.{AllByRecursion}
use Rattle.std.proofs.Common.{List, Option, sym, subst}
use Rattle.port_set.specs.Slots.{IsOpen, told_all}
use Rattle.port_set.specs.Tape.{TapeState, tape_tells}
use Rattle.wsc_tests.proofs.tapes.swapped.Goals as goal

pub returns : goal.returns
returns c = let o = c.requires.open in
    subst (λ (l : List (Option TapeState)). AllByRecursion IsOpen (told_all tape_tells l))
    (sym c.swap.ensures.new) (c.requires.tape, o.1)
