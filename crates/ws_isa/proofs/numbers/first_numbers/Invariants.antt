use Rattle.std.proofs.Common.{◌≡◌, ◌++◌, drop, map}
use Rattle.ws_isa.specs.View as view
use Rattle.ws_isa.proofs.Counting.{numbers_from}
use Rattle.ws_isa.proofs.numbers.first_numbers.Given as goal

abbrev pub invariant-loop-block : goal.invariant-loop-block
invariant-loop-block l = l.numbers.items ++ numbers_from l.next (map view.block (drop l.block-index l.blocks))
    ≡ numbers_from 1 (map view.block l.blocks)
