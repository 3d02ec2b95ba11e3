use Rattle.std.proofs.Common.{◌≡◌, map, drop}
use Rattle.cfg_core.specs.View as view
use Rattle.cfg_inline.specs.Chosen as choice
use Rattle.cfg_inline.proofs.plan.all_straight.Given as goal

abbrev pub invariant-loop-block : goal.invariant-loop-block
invariant-loop-block l = choice.all_straight (map view.block (drop l.block-index l.blocks))
    ≡ choice.all_straight (map view.block l.blocks)
