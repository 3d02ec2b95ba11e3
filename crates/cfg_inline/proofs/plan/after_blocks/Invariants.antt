use Rattle.std.proofs.Common.{◌≡◌, ◌+◌, map, drop}
use Rattle.cfg_core.specs.View as view
use Rattle.cfg_inline.specs.Chosen as choice
use Rattle.cfg_inline.proofs.plan.after_blocks.Given as goal

abbrev pub invariant-loop-block : goal.invariant-loop-block
invariant-loop-block l = l.rest + choice.ops_of (map view.block l.blocks) ≡ l.left
    + choice.ops_of (map view.block (drop l.block-index l.blocks))
