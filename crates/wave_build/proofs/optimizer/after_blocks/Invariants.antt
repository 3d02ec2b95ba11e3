use Rattle.std.proofs.Common.{◌≡◌, ◌+◌, length, map, drop}
use Rattle.ws_isa.specs.Image.{flat}
use Rattle.ws_isa.specs.View as view
use Rattle.wave_build.proofs.optimizer.after_blocks.Given as goal

abbrev pub invariant-loop-block : goal.invariant-loop-block
invariant-loop-block l =
    l.rest + (length (flat (map view.block l.blocks)) + length (map view.block l.blocks))
    ≡ l.left + (length (flat (map view.block (drop l.block-index l.blocks)))
    + length (map view.block (drop l.block-index l.blocks)))
