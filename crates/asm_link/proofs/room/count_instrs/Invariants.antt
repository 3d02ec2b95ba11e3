use Rattle.std.proofs.Common.{◌≡◌, drop, map}
use Rattle.ws_isa.specs.View as view
use Rattle.asm_link.specs.Room.{count_from, count_in}
use Rattle.asm_link.proofs.room.count_instrs.Given as goal

abbrev pub invariant-loop-block : goal.invariant-loop-block
invariant-loop-block l = count_from l.count (map view.block (drop l.block-index l.blocks))
    ≡ count_in (map view.block l.blocks)
