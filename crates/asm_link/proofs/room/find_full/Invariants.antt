use Rattle.std.proofs.Common.{◌≡◌, drop, map}
use Rattle.ws_isa.specs.View as view
use Rattle.asm_link.specs.Room.{full_in}
use Rattle.asm_link.proofs.room.find_full.Given as goal

abbrev pub invariant-loop-block : goal.invariant-loop-block
invariant-loop-block l = full_in l.first l.place (map view.block l.draft)
    (map view.block (drop l.block-index l.made))
    ≡ full_in 1 0 (map view.block l.draft) (map view.block l.made)
