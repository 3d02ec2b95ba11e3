use Rattle.std.proofs.Common.{◌≡◌, ◌+◌, length, map, drop}
use Rattle.ws_isa.specs.View as view
use Rattle.ws_isa.specs.Image.{flat}
use Rattle.asm_text.proofs.version.instr_count.Given as goal

abbrev pub invariant-loop-x : goal.invariant-loop-x
invariant-loop-x l = l.count + length (flat (map view.block (drop l.x-index l.blocks))) ≡ length (flat (map
    view.block l.blocks))
