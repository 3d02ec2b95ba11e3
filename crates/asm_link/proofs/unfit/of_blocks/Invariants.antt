use Rattle.std.proofs.Common.{◌≡◌, drop, map}
use Rattle.ws_isa.specs.View as view
use Rattle.asm_link.specs.Unfit.{of_blocks}
use Rattle.asm_link.proofs.unfit.of_blocks.Given as goal

abbrev pub invariant-loop-block : goal.invariant-loop-block
invariant-loop-block l = of_blocks (map view.block l.blocks) l.tables.hits.items l.tables.marks.items
    l.tables.added.items l.place (map view.block (drop l.block-index l.blocks))
    ≡ of_blocks (map view.block l.blocks) l.tables.hits.items l.tables.marks.items l.tables.added.items 0
    (map view.block l.blocks)
