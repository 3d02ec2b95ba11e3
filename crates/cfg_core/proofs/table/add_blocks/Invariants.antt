use Rattle.std.proofs.Common.{◌≡◌, ◌++◌, drop, map}
use Rattle.cfg_core.specs.View as view
use Rattle.cfg_core.specs.Listed.{spot_in_code}
use Rattle.cfg_core.proofs.table.add_blocks.Given as goal

abbrev pub invariant-loop-block : goal.invariant-loop-block
invariant-loop-block l = map spot_in_code l.spots.items ++ map (λ b. (l.proc.vars, view.block b))
    (drop l.block-index l.proc.blocks.items)
    ≡ map spot_in_code l.initial.spots.items ++ map (λ b. (l.proc.vars, view.block b)) l.proc.blocks.items
