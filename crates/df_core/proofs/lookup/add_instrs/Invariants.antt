use Rattle.std.proofs.Common.{◌≡◌, ◌++◌, map, take}
use Rattle.ws_isa.specs.View as view
use Rattle.df_core.specs.Listed.{place_in_code}
use Rattle.df_core.proofs.lookup.add_instrs.Given as goal

abbrev pub invariant-loop-instr : goal.invariant-loop-instr
invariant-loop-instr l = map place_in_code l.spots.items ≡ map place_in_code l.fn.spots.items ++ map
    (λ i. (view.instr i, l.number)) (take l.instr-index l.instr-items)
