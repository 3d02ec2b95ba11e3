use Rattle.std.proofs.Common.{◌≡◌, ◌≤◌, ◌++◌, length, take, map, reverse}
use Rattle.ws_isa.specs.View as isa
use Rattle.wave_gen.specs.Plans.{instr_of}
use Rattle.wave_gen.specs.Tables.{line_of}
use Rattle.wave_gen.specs.Numbered.{number_at}
use Rattle.wave_gen.proofs.numbering.instrs.Given as goal

abbrev pub invariant-loop-left : goal.invariant-loop-left
invariant-loop-left l = (l.left ≤ length l.code)
    × (map isa.instr l.instrs.items ++ map (instr_of (number_at l.numbers))
    (reverse (map line_of (take l.left l.code))) ≡ map (instr_of (number_at l.numbers))
    (reverse (map line_of l.code)))

abbrev pub decreases-loop-left : goal.decreases-loop-left
decreases-loop-left l = l.left
