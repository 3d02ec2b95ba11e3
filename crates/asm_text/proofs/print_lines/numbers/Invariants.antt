use Rattle.std.proofs.Common.{◌≡◌, drop}
use Rattle.asm_text.specs.Printed.{seen, puts, numbers}
use Rattle.asm_text.proofs.print_lines.numbers.Given as goal

abbrev pub invariant-loop-number : goal.invariant-loop-number
invariant-loop-number l =
    puts (seen l.out) (numbers (drop l.number-index l.numbers)) ≡ puts (seen l.fn.out) (numbers l.numbers)
