use Rattle.std.proofs.Common.{◌≡◌, drop}
use Rattle.asm_text.specs.Printed.{seen, puts, dest_lexemes}
use Rattle.asm_text.proofs.print_lines.dests.Given as goal

abbrev pub invariant-loop-dest : goal.invariant-loop-dest
invariant-loop-dest l =
    puts (seen l.out) (dest_lexemes (drop l.dest-index l.dests)) ≡ puts (seen l.fn.out) (dest_lexemes l.dests)
