use Rattle.std.proofs.Common.{◌+◌, ◌<◌, length, drop, sym, ap, ◌∙◌, refl, arith}
use Rattle.asm_text.specs.declared.lexeme.Lexeme.TheVariants.{Number}
use Rattle.asm_text.specs.Printed.{seen, put, puts, numbers}
use Rattle.asm_text.proofs.Scanning.Walks.{numbers_step}
use Rattle.asm_text.proofs.print_lines.numbers.Goals as goal

pub loop-number-preserved : goal.loop-number-preserved
loop-number-preserved c =
    let h : c.loop-number.number-index < length c.args.numbers.now = omega arith in
    ap (λ s. puts s (numbers (drop (c.loop-number.number-index + 1) c.args.numbers.now)))
    (c.in_ok-number.ensures ∙ ap (λ n. put (seen c.loop-number.out) (Number n)) c.from.ensures)
    ∙ sym (numbers_step (seen c.loop-number.out) c.args.numbers.now c.loop-number.number-index _ _ h refl) ∙
    c.loop-number.invariant
