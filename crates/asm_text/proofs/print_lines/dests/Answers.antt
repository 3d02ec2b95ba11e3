use Rattle.std.proofs.Common.{◌≡◌, ◌+◌, ◌<◌, length, drop, sym, ap, ◌∙◌, refl, arith}
use Rattle.asm_text.specs.declared.lexeme.Mark.TheVariants.{Dot}
use Rattle.asm_text.specs.declared.lexeme.Lexeme.TheVariants.{Number, Mark}
use Rattle.asm_text.specs.Printed.{Written, seen, put, puts, dest_lexemes}
use Rattle.asm_text.proofs.Scanning.Walks.{dests_step}
use Rattle.asm_text.proofs.print_lines.dests.Goals as goal

pub loop-dest-preserved : goal.loop-dest-preserved
loop-dest-preserved c =
    let h : c.loop-dest.dest-index < length c.args.dests.now = omega arith in
    let e : seen c.number-in-loop-dest.new.self ≡ put
    (put (put (seen c.loop-dest.out) (Number c.from.result)) (Mark Dot)) (Number c.from-in-loop-dest.result) =
    c.in_ok-number-2.ensures ∙ ap (λ (s : Written). put s (Number c.from-in-loop-dest.result))
    (c.in_ok-mark.ensures ∙ ap (λ (s : Written). put s (Mark Dot)) c.in_ok-number.ensures) in
    let k = rw (c.from.ensures, c.from-in-loop-dest.ensures) at e in
    ap (λ s. puts s (dest_lexemes (drop (c.loop-dest.dest-index + 1) c.args.dests.now))) k
    ∙ sym (dests_step (seen c.loop-dest.out) c.args.dests.now c.loop-dest.dest-index _ _ h refl) ∙
    c.loop-dest.invariant
