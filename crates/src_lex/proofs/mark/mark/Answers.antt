use Rattle.std.proofs.Common.{◌≡◌, rules}
use Rattle.std.specs.Prelude.{None, Some}
use Rattle.src_lex.proofs.Marks.{reads_one}
use Rattle.src_lex.specs.Marks.{mark_of_one, mark_of_front}
use Rattle.src_lex.proofs.mark.mark.Goals as goal

pub returns-clause-some : goal.returns-clause-some
returns-clause-some c =
    let text = c.args.text.now in
    let front : mark_of_front text ≡ None = search rules in
    let one : mark_of_one c.in_ok-first.first.now ≡ Some c.in_ok-mark.mark = search rules in
    reads_one text c.in_ok-first.first.now c.in_ok-first.field-0-1.now c.in_ok-mark.mark (search rules) front
    one
