use Rattle.std.proofs.Common.{◌≡◌, Err, sym, ap, ◌∙◌}
use Rattle.wsc_words.specs.declared.line.WordsFault.TheVariants.{Usage}
use Rattle.stream_top.proofs.Budgets.{in_digits}
use Rattle.stream_top.proofs.words.read_options.Goals as goal

pub returns-in-Some-clause-only : goal.returns-in-Some-clause-only
returns-in-Some-clause-only c = λ options line.
    let tells = c.in-Ok.ensures.only line.given line.gives (in_digits _ line.given line.gives line.number) in
    line.is ∙ sym (c.in-Some.ensures.some line.given tells).1

pub returns-in-Ok-clause-usage : goal.returns-in-Ok-clause-usage
returns-in-Ok-clause-usage c = λ usage options line.
    let tells = c.in-Ok.ensures.only line.given line.gives (in_digits _ line.given line.gives line.number) in
    c.in-None.ensures.none line.given tells line.number

pub returns-clause-usage : goal.returns-clause-usage
returns-clause-usage c = λ usage options line.
    let same : c.in-Err.fault ≡ Usage = cc in
    c.in-Err.ensures.usage (ap Err same) line.given line.gives
    (in_digits _ line.given line.gives line.number)
