use Rattle.std.proofs.Common.{ap, ◌∙◌, ℕ, Option, List, unwrap_or}
use Rattle.std.specs.HashMap.{get_by}
use Rattle.std.specs.Str.{bytes_eq}
use Rattle.seq_run.proofs.Tables.{number_is}
use Rattle.seq_run.proofs.table.NameNumbers.number.Goals as goal

pub returns : goal.returns
returns c = λ first names is. number_is c.args.self.now first names c.args.name.now.text c.unwrap_or.result is
    (c.unwrap_or.ensures ∙ ap (λ (o : Option ℕ). unwrap_or o c.args.self.now.next)
    (c.copied.ensures ∙ c.get.ensures.value
    ∙ ap (λ (text : List ℕ). get_by (λ k. bytes_eq text k.now) c.args.self.now.numbers)
    c.as_slice-text.ensures))
