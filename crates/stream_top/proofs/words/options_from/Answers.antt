use Rattle.std.proofs.Common.{refl}
use Rattle.wsc_words.specs.declared.command.Command.TheVariants.{Decouple}
use Rattle.wsc_words.specs.declared.key.Key.TheVariants.{Memory, Stats}
use Rattle.wsc_words.proofs.Results.{flag_is}
use Rattle.stream_top.proofs.Budgets.{has_budget, options_are, no_budget}
use Rattle.stream_top.proofs.words.options_from.Goals as goal

pub returns-in_err-budget-clause-none : goal.returns-in_err-budget-clause-none
returns-in_err-budget-clause-none c = λ given tells. rw c.from_residual.ensures
    (λ has. no_budget _ given tells c.in_err-budget.ensures.none has)

pub returns-clause-some : goal.returns-clause-some
returns-clause-some c = λ given tells.
    let memory = flag_is Decouple _ given tells Memory c.get_flag.result refl c.get_flag.ensures.none
    c.get_flag.ensures.value c.get_flag.ensures.other in
    let stats = flag_is Decouple _ given tells Stats c.get_flag-2.result refl c.get_flag-2.ensures.none
    c.get_flag-2.ensures.value c.get_flag-2.ensures.other in (
      has_budget _ given tells _ c.in_ok-budget.ensures.some,
      options_are _ given tells _ _ _ c.in_ok-budget.ensures.some memory stats,
    )
