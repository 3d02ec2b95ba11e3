-- Words ask for a run in one way at most.
use Rattle.std.proofs.Common.{◌≡◌, ℕ, Bool, List, [], map, Option, option_map, refl, sym, ap, ◌∙◌}
use Rattle.std.specs.Prelude.{◌-◌, ◌^◌, is_some, unwrap_or}
use Rattle.ws_words.specs.Digits.{value_of}
use Rattle.wsc_words.specs.declared.command.Command.TheVariants.{Decouple}
use Rattle.wsc_words.specs.declared.key.Key.TheVariants.{Budget, Memory, Stats}
use Rattle.wsc_words.specs.Lines.{Given, text_of}
use Rattle.wsc_words.proofs.Rows.{row}
use Rattle.wsc_words.proofs.OneLine.{same_rows, same_text, same_flag}
use Rattle.stream_run.specs.declared.options.Options.{Options}
use Rattle.stream_top.specs.Lines.{AsksForRun, options_of}
use Rattle.stream_top.proofs.Budgets.{in_digits}

abbrev asked_by : Option (List ℕ) → Bool → Bool → Options
asked_by budget memory stats = record {
  budget = unwrap_or (option_map value_of budget) (2 ^ 64 - 1);
  memory = memory;
  stats = stats;
}

same_options : (g h : List Given) → map row g ≡ map row h → options_of g ≡ options_of h
same_options g h e =
    ap (λ (o : Option (List ℕ)). asked_by o (is_some (text_of Memory g)) (is_some (text_of Stats g)))
    (same_text g h e Budget refl)
    ∙ ap (λ (m : Bool). asked_by (text_of Budget h) m (is_some (text_of Stats g))) (same_flag g h e Memory)
    ∙ ap (λ (s : Bool). asked_by (text_of Budget h) (is_some (text_of Memory h)) s) (same_flag g h e Stats)

pub one_asking : (words : List (List ℕ)) (options others : Options) → AsksForRun words options
    → AsksForRun words others → options ≡ others
one_asking words options others i j = i.is ∙ same_options i.given j.given (same_rows Decouple words i.given
    j.given i.gives (in_digits words i.given i.gives i.number) j.gives (in_digits words j.given j.gives
    j.number)) ∙ sym j.is
