-- The lines of the command line.
use Rattle.std.specs.Prelude.{ℕ, ◌≡◌, ◌<◌, ◌-◌, ◌^◌, IsTrue, List, [], ◌∷◌, Option, Some, None, option_map}
use Rattle.std.specs.Prelude.{is_some, unwrap_or}
use Rattle.ws_words.specs.Digits.{is_number, value_of}
use Rattle.wsc_words.specs.declared.key.Key.{Key}
use Rattle.wsc_words.specs.declared.key.Key.TheVariants.{Budget, Memory, Stats}
use Rattle.wsc_words.specs.Lines.{Given, Gives, text_of}
use Rattle.stream_run.specs.declared.options.Options.{Options}

-- the options that there are
abbrev pub keys : List Key
keys = Budget ∷ Memory ∷ Stats ∷ []

-- how a run is asked for by these: a budget that isn't written is the greatest
abbrev pub options_of : List Given → Options
options_of given = record {
  budget = unwrap_or (option_map value_of (text_of Budget given)) (2 ^ 64 - 1);
  memory = is_some (text_of Memory given);
  stats = is_some (text_of Stats given);
}

-- decimal digits of a word
abbrev pub IsBudget : List ℕ → Type 0
IsBudget text = IsTrue (is_number text) × (value_of text < 2 ^ 64)

-- the budget that is given, if there is one, is a word
abbrev pub HasBudget : List Given → Type 0
HasBudget given = (text : List ℕ) → text_of Budget given ≡ Some text → IsBudget text

-- These words ask for a run so: options in any order, each at most once, and the budget in decimal digits.
pub record AsksForRun (words : List (List ℕ)) (options : Options) : Type 0 where
  pub given : List Given
  pub gives : Gives keys [] words given
  pub number : HasBudget given
  pub is : options ≡ options_of given

-- the number of a budget with this text, and that it has none
abbrev pub BudgetIs : Option (List ℕ) → ℕ → Type 0
BudgetIs None n = n ≡ 2 ^ 64 - 1
BudgetIs (Some text) n = IsBudget text × (n ≡ value_of text)

abbrev pub NoBudget : Option (List ℕ) → Type 0
NoBudget None = ⊥
NoBudget (Some text) = IsBudget text → ⊥
