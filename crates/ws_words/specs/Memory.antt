-- What the code holds of what a run has outside its variables.
use Rattle.std.specs.Prelude.{◌≡◌, ℕ, List, length, map}
use Rattle.ws_words.specs.Outside.{Act, Outside, printed_words}
use Rattle.ws_words.specs.Past.{after_act}
use Rattle.ws_words.specs.Plain.{took_by_ports}
use Rattle.ws_words.specs.declared.memory.Memory.{Memory}

-- what is outside is what the code holds; of the acts it holds the words printed and taken
pub record OutIs (o : Outside) (m : Memory) : Type 0 where
  pub same_cells : o.cells ≡ m.cells
  pub same_input : o.input ≡ m.input
  pub same_left : o.left ≡ m.left.items
  pub same_printed : printed_words o.acts ≡ m.printed
  pub same_took : took_by_ports o.acts ≡ m.took

-- the lengths of arrays with these cells
abbrev pub lengths_of : List (List ℕ) → List ℕ
lengths_of cells = map (λ (words : List ℕ). length words) cells

-- one memory holds what is outside before an act, and the other what is outside after it
abbrev pub Does : Act → Memory → Memory → Type 0
Does act before after = (o : Outside) → OutIs o before → OutIs (after_act o act) after
