-- What the run of a graph answers.
use Rattle.std.specs.Prelude.{◌≡◌, ℕ, ◌≤◌, List}
use Rattle.ws_words.specs.Outside.{Outside, World, printed_words}
use Rattle.ws_words.specs.Plain.{took_by_ports}
use Rattle.cfg_core.specs.Graph.{Graph}
use Rattle.cfg_core.specs.Walk.{Ends, Goes}
use Rattle.cfg_core.specs.Shown.{shown_cells}

-- the walk takes n turns, at most as many as were given, and leaves this
pub record EndsInTurns (g : Graph) (world : World) (turns : ℕ) (printed : List ℕ)
    (arrays took : List (List ℕ)) (n : ℕ) : Type 0 where
  pub outside : Outside
  pub within : n ≤ turns
  pub ends : Ends g world n outside
  pub prints : printed ≡ printed_words outside.acts
  pub leaves : arrays ≡ shown_cells g.arrays outside.cells
  pub taken : took ≡ took_by_ports outside.acts

-- after exactly these turns the walk is going, and has printed this
pub record GoesSo (g : Graph) (world : World) (turns : ℕ) (printed : List ℕ) : Type 0 where
  pub outside : Outside
  pub goes : Goes g world turns outside
  pub prints : printed ≡ printed_words outside.acts
