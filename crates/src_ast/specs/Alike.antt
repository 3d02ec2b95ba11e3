-- Programs that run alike.
use Rattle.std.specs.Prelude.{◌≡◌, ℕ, List}
use Rattle.ws_words.specs.Outside.{Outside, World}
use Rattle.src_ast.specs.Syntax.{Part}
use Rattle.src_ast.specs.Meaning.{run}
use Rattle.src_ast.specs.Runs.{Runs, Goes, Faults}

-- in every world what one does is what the other does, turn by turn
pub record RunAlike (a b : List Part) : Type 0 where
  pub passing : (world : World) (n : ℕ) → run a world n ≡ run b world n
  pub ending : (world : World) (n : ℕ) (end : Outside) → Runs a world n end → Runs b world n end
  pub going : (world : World) (n : ℕ) (now : Outside) → Goes a world n now → Goes b world n now
  pub faulting : (world : World) (n array : ℕ) (state : Outside) → Faults a world n array state
      → Faults b world n array state
