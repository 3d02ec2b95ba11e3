-- Plans that are drawn from a graph, and what they make.
use Rattle.std.specs.Prelude.{ℕ, ◌≡◌, Bool, true, List}
use Rattle.ws_isa.specs.Image.{Array, cells_of}
use Rattle.cfg_core.specs.Graph.{Graph}
use Rattle.cfg_core.specs.Rules.{IsGraph}
use Rattle.cfg_core.specs.Walk as walks
use Rattle.wave_gen.specs.Plans.{Plan}
use Rattle.wave_gen.proofs.Planning.Planned.{PlansAre}
use Rattle.wave_gen.proofs.Planning.DrawnPlans.{Drawn}

-- plans that make a draft, drawn from a graph that keeps its rules; the arrays have the graph's lengths
pub record IsDrawn (g : Graph) (arrays : List Array) (width : ℕ) (ps : List Plan) (live : ℕ → ℕ → Bool)
    (place : ℕ → ℕ) (zeroed : ℕ → List ℕ) : Type 0 where
  pub plans : PlansAre ps width (λ b x. live b x ≡ true)
  pub rules : IsGraph g
  pub drawn : Drawn g ps width place zeroed
  pub cells : cells_of arrays ≡ walks.cells_of g.arrays
