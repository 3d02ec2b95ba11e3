-- The graphs of a program whose calls are inlined.
use Rattle.std.specs.Prelude.{ℕ, ◌+◌, ◌*◌, ◌≤◌, max, List, [], ◌∷◌}
use Rattle.src_ast.specs.Syntax.{Part}
use Rattle.src_ast.specs.Bound.{most_variables}
use Rattle.cfg_core.specs.Graph.{GraphProc, Graph}
use Rattle.cfg_core.specs.Rules.{IsGraph}
use Rattle.cfg_core.specs.Shape.{ArmsAlone}
use Rattle.live_vars.specs.Marks.{AreLive}
use Rattle.phi_conv.specs.Joined.{more_vars}
use Rattle.call_gen.specs.Keeps.{HasNoSend}
use Rattle.call_gen.specs.Sizes.{KeepsSizes}
use Rattle.wave_build.specs.Passed.{Costed, ReachedPart, CallsSpelled}
use Rattle.wave_build.specs.Prepared.{ShowsProgram}
use Rattle.wave_build.specs.Small.{sizes_with}

-- A graph of a program, whose procedures have at most so many variables: what the passes rest on that drop
-- unreached blocks and spell calls out.
pub record Opened (parts : List Part) (vars : ℕ) (g : Graph) : Type 0 where
  pub costs : Costed parts g
  pub arms : ArmsAlone g
  pub no_send : HasNoSend g
  pub ops : ℕ
  pub nodes : ℕ
  pub sizes : KeepsSizes (sizes_with vars ops nodes) g
  pub shows : ShowsProgram parts g

-- the most variables of a procedure, and no fewer than n
abbrev pub widest_from : ℕ → List GraphProc → ℕ
widest_from n [] = n
widest_from n (p ∷ ps) = widest_from (max p.vars n) ps

-- `h` is `g` with calls inlined, with at most so much room for the variables of callees: where a call pays
-- for that, it is open as `g` is.
pub record InlinedOnce (most : ℕ) (g h : Graph) : Type 0 where
  pub rules : IsGraph h
  pub opened : (parts : List Part) (vars : ℕ) → 6 * most ≤ 43 * most_variables parts + 174 →
      Opened parts vars g → (room : ℕ) × (room ≤ most) × Opened parts (vars + room) h

-- the graph with calls inlined
pub record Inlined (parts : List Part) (g : Graph) : Type 0 where
  pub vars : ℕ
  pub few : vars ≤ more_vars (most_variables parts) + 516
  pub opened : Opened parts vars g

-- the graph with calls spelled out, and those from which it comes
pub record Optimized (parts : List Part) (spelled : Graph) : Type 0 where
  pub given : Graph
  pub kept : Graph
  pub needed : List (List ℕ)
  pub inlined : Inlined parts given
  pub keeping : ReachedPart given kept
  pub needing : AreLive kept needed
  pub spelling : CallsSpelled kept needed spelled
  pub shows : ShowsProgram parts spelled
