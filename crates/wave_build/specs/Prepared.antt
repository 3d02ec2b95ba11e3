-- The graph of a program of which its draft is made, and what its walk shows.
use Rattle.std.specs.Prelude.{◌≡◌, ℕ, List}
use Rattle.ws_words.specs.Outside.{Outside, World}
use Rattle.src_ast.specs.Syntax.{Part}
use Rattle.src_ast.specs.Meaning.{Passes, Flows}
use Rattle.cfg_core.specs.Graph.{Graph}
use Rattle.cfg_core.specs.Walk.{Ends, Goes}
use Rattle.cfg_core.specs.Shown.{shown_acts, shown_cells, shown_arrays, StaysInside}
use Rattle.cfg_build.specs.Keeps.{arrays_of}
use Rattle.live_vars.specs.Marks.{AreLive}
use Rattle.call_gen.specs.Keeps.{HasNoSend}
use Rattle.wave_build.specs.Passed.{Lowered, Joined, ReachedPart, CallsSpelled}

-- what is outside in a walk of a graph shows this
pub record Shown (g : Graph) (now o : Outside) : Type 0 where
  pub acts : shown_acts g.arrays now.acts ≡ o.acts
  pub cells : shown_cells g.arrays now.cells ≡ o.cells
  pub input : now.input ≡ o.input
  pub left : now.left ≡ o.left

-- The walk of a graph shows the unchecked run of a program, turn by turn, and stays inside hidden
-- arrays; the shown arrays are the program's.
pub record ShowsProgram (parts : List Part) (g : Graph) : Type 0 where
  pub ends : (world : World) (n : ℕ) (o : Outside) → Passes parts world n o →
      (p : Outside) × Ends g world n p × Shown g p o
  pub ends_only : (world : World) (n : ℕ) (p : Outside) → Ends g world n p →
      (o : Outside) × Passes parts world n o × Shown g p o
  pub goes : (world : World) (n : ℕ) (o : Outside) → Flows parts world n o →
      (p : Outside) × Goes g world n p × Shown g p o
  pub goes_only : (world : World) (n : ℕ) (p : Outside) → Goes g world n p →
      (o : Outside) × Flows parts world n o × Shown g p o
  pub inside : (world : World) → StaysInside g world
  pub arrays : shown_arrays g.arrays ≡ arrays_of parts

-- the graph with short branches joined, and the one from which it comes
pub record Begun (parts : List Part) (joined : Graph) : Type 0 where
  pub lowered : Graph
  pub lowering : Lowered parts lowered
  pub joining : Joined lowered joined
  pub no_send : HasNoSend joined
  pub shows : ShowsProgram parts joined

-- the graph with calls spelled out, and those from which it comes
pub record Prepared (parts : List Part) (spelled : Graph) : Type 0 where
  pub joined : Graph
  pub kept : Graph
  pub needed : List (List ℕ)
  pub begun : Begun parts joined
  pub keeping : ReachedPart joined kept
  pub needing : AreLive kept needed
  pub spelling : CallsSpelled kept needed spelled
  pub shows : ShowsProgram parts spelled
