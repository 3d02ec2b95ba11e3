-- Graphs of which plans can be made.
use Rattle.std.specs.Prelude.{ℕ, ◌≡◌, ◌<◌, ◌↔◌, Bool, true, false, length}
use Rattle.cfg_core.specs.Graph.{Term, Branch, Graph, spots, spot_at, block_at}
use Rattle.cfg_core.specs.Rules.{IsGraph, calls}
use Rattle.cfg_core.specs.Shape.{BranchesApart}
use Rattle.live_vars.specs.Live.{Live}
use Rattle.wave_cut.specs.Cut.{Cut, IsCut, AreWaves}
use Rattle.wave_gen.specs.Listing.{landings_of}
use Rattle.ws_words.specs.Items.{In}
use Rattle.cfg_core.specs.Weights.{first_block}

-- A graph with its live variables and its waves, without calls: what is live where a Send lands is
-- what it brings, and nothing is live at the start. Each branch leads forward, to two blocks that no
-- other edge enters.
pub record Fits (g : Graph) (live : ℕ → ℕ → Bool) (cut : Cut) : Type 0 where
  pub graph : IsGraph g
  pub sets : (b x : ℕ) → b < length (spots g) → x < (spot_at g b).vars →
      (live b x ≡ true) ↔ Live g b x
  pub cuts : IsCut g cut
  pub waves : AreWaves g cut
  pub no_call : (b : ℕ) → calls (block_at g b).exit ≡ false
  pub brought : (b l x : ℕ) → In l (landings_of (block_at g b).exit) → Live g l x →
      In x (block_at g l).named
  pub start : (x : ℕ) → Live g (first_block g) x → ⊥
  pub apart : (a : ℕ) (t : Term) (b c : ℕ) → (block_at g a).exit ≡ Branch t b c →
      BranchesApart g a b c
  pub ahead : (a : ℕ) (t : Term) (b c : ℕ) → (block_at g a).exit ≡ Branch t b c →
      (a < b) × (a < c)
