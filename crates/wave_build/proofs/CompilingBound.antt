-- What the walk of a program's image costs.
use Rattle.std.proofs.Common.{ℕ, ◌≤◌, List}
use Rattle.ws_words.specs.Outside.{World, WorldOfWords}
use Rattle.src_ast.specs.Syntax.{Part}
use Rattle.src_ast.specs.Bound.{widest}
use Rattle.src_ast.specs.LanguageLimits.{most_statement_nodes}
use Rattle.ws_isa.specs.Image.{Image}
use Rattle.cfg_core.specs.Graph.{Graph}
use Rattle.live_vars.specs.Marks.{has, AreLive}
use Rattle.wave_cut.specs.Cut.{Cut, IsCut, AreWaves}
use Rattle.wave_gen.specs.Cost.{CostsAtMost}
use Rattle.wave_link.specs.Passed.{WalksFor}
use Rattle.wave_build.specs.Compiled.{KeepsBound}
use Rattle.wave_build.specs.Passed.{Costed, LastGraphs, PassGraphs}
use Rattle.wave_build.specs.Prepared.{ShowsProgram, Prepared}
use Rattle.wave_build.proofs.Bounding.{stays_within}

pub all_passed : (parts : List Part) (g : Graph) (p : Prepared parts g) (live : List (List ℕ)) (cut : Cut)
    → AreLive g live → IsCut g cut → AreWaves g cut →
    PassGraphs parts p.begun.lowered p.joined p.kept g p.needed live cut
all_passed parts g p live cut l c w = record {
  lowering = p.begun.lowering;
  joining = p.begun.joining;
  last = record {
    keeping = p.keeping;
    needing = p.needing;
    spelling = p.spelling;
    living = l;
    cutting = c;
    waving = w;
  };
}

-- the graphs from the one on that is charged no more than the program allows
module _ (parts : List Part) (j k g : Graph) (needed live : List (List ℕ)) (cut : Cut) (C : Costed parts j)
    (P : LastGraphs j k g needed live cut) (shows : ShowsProgram parts g)
    (narrow : widest parts ≤ most_statement_nodes) where
  pub keeps_bound : (draft image : Image) →
      ((world : World) → WorldOfWords world → (turns : ℕ) → CostsAtMost g (has live) draft world turns)
      → ((world : World) → WalksFor draft image world) → KeepsBound parts image
  keeps_bound draft image costs walks world words n o passes =
      let r = shows.ends world n o passes in
      stays_within parts j k g needed live cut narrow C P draft image world n (costs world words n)
      (walks world) r.0 r.1
