-- What is kept along a list of events.
use Rattle.std.proofs.Common.{List, [], ◌∷◌}
use Rattle.ws_words.specs.Outside.{World}
use Rattle.ws_isa.specs.Image.{Image}
use Rattle.df_core.specs.Core.{State, Event, Once, Same, Run, Reach, core_opening}
use Rattle.df_core.specs.Fit.{Fit, Grounded}
use Rattle.df_core.proofs.Walked.Facts.{WalkFacts}
use Rattle.df_core.proofs.Keeping.Same.{fit_same, grounded_same}
use Rattle.df_core.proofs.Keeping.Reachable.{opening_fit, opening_grounded, step_kept, step_grounded}
use Rattle.df_core.proofs.Telling.Counting.{once_kept}

pub record Kept (image : Image) (world : World) (s : State) : Type 0 where
  pub fit : Fit image world s
  pub grounded : Grounded image world s
  pub once : Once s.fired

module _ (image : Image) (world : World) (facts : WalkFacts image world) where
  same_kept : (s new : State) → Same new s → Kept image world s → Kept image world new
  same_kept s new e k = record {
    fit = fit_same image world new s e k.fit;
    grounded = grounded_same image world new s e k.grounded;
    once = rw e.fired k.once;
  }

  pub kept : (events : List Event) (s new : State) → Kept image world s → Run image s events new
      → Kept image world new
  kept [] s new k r = same_kept s new r k
  kept (e ∷ es) s new k r = kept es r.0 new (record {
    fit = step_kept image world facts s r.0 e k.fit r.1;
    grounded = step_grounded image world facts s r.0 e k.fit k.grounded r.1;
    once = once_kept image world facts s r.0 e k.fit k.once r.1;
  }) r.2

  pub opened : Kept image world (core_opening image world)
  unfolding core_opening
  opened = record {
    fit = opening_fit image world facts;
    grounded = opening_grounded image world facts;
    once = tt;
  }

  pub reached : (s : State) → Reach image world s → Kept image world s
  reached s r = kept r.0 (core_opening image world) s opened r.1
