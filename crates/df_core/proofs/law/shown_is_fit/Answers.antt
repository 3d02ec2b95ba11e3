use Rattle.df_core.proofs.Walked.PortsThere.{ports_there}
use Rattle.df_core.proofs.Walked.FromSound.{facts_of}
use Rattle.df_core.proofs.Telling.ShownFit.{shown_fit}
use Rattle.df_core.proofs.law.shown_is_fit.Goals as goal

pub returns : goal.returns
returns c = λ image world formed sound tables buffer t b. shown_fit image world
    (facts_of image world (ports_there image formed) sound) tables buffer t b
