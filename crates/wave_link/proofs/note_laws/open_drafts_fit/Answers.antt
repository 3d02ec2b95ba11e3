use Rattle.wave_link.proofs.Sound.OpenFits.{open_fits}
use Rattle.wave_link.proofs.note_laws.open_drafts_fit.Goals as goal

pub returns : goal.returns
returns c = open_fits
