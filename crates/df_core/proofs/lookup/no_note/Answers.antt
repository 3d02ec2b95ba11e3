use Rattle.std.proofs.Common.{refl}
use Rattle.ws_isa.specs.Image.{no_note}
use Rattle.df_core.proofs.lookup.no_note.Goals as goal

pub returns : goal.returns
unfolding no_note
returns c = refl
