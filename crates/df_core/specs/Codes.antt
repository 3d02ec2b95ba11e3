-- The code of a job.
use Rattle.std.specs.Prelude.{◌≡◌}
use Rattle.ws_isa.specs.Image.{Image}
use Rattle.ws_isa.specs.Formed.{Formed}
use Rattle.ws_isa.specs.Sound.{Sound}
use Rattle.df_core.specs.declared.program.Program.{Program}
use Rattle.df_core.specs.Places.{image_of}

-- these are the instructions of the image, which is formed and sound
pub record IsCode (image : Image) (program : Program) : Type 0 where
  pub image_is : image_of program ≡ image
  pub formed : Formed image
  pub sound : Sound image
