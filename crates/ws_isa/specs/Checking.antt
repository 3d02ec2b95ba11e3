-- What each image keeps that a machine runs.
use Rattle.ws_isa.specs.Image.{Image}
use Rattle.ws_isa.specs.Formed.{Formed}
use Rattle.ws_isa.specs.Sound.{Sound}

pub record Rules (image : Image) : Type 0 where
  pub formed : Formed image
  pub sound : Sound image
