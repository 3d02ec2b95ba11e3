use Rattle.ws_isa.proofs.GoesOn as laws
use Rattle.ws_isa.proofs.laws.checked_images_walk.Goals as goal

pub returns : goal.returns
returns c = record { there = laws.formed_there; walks = laws.sound_walks }
