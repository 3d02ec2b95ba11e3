use Rattle.part_store.proofs.Moving.Keeping as K
use Rattle.part_store.proofs.laws.moves_keep.Goals as goal

pub returns : goal.returns
returns c image world began formed sound old new tokens moves s =
    K.moves_keep image world formed sound began old new tokens moves s
