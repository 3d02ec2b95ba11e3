use Rattle.std.proofs.Common.{refl}
use Rattle.multi_wave.proofs.Homes.{all_home}
use Rattle.multi_wave.proofs.shared.SharedRow.gather.Goals as goal

pub returns : goal.returns
returns g c = all_home _ _ _ refl c.put_back-4.ensures
