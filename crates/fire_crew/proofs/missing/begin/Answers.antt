use Rattle.std.proofs.Common.{arith}
use Rattle.fire_crew.proofs.Paid.{zero_at}
use Rattle.fire_crew.proofs.missing.begin.Goals as goal

pub returns : goal.returns
returns g c = λ way k lt j d low high within. (let z = zero_at 16 k in absurd (omega (arith, z, high)))
