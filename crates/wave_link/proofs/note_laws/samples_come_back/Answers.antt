use Rattle.std.proofs.Common.{◌≡◌, None, refl}
use Rattle.wave_link.specs.Samples.{annotated_b, draft_b}
use Rattle.wave_link.specs.Vain.{without}
use Rattle.wave_link.specs.Renoted.{renoted}
use Rattle.wave_link.proofs.note_laws.samples_come_back.Goals as goal

same : renoted (without annotated_b 7) (λ k. None) ≡ draft_b
unfolding without renoted
same = refl

pub returns : goal.returns
returns c = same
