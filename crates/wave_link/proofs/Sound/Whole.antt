-- The image of a draft that is open to notes is sound.
use Rattle.std.proofs.Common.{arith}
use Rattle.ws_isa.specs.Image.{Image}
use Rattle.ws_isa.specs.Sound.{Sound}
use Rattle.wave_link.specs.Fit.{FitForNotes}
use Rattle.wave_link.specs.Grown.{annotated}
use Rattle.wave_link.proofs.Sound.ShapeOf.{shape_rules}
use Rattle.wave_link.proofs.Sound.WalksOf.{keeps_slots}
use Rattle.wave_link.proofs.Linked.LinksMarked.{links_kept, ripples_kept}

pub is_sound : (draft : Image) → FitForNotes draft → Sound (annotated draft)
is_sound draft ok =
    grind (arith, shape_rules draft ok, keeps_slots draft ok, links_kept draft ok, ripples_kept draft ok)
