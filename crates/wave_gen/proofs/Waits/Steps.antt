-- The blocks in which the walk of a draft stands.
use Rattle.std.proofs.Common.{ℕ, zero, suc, ◌≡◌, ◌<◌, ◌≤◌, Bool, false, cond, refl, arith}
use Rattle.ws_isa.specs.Image.{Image, first_number, stops, target, is_first}
use Rattle.ws_words.specs.Outside.{World}
use Rattle.ws_isa.specs.Walk.{Pos, pos, opening, fire}
use Rattle.wave_gen.proofs.Waits.WalkShape.{WalkShape}
use Rattle.ws_isa.proofs.Steps.{Place, first_up}

module _ (image : Image) (world : World) (shape : WalkShape image) where
  pub place_start : Place image (opening image world)
  unfolding opening is_first
  place_start = grind (arith, first_up)

  pub place_fire : (p : Pos) → Place image p → p.next < first_number image (suc p.block)
      → Place image (fire image p)
  place_fire p a l = grind arith

  pub place_leave : (p : Pos) (r : ℕ) → Place image p → stops image p.block ≡ false → (q : Pos)
      → q.block ≡ target image p.block r → q.next ≡ first_number image (target image p.block r) →
      q.wave ≡ cond (is_first image (target image p.block r)) (suc p.wave) p.wave → Place image q
  place_leave p r a s q b n w = record {
    block = rw b ((shape.edges p.block a.block).there r s);
    low = rw (b, n) (omega arith);
    high = rw (b, n) (first_up image (target image p.block r));
    wave = rw w (up (is_first image (target image p.block r)));
  }
    where
      up : (f : Bool) → 1 ≤ cond f (suc p.wave) p.wave
      up f = grind arith

  pub pos_start : pos image world zero ≡ opening image world
  unfolding pos
  pos_start = refl
