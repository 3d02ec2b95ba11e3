-- The slot rules by one set of open slots per place: what a checker computes.
use Rattle.std.specs.Prelude.{ℕ, suc, ◌≡◌, ◌<◌, Bool, true, false}
use Rattle.ws_isa.specs.Image.{Image, ports, first_number, stops, target, is_first, now_dests, start_dests}
use Rattle.ws_isa.specs.Image.{IsIn}
use Rattle.ws_isa.specs.Sound.{OpenSlots, none_open, all_opened, Fresh, closed, opens_at, AdvancesOpen}

-- the same slots are open
abbrev pub Alike : OpenSlots → OpenSlots → Type 0
Alike o p = (j q : ℕ) → o j q ≡ p j q

-- reached blocks, and the open slots before instruction k of block b
pub record SlotCert (image : Image) (reached : ℕ → Bool) (open_at : ℕ → ℕ → OpenSlots) : Type 0 where
  pub start : reached 1 ≡ true
  pub start_open : Alike (all_opened (start_dests image) none_open) (open_at 1 (first_number image 1))
  pub turn_open : (b k : ℕ) → reached b ≡ true → IsIn image b k
      → Alike (all_opened (now_dests image k) (closed k (open_at b k))) (open_at b (suc k))
  pub edge_reached : (b r : ℕ) → reached b ≡ true → stops image b ≡ false → reached (target image b r) ≡ true
  pub edge_open : (b r : ℕ) → reached b ≡ true → stops image b ≡ false →
      Alike (all_opened (opens_at image b r) (open_at b (first_number image (suc b))))
      (open_at (target image b r) (first_number image (target image b r)))
  pub start_fresh : Fresh (start_dests image) none_open
  pub has_all : (b k : ℕ) → reached b ≡ true → IsIn image b k → (q : ℕ) → q < ports image k
      → open_at b k k q ≡ true
  pub fresh : (b k : ℕ) → reached b ≡ true → IsIn image b k
      → Fresh (now_dests image k) (closed k (open_at b k))
  pub edges : (b r : ℕ) → reached b ≡ true → stops image b ≡ false
      → Fresh (opens_at image b r) (open_at b (first_number image (suc b)))
  pub first_open : (b : ℕ) → reached b ≡ true → is_first image b ≡ true
      → AdvancesOpen image b (open_at b (first_number image b))
  pub stop : (b : ℕ) → reached b ≡ true → stops image b ≡ true
      → Alike (open_at b (first_number image (suc b))) none_open
