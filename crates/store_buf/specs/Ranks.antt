-- Places by number.
use Rattle.std.specs.Prelude.{ℕ, ◌≡◌, ◌<◌, ◌≤◌, Option, Some, slice_index_or}
use Rattle.std.specs.List.{Contains}
use Rattle.std.specs.BinaryHeap.{heap_items, heap_len}
use Rattle.std.specs.declared.cmp.Reverse.{Reverse}
use Rattle.store_buf.specs.declared.places.Places.{Places}
use Rattle.store_buf.specs.declared.wave_places.WavePlaces.{WavePlaces}

abbrev pub under : ℕ → ℕ → Reverse (ℕ × ℕ)
under n p = record { 0 = (n, p) }

-- how many there are
abbrev pub places_len : Places → ℕ
places_len places = heap_len places.heap

-- the place is there, under this number
abbrev pub HasPlace : Places → ℕ → ℕ → Type 0
HasPlace places n p = Contains (heap_items places.heap) (under n p)

-- this is the top, and none is under a smaller number
pub record IsTop (places : Places) (n p : ℕ) : Type 0 where
  pub some : 0 < heap_len places.heap
  pub first : slice_index_or (heap_items places.heap) 0 (under n p) ≡ under n p
  pub least : (a b : ℕ) → HasPlace places a b → n ≤ a

-- the place is there under its sequence number, and under its ripple if it has one
pub record IsFiled (places : WavePlaces) (number : ℕ) (ripple : Option ℕ) (p : ℕ) : Type 0 where
  pub turn : HasPlace places.turns number p
  pub load : (r : ℕ) → ripple ≡ Some r → HasPlace places.loads r p
