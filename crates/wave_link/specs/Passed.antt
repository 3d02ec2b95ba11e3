-- How the walk of an image follows its draft's.
use Rattle.std.specs.Prelude.{ℕ, zero, suc, ◌+◌, ◌-◌, ◌≡◌, ◌≤◌, true, cond, length}
use Rattle.ws_words.specs.Outside.{World}
use Rattle.ws_isa.specs.Image.{Image, size_of}
use Rattle.ws_isa.specs.Walk.{Pos, pos, is_within, mem, walk, has_ended, CostAtMost}

-- n where a step leaves a block, else 0
abbrev pub where_left : Image → Pos → ℕ → ℕ
where_left image p n = cond p.over 0 (cond (is_within image p) 0 n)

-- how many blocks the first t steps of a walk leave
unfoldable pub blocks_left : Image → World → ℕ → ℕ
blocks_left image world zero = 0
blocks_left image world (suc t) = blocks_left image world t
    + where_left image (pos image world t) 1

-- how many instructions these blocks have more in the image than in the draft
unfoldable pub added_left : Image → Image → World → ℕ → ℕ
added_left draft image world zero = 0
added_left draft image world (suc t) = added_left draft image world t
    + where_left draft (pos draft world t) (size_of image (pos draft world t).block
    - size_of draft (pos draft world t).block)

-- The first t steps of the draft's walk are these first steps of the image's: they leave the same
-- outside, acts included, have ended where these have, and fire what was added to the blocks that
-- are left besides.
pub record FollowsFor (draft image : Image) (world : World) (t : ℕ) : Type 0 where
  pub steps : ℕ
  pub as_many : t ≤ steps
  pub outside : mem image world steps ≡ mem draft world t
  pub ended : has_ended image world steps ≡ has_ended draft world t
  pub fired : length (walk image world steps)
      ≡ length (walk draft world t) + added_left draft image world t

-- The image's walk does what the draft's does, ends where that ends, and costs at most one more for
-- each block that is left.
pub record WalksFor (draft image : Image) (world : World) : Type 0 where
  pub follows : (t : ℕ) → FollowsFor draft image world t
  pub ends : (t : ℕ) → has_ended image world t ≡ true → has_ended draft world t ≡ true
  pub added : (t : ℕ) → added_left draft image world t ≤ blocks_left draft world t
  pub costs : (k : ℕ) → ((t : ℕ) → length (walk draft world t) + blocks_left draft world t ≤ k) →
      CostAtMost image world k
