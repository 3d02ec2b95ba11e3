-- Look-ups of the code in blocks, arrays and landings.
use Rattle.std.proofs.Common.{ℕ, zero, suc, ◌-◌, ◌≡◌, ◌<◌, ◌≤◌, true, not, eqb, List, [], ◌∷◌, length, map}
use Rattle.std.proofs.Common.{min, slice_index, slice_index_or, refl, sym, ap, arith}
use Rattle.ws_isa.specs.declared.image.Block.{Block}
use Rattle.ws_isa.specs.declared.image.ArrayDecl.{ArrayDecl}
use Rattle.ws_isa.specs.Image as plain
use Rattle.ws_isa.specs.Image.{Image, no_block, block_at, is_first, array_length, landing_of}
use Rattle.ws_isa.specs.View as view
use Rattle.ws_words.specs.Items.{nth, or_else}

-- a block by its place, whatever is read past the end
pub block_read : (xs : List Block) (n : ℕ) (d : Block) → n < length xs → or_else (nth (map view.block xs) n)
    no_block ≡ view.block (slice_index_or xs n d)
block_read (y ∷ xs) (suc n) d l = block_read xs n d (omega arith)
block_read xs n d l = grind arith

-- the length of an array that is there
pub array_found : (xs : List ArrayDecl) (a n : ℕ) (x : ArrayDecl) → a ≡ suc n → n < length xs
    → x ≡ slice_index_or xs n x → x.length ≡ array_length (map view.array xs) a
array_found xs a n x s l e = rw s (at xs n l e)
  where
    at : (xs : List ArrayDecl) (n : ℕ) → n < length xs → x ≡ slice_index_or xs n x
        → x.length ≡ array_length (map view.array xs) (suc n)
    at [] n l e = absurd (omega arith)
    at (y ∷ xs) zero l e = ap (λ (z : ArrayDecl). z.length) e
    at (y ∷ xs) (suc n) l e = at xs n (omega arith) e

-- an array that is not there has length 0
pub array_past : (xs : List ArrayDecl) (a n : ℕ) → a ≡ suc n → length xs ≤ n
    → 0 ≡ array_length (map view.array xs) a
array_past xs a n s l = rw s (at xs n l)
  where
    at : (xs : List ArrayDecl) (n : ℕ) → length xs ≤ n → 0 ≡ array_length (map view.array xs) (suc n)
    at [] n l = refl
    at (y ∷ xs) zero l = absurd (omega arith)
    at (y ∷ xs) (suc n) l = at xs n (omega arith)

-- block 1 is the first of its wave
pub starts_one : (image : Image) (place : ℕ) → place ≡ 0 → true ≡ is_first image (suc place)
unfolding is_first
starts_one image place e = rw e refl

-- another block is, if the one before it lies in another wave
pub starts_other : (image : Image) (place m : ℕ) (x y : plain.Block) → place ≡ suc m
    → or_else (nth image.blocks m) no_block ≡ x → or_else (nth image.blocks place) no_block ≡ y
    → not (eqb y.wave x.wave) ≡ is_first image (suc place)
unfolding is_first block_at
starts_other image place m x y s ex ey = rw (sym ex, sym ey, s) refl

-- the landing that the code looks up
pub landing_found : (ls : List ℕ) (a : ℕ) → slice_index ls (min a (length ls - 1)) ≡ landing_of ls a
landing_found (l ∷ m ∷ ls) (suc a) = let e : min (suc a) (length (l ∷ m ∷ ls) - 1)
    ≡ suc (min a (length (m ∷ ls) - 1)) = omega arith in rw e (landing_found (m ∷ ls) a)
landing_found ls a = grind arith
