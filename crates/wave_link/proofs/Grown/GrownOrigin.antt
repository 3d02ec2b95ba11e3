-- Which instruction of the draft an instruction of the image is.
use Rattle.std.proofs.Common.{ℕ, zero, suc, ◌≡◌, ◌<◌, ◌≤◌, ◌⊎◌, true, cond, eqb, length, Option, Some, None}
use Rattle.std.proofs.Common.{refl, ap, inl, inr, arith, eq-eqb}
use Rattle.std.proofs.lemmas.Bool.{cases_eq}
use Rattle.ws_isa.specs.Image.{Image, flat, first_number, IsIn, IsBlock, IsInstr}
use Rattle.ws_isa.proofs.Blocks.{number_last}
use Rattle.ws_isa.proofs.Steps.{first_le}
use Rattle.wave_link.specs.Grown.{annotated}
use Rattle.wave_link.specs.Adds.{adds}
use Rattle.wave_link.proofs.Parted.Numbers.{one_if, shift, new, nop, first_is, ends_are, new_is}
use Rattle.wave_link.proofs.Grown.GrownRows.{Located, located, instr_positive}
use Rattle.ws_words.proofs.Numbers.{three_ways}

-- the last of the first n instructions whose new number is m
abbrev pub find : Image → ℕ → ℕ → Option ℕ
find draft zero m = None
find draft (suc n) m = cond (eqb (new draft (suc n)) m) (Some (suc n)) (find draft n m)

unfoldable pub origin : Image → ℕ → Option ℕ
origin draft m = find draft (length (flat draft.blocks)) m

record Found (draft : Image) (n m k : ℕ) : Type 0 where
  pub low : 1 ≤ k
  pub high : k ≤ n
  pub is : new draft k ≡ m

found : (draft : Image) (n m k : ℕ) → find draft n m ≡ Some k → Found draft n m k
found draft zero m k e = absurd (cc)
found draft (suc n) m k e = go (λ f. found draft n m k f) (cases_eq (new draft (suc n)) m)
  where
    go : (find draft n m ≡ Some k → Found draft n m k) → (new draft (suc n) ≡ m) ⊎ (new draft (suc n) ≡ m → ⊥)
        → Found draft (suc n) m k
    go rest h = grind (arith, new, find)

finds : (draft : Image) (n m k : ℕ) → 1 ≤ k → k ≤ n → new draft k ≡ m
    → ((j : ℕ) → 1 ≤ j → j ≤ n → new draft j ≡ m → j ≡ k) → find draft n m ≡ Some k
finds draft zero m k l h e u = absurd (omega arith)
finds draft (suc n) m k l h e u = go (λ b. finds draft n m k l b e (λ j a c g. u j a (omega arith) g))
    (cases_eq (new draft (suc n)) m)
  where
    go : (k ≤ n → find draft n m ≡ Some k) → (new draft (suc n) ≡ m) ⊎ (new draft (suc n) ≡ m → ⊥)
        → cond (eqb (new draft (suc n)) m) (Some (suc n)) (find draft n m) ≡ Some k
    go v0 v1 = grind (arith, eq-eqb, new, cases_eq)

-- an instruction, or the no-op, of one block comes before those of later ones
pub before_later : (draft : Image) (b c j k : ℕ) → IsBlock draft b → IsBlock draft c → b < c
    → j < first_number (annotated draft) (suc b) → first_number (annotated draft) c ≤ k → j < k
before_later draft b c j k h i l a e = omega (arith, first_le (annotated draft) (suc b) c l)

new_low : (draft : Image) (b k : ℕ) → IsBlock draft b → IsIn draft b k → first_number (annotated draft) b
    ≤ new draft k
new_low draft b k h i = omega (arith, first_is draft b h, new_is draft b k h i, i.0)

new_high : (draft : Image) (b k : ℕ) → IsBlock draft b → IsIn draft b k
    → new draft k < first_number (annotated draft) (suc b)
new_high draft b k h i = omega (arith, ends_are draft b h, new_is draft b k h i, i.1)

pub new_apart : (draft : Image) (j k : ℕ) → IsInstr draft j → IsInstr draft k → new draft j ≡ new draft k
    → j ≡ k
new_apart draft j k h i e = go (three_ways x.block y.block)
  where
    x : Located draft j
    x = located draft j h

    y : Located draft k
    y = located draft k i

    go : (x.block < y.block) ⊎ ((x.block ≡ y.block) ⊎ (y.block < x.block)) → j ≡ k
    go (inl l) =
        absurd (omega (
          arith,
          e,
          before_later draft x.block y.block (new draft j) (new draft k) x.there
              y.there l (new_high draft x.block j x.there x.inside)
              (new_low draft y.block k y.there y.inside),
        ))
    go (inr (inr l)) =
        absurd (omega (
          arith,
          e,
          before_later draft y.block x.block (new draft k) (new draft j) y.there
              x.there l (new_high draft y.block k y.there y.inside)
              (new_low draft x.block j x.there x.inside),
        ))
    go (inr (inl f)) = omega (
      arith,
      e,
      new_is draft x.block j x.there x.inside,
      new_is draft y.block k y.there y.inside,
      ap (shift draft) f,
    )

pub is_instr : (draft : Image) (b k : ℕ) → IsBlock draft b → IsIn draft b k → IsInstr draft k
is_instr draft b k h i =
    let ih1 = first_le draft (suc b) (suc (length draft.blocks)) (omega (arith, h.1)) in
    grind (arith, instr_positive draft b k h i, number_last draft)

pub origin_new : (draft : Image) (k : ℕ) → IsInstr draft k → origin draft (new draft k) ≡ Some k
unfolding origin
origin_new draft k h = grind (arith, finds, new, new_apart)

pub origin_is : (draft : Image) (m k : ℕ) → origin draft m ≡ Some k → (m ≡ new draft k) × IsInstr draft k
unfolding origin
origin_is draft m k e = grind (arith, found draft (length (flat draft.blocks)) m k e)

pub nop_high : (draft : Image) (b : ℕ) → IsBlock draft b → adds draft b ≡ true
    → nop draft b < first_number (annotated draft) (suc b)
unfolding nop
nop_high draft b h a = omega (arith, ends_are draft b h, ap one_if a)

pub nop_low : (draft : Image) (b : ℕ) → IsBlock draft b → first_number (annotated draft) b ≤ nop draft b
unfolding nop
nop_low draft b h = omega (arith, first_is draft b h, first_le draft b (suc b) (omega arith))

nop_not_in : (draft : Image) (b k : ℕ) → IsBlock draft b → IsIn draft b k → nop draft b ≡ new draft k → ⊥
unfolding nop
nop_not_in draft b k h i e = omega (arith, e, new_is draft b k h i, i.1)

-- a no-op is none of the draft's
pub origin_none : (draft : Image) (b : ℕ) → IsBlock draft b → adds draft b ≡ true
    → origin draft (nop draft b) ≡ None
origin_none draft b h a = go (origin draft (nop draft b)) refl
  where
    go : (o : Option ℕ) → origin draft (nop draft b) ≡ o → o ≡ None
    go None e = refl
    go (Some k) e = absurd (at (three_ways y.block b))
      where
        x : (nop draft b ≡ new draft k) × IsInstr draft k
        x = origin_is draft (nop draft b) k e

        y : Located draft k
        y = located draft k x.1

        at : (y.block < b) ⊎ ((y.block ≡ b) ⊎ (b < y.block)) → ⊥
        at (inl l) = omega (
          arith,
          x.0,
          before_later draft y.block b (new draft k) (nop draft b) y.there h l
              (new_high draft y.block k y.there y.inside) (nop_low draft b h),
        )
        at (inr (inr l)) =
            omega (
              arith,
              x.0,
              before_later draft b y.block (nop draft b) (new draft k) h y.there l
                  (nop_high draft b h a) (new_low draft y.block k y.there y.inside),
            )
        at (inr (inl f)) = nop_not_in draft b k h (rw f at y.inside) x.0
