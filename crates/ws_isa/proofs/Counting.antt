-- The list of the numbers of first instructions, as it is made.
use Rattle.std.proofs.Common.{ℕ, zero, suc, ◌+◌, ◌≡◌, ◌≤◌, List, [], ◌∷◌, ◌++◌, length, slice_index, refl}
use Rattle.std.proofs.Common.{sym, ap, ◌∙◌, arith}
use Rattle.ws_isa.specs.Image.{Block, first_of}

-- the numbers of the first instructions of blocks, where the first one has this, and the number after
abbrev pub numbers_from : ℕ → List Block → List ℕ
numbers_from n [] = n ∷ []
numbers_from n (b ∷ bs) = n ∷ numbers_from (n + length b.instrs) bs

pub numbers_length : (n : ℕ) (bs : List Block) → length (numbers_from n bs) ≡ suc (length bs)
numbers_length n [] = refl
numbers_length n (b ∷ bs) = ap suc (numbers_length (n + length b.instrs) bs)

pub first_one : (bs : List Block) → first_of bs zero ≡ 1
first_one [] = refl
first_one (b ∷ bs) = refl

counted : (bs : List Block) (s n : ℕ) → n ≤ length bs →
    suc (slice_index (numbers_from s bs) n) ≡ s + first_of bs n
counted (b ∷ bs) s (suc n) l =
    let e : suc (slice_index (numbers_from (s + length b.instrs) bs) n) ≡ (s + length b.instrs) + first_of bs
    n = counted bs (s + length b.instrs) n (omega arith) in
    omega arith
counted bs s n l = grind (arith, first_one)

-- the number at a place is that of the first instruction of the block there
pub number_at : (bs : List Block) (n : ℕ) → n ≤ length bs → slice_index (numbers_from 1 bs) n ≡ first_of bs n
number_at bs n l = grind (arith, slice_index, counted)

-- when no block is left, the number after the last one is put at the end
module _ (all rest : List Block) (done new : List ℕ) (next : ℕ) (e : new ≡ done ++ next ∷ [])
    (none : rest ≡ []) (h : done ++ numbers_from next rest ≡ numbers_from 1 all) where
  whole : new ≡ numbers_from 1 all
  whole = e ∙ ap (λ (bs : List Block). done ++ numbers_from next bs) (sym none) ∙ h

  -- one number for each block, and one more
  pub whole_length : length new ≡ suc (length all)
  whole_length = ap length whole ∙ numbers_length 1 all

  -- each is that of its block
  pub whole_at : (n : ℕ) → n ≤ length all → slice_index new n ≡ first_of all n
  whole_at n l = ap (λ (ns : List ℕ). slice_index ns n) whole ∙ number_at all n l
