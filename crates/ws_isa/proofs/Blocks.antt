-- Blocks and instructions by number, and by place in the code's lists.
use Rattle.std.proofs.Common.{ℕ, zero, suc, ◌+◌, ◌-◌, ◌≡◌, ◌<◌, ◌≤◌, List, [], ◌∷◌, ◌++◌, length, Option}
use Rattle.std.proofs.Common.{refl, ap, ◌∙◌, arith, length-append, Some}
use Rattle.ws_isa.specs.Image.{Instr, Block, Image, no_instr, no_block, flat, instr_at, block_at, first_of}
use Rattle.ws_isa.specs.Image.{first_number, size_of, IsBlock}
use Rattle.ws_isa.proofs.Counting.{first_one}
use Rattle.ws_words.specs.Items.{nth, or_else}
use Rattle.ws_words.proofs.Places.{nth_append_left}
use Rattle.std.specs.List.{AllByRecursion}

pub nth_append_right : {A : Type 0} (xs ys : List A) (k : ℕ) → nth (xs ++ ys) (length xs + k) ≡ nth ys k
nth_append_right [] ys k = let e : 0 + k ≡ k = omega arith in rw e refl
nth_append_right (x ∷ xs) ys k = grind (arith, nth_append_right xs ys k)

-- instruction i of the block at place n
in_flat : (bs : List Block) (n i m : ℕ) → n < length bs → i < length (or_else (nth bs n) no_block).instrs
    → suc m ≡ first_of bs n + i → nth (flat bs) m ≡ nth (or_else (nth bs n) no_block).instrs i
in_flat (b ∷ bs) (suc n) i m l h e =
    let p : 1 ≤ first_of bs n = positive bs n in
    let f : m ≡ length b.instrs + (m - length b.instrs) = omega arith in
    rw f (nth_append_right b.instrs (flat bs) (m - length b.instrs) ∙ in_flat bs n i (m - length b.instrs)
    (omega arith) h (omega arith))
  where
    positive : (bs : List Block) (n : ℕ) → 1 ≤ first_of bs n
    positive bs zero = let z : first_of bs zero ≡ 1 = first_one bs in omega arith
    positive [] (suc n) = omega arith
    positive (b ∷ bs) (suc n) = let h : 1 ≤ first_of bs n = positive bs n in omega arith
in_flat bs n i m l h e = grind (arith, nth_append_left)

first_next : (bs : List Block) (n : ℕ) → n < length bs → first_of bs (suc n) ≡ first_of bs n + length
    (or_else (nth bs n) no_block).instrs
first_next (b ∷ bs) (suc n) l = let z : first_of bs (suc n) ≡ first_of bs n + length
    (or_else (nth bs n) no_block).instrs = first_next bs n (omega arith) in omega arith
first_next bs n l = grind (arith, first_one)

-- the number after the last instruction
pub first_last : (bs : List Block) → first_of bs (length bs) ≡ suc (length (flat bs))
first_last [] = refl
first_last (b ∷ bs) = grind (arith, length-append, first_last bs)

-- a block by its place
pub block_is : (image : Image) (n : ℕ) → block_at image (suc n) ≡ or_else (nth image.blocks n) no_block
unfolding block_at
block_is image n = refl

-- an instruction by its block and its place there
pub instr_is : (image : Image) (n i k : ℕ) → n < length image.blocks
    → i < length (or_else (nth image.blocks n) no_block).instrs → k ≡ first_number image (suc n) + i
    → instr_at image k ≡ or_else (nth (or_else (nth image.blocks n) no_block).instrs i) no_instr
unfolding instr_at first_number
instr_is image n i zero l h e = absurd (let p : 1 ≤ first_of image.blocks n = positive image.blocks n in
    omega arith)
  where
    positive : (bs : List Block) (n : ℕ) → 1 ≤ first_of bs n
    positive bs zero = let z : first_of bs zero ≡ 1 = first_one bs in omega arith
    positive [] (suc n) = omega arith
    positive (b ∷ bs) (suc n) = let h : 1 ≤ first_of bs n = positive bs n in omega arith
instr_is image n i (suc m) l h e = ap (λ (o : Option Instr). or_else o no_instr)
    (in_flat image.blocks n i m l h e)

-- the next block's first number
pub number_next : (image : Image) (n : ℕ) → n < length image.blocks → first_number image (suc (suc n))
    ≡ first_number image (suc n) + length (or_else (nth image.blocks n) no_block).instrs
unfolding first_number
number_next image n l = first_next image.blocks n l

-- the number after the last instruction, by the number of blocks
pub number_last : (image : Image) → first_number image (suc (length image.blocks))
    ≡ suc (length (flat image.blocks))
unfolding first_number
number_last image = first_last image.blocks

pub number_one : (image : Image) → first_number image 1 ≡ 1
unfolding first_number
number_one image = first_one image.blocks

-- how many instructions a block has
pub size_is : (image : Image) (n : ℕ) → n < length image.blocks → size_of image (suc n)
    ≡ length (or_else (nth image.blocks n) no_block).instrs
unfolding size_of
size_is image n l = grind (arith, image.blocks, number_next)

-- the number of a block's first instruction, by the place of the block
pub first_in : (image : Image) (n : ℕ) → first_of image.blocks n ≡ first_number image (suc n)
unfolding first_number
first_in image n = refl

-- a block's instructions are within the whole
pub number_within : (image : Image) (n : ℕ) → n < length image.blocks → first_number image (suc n) + length
    (or_else (nth image.blocks n) no_block).instrs ≤ suc (length (flat image.blocks))
unfolding first_number
number_within image n l =
    let e : first_of image.blocks (suc n) ≡ first_of image.blocks n + length
    (or_else (nth image.blocks n) no_block).instrs = first_next image.blocks n l in
    let u : first_of image.blocks (suc n) ≤ first_of image.blocks (length image.blocks) =
    up image.blocks (suc n) (length image.blocks) l in
    let z : first_of image.blocks (length image.blocks) ≡ suc (length (flat image.blocks)) =
    first_last image.blocks in
    omega arith
  where
    zero_le : (bs : List Block) (n : ℕ) → 1 ≤ first_of bs n
    zero_le bs zero = let z : first_of bs zero ≡ 1 = first_one bs in omega arith
    zero_le [] (suc n) = omega arith
    zero_le (b ∷ bs) (suc n) = let h : 1 ≤ first_of bs n = zero_le bs n in omega arith

    up : (bs : List Block) (m n : ℕ) → m ≤ n → first_of bs m ≤ first_of bs n
    up bs zero n l = let z : first_of bs zero ≡ 1 = first_one bs in let h : 1 ≤ first_of bs n =
        zero_le bs n in omega arith
    up bs (suc m) zero l = absurd (omega arith)
    up [] (suc m) (suc n) l = omega arith
    up (b ∷ bs) (suc m) (suc n) l = let h : first_of bs m ≤ first_of bs n = up bs m n (omega arith) in
        omega arith

-- what is said of all blocks is said of one
pub at_block : (P : Block → Type 0) (image : Image) (b : ℕ) → AllByRecursion P image.blocks → IsBlock image b
    → P (block_at image b)
unfolding block_at
at_block P image zero a h = absurd (omega (arith, h.0))
at_block P image (suc n) a h = go image.blocks n (omega (arith, h.1)) a
  where
    go : (xs : List Block) (n : ℕ) → n < length xs → AllByRecursion P xs → P (or_else (nth xs n) no_block)
    go [] n l a = absurd (omega arith)
    go (x ∷ xs) zero l a = a.0
    go (x ∷ xs) (suc n) l a = go xs n (omega arith) a.1

-- an instruction by its place in the list
pub instr_suc : (image : Image) (m k : ℕ) (i : Instr) → m ≡ suc k → nth (flat image.blocks) k ≡ Some i
    → instr_at image m ≡ i
unfolding instr_at
instr_suc image m k i e f = rw (e, f) refl
