-- How the numbers of an image relate to its draft's: each block is moved on by the no-ops before it, its
-- instructions
-- with it, and its own no-op comes last in it.
use Rattle.std.proofs.Common.{ℕ, zero, suc, ◌+◌, ◌-◌, ◌≡◌, ◌<◌, ◌≤◌, Bool, true, false, cond, eqb, List, []}
use Rattle.std.proofs.Common.{◌∷◌, length, length-append, get_or, Option, Some, refl, sym, ap, ap₂, ◌∙◌}
use Rattle.std.proofs.Common.{arith, ne_eqb}
use Rattle.std.proofs.lemmas.List.{get_or_append_left, get_or-append_right}
use Rattle.ws_isa.specs.declared.instr.Note.{Note}
use Rattle.ws_isa.specs.Image.{Instr, Block, Image, no_instr, no_block, instr_at, block_at, first_of}
use Rattle.ws_isa.specs.Image.{first_number, IsIn, IsBlock}
use Rattle.ws_isa.proofs.Blocks.{nth_append_right, block_is, instr_is, number_next}
use Rattle.wave_link.specs.declared.links.Passage.{Passage}
use Rattle.wave_link.specs.Notes.{writer_next}
use Rattle.wave_link.specs.Layout.{with_nop, nops_from, count_up, numbers_from, Tables}
use Rattle.wave_link.specs.Grown.{number_in, note_for, seq_next, grown_instr, grown_instrs, nop_instr, nop_at}
use Rattle.wave_link.specs.Grown.{no_place, grown_block, grown_from, added_in, annotated}
pub use Rattle.wave_link.specs.Adds.{adds}
use Rattle.wave_link.proofs.Parted.Parts.{tables_in, places_in}
use Rattle.wave_link.proofs.Parted.Edges.{count_kept}
use Rattle.ws_isa.proofs.Steps.{first_of_pos as first_positive}
use Rattle.ws_isa.proofs.Counting.{first_one}
use Rattle.ws_words.specs.Items.{nth, or_else}
use Rattle.ws_words.proofs.Places.{nth_append_left}

-- 1 where a no-op is added
abbrev pub one_if : Bool → ℕ
one_if b = cond b 1 0

-- how many of n blocks, the first of which stands at place b, get a no-op
abbrev pub count_from : List Bool → ℕ → ℕ → ℕ
count_from added b zero = 0
count_from added b (suc n) = one_if (get_or added b false) + count_from added (b + 1) n

with_nop_is : (v : Bool) (n : ℕ) → with_nop v n ≡ one_if v + n
with_nop_is v n = grind arith

pub count_next : (added : List Bool) (b n : ℕ) → count_from added b (suc n) ≡ count_from added b n + one_if
    (get_or added (b + n) false)
count_next added b zero = grind (arith, one_if)
count_next added b (suc n) = grind (arith, count_from, one_if, count_next added (b + 1) n)

-- The tables.

nop_there : (xs : List Block) (b n i j m : ℕ) (added : List Bool) → i < length xs → j ≡ b + i
    → suc m ≡ n + (first_of xs (suc i) + count_from added b i) →
    get_or (nops_from xs b n added) i 0 ≡ cond (get_or added j false) m 0
nop_there (x ∷ xs) b n (suc i) j m added l f e =
    let w = with_nop_is (get_or added b false) (n + length x.instrs) in
    nop_there xs (b + 1) (with_nop (get_or added b false) (n + length x.instrs)) i j m added (omega arith)
    (omega arith)
    (grind arith)
  where
    sums : (m n a f o c w : ℕ) → suc m ≡ n + ((a + f) + (o + c)) → w ≡ o + (n + a) → suc m ≡ w + (f + c)
    sums m n a f o c w e h = omega arith
nop_there xs b n i j m added l f e = grind (arith, first_one)

count_up_length : (n k : ℕ) → length (count_up n k) ≡ k
count_up_length n zero = refl
count_up_length n (suc k) = ap suc (count_up_length (n + 1) k)

count_up_at : (n k i : ℕ) → i < k → get_or (count_up n k) i 0 ≡ n + i
count_up_at n (suc k) (suc i) l = grind (arith, count_up_at (n + 1) k i (omega arith))
count_up_at n k i l = grind arith

number_there : (xs : List Block) (b n i j p : ℕ) (added : List Bool) → i < length xs
    → j < length (or_else (nth xs i) no_block).instrs → suc p ≡ first_of xs i + j →
    get_or (numbers_from xs b n added) p 0 ≡ n + p + count_from added b i
number_there (x ∷ xs) b n (suc i) j p added l h e =
    let f : 1 ≤ first_of xs i = positive xs i in
    let g : length x.instrs ≤ p = omega arith in
    let w = with_nop_is (get_or added b false) (n + length x.instrs) in
    let s : get_or (numbers_from xs (b + 1) (with_nop (get_or added b false) (n + length x.instrs)) added)
    (p - length x.instrs) 0 ≡ with_nop (get_or added b false) (n + length x.instrs)
    + (p - length x.instrs) + count_from added (b + 1) i =
    number_there xs (b + 1) (with_nop (get_or added b false) (n + length x.instrs)) i j (p - length x.instrs)
    added (omega arith) h (omega arith) in
    get_or-append_right (count_up n (length x.instrs))
    (numbers_from xs (b + 1) (with_nop (get_or added b false) (n + length x.instrs)) added)
    (length x.instrs) p 0 (count_up_length n (length x.instrs)) g
    ∙ (grind arith)
  where
    positive : (bs : List Block) (n : ℕ) → 1 ≤ first_of bs n
    positive (b ∷ bs) (suc n) = let h : 1 ≤ first_of bs n = positive bs n in omega arith
    positive bs n = grind (arith, first_one)

    sums : (n p a o c w : ℕ) → a ≤ p → w ≡ o + (n + a) → w + (p - a) + c ≡ n + p + (o + c)
    sums n p a o c w l e = omega arith
number_there xs b n i j p added l h e = grind (arith, count_up_length, get_or_append_left, count_up_at)

-- Blocks.

block_there : (t : Tables) (ps : List Passage) (b k : ℕ) (xs : List Block) (n m j : ℕ) → n < length xs
    → m ≡ b + n → suc j ≡ k + first_of xs n →
    nth (grown_from t ps b k xs) n ≡ Some (grown_block t (get_or ps m no_place) m j
    (or_else (nth xs n) no_block))
block_there t ps b k (x ∷ xs) (suc n) m j l e f = block_there t ps (b + 1) (k + length x.instrs) xs n m j
    (omega arith) (omega arith) (omega arith)
block_there v0 v1 v2 v3 v4 v5 v6 v7 v8 v9 v10 = grind arith

instrs_length : (t : Tables) (p : Passage) (k s w : ℕ) (is : List Instr)
    → length (grown_instrs t p k s w is) ≡ length is
instrs_length t p k s w [] = refl
instrs_length t p k s w (i ∷ is) =
    grind (arith, instrs_length t p (k + 1) (seq_next i.op s) (writer_next i.op s w) is)

-- 1 if there is a no-op of this number
abbrev pub extra_of : ℕ → ℕ
extra_of n = cond (eqb n 0) 0 1

nop_length : (p : Passage) (n : ℕ) → length (nop_at p n) ≡ extra_of n
nop_length p n = grind arith

block_length : (t : Tables) (p : Passage) (b k : ℕ) (x : Block) → length (grown_block t p b k x).instrs
    ≡ length x.instrs + extra_of (get_or t.nops b 0)
block_length t p b k x = grind (arith, length-append, instrs_length, nop_length)

first_there : (t : Tables) (ps : List Passage) (added : List Bool) (b k c : ℕ) (xs : List Block) (n : ℕ)
    → n ≤ length xs →
    ((i j m : ℕ) → i < length xs → j ≡ b + i → m ≡ c + i → extra_of (get_or t.nops j 0)
    ≡ one_if (get_or added m false)) →
    first_of (grown_from t ps b k xs) n ≡ first_of xs n + count_from added c n
first_there t ps added b k c (x ∷ xs) (suc n) l h =
    let a = block_length t (get_or ps b no_place) b k x in
    let e : extra_of (get_or t.nops b 0) ≡ one_if (get_or added c false) =
    h 0 b c (omega arith) (omega arith) (omega arith) in
    let r : first_of (grown_from t ps (b + 1) (k + length x.instrs) xs) n ≡ first_of xs n + count_from added
    (c + 1) n =
    first_there t ps added (b + 1) (k + length x.instrs) (c + 1) xs n (omega arith)
    (λ i j m q u v. h (suc i) j m (omega arith) (omega arith) (omega arith)) in
    ap₂ (λ (p q : ℕ). p + q) (a ∙ ap (λ (q : ℕ). length x.instrs + q) e) r
    ∙ sums (length x.instrs) (one_if (get_or added c false)) (first_of xs n) (count_from added (c + 1) n)
  where
    sums : (a o f c : ℕ) → (a + o) + (f + c) ≡ (a + f) + (o + c)
    sums a o f c = omega arith
first_there t ps added b k c xs n l h = grind (arith, first_one)

-- The numbers of a draft.

-- how many no-ops are added before block b
unfoldable pub shift : Image → ℕ → ℕ
shift draft zero = 0
shift draft (suc n) = count_from (added_in draft.blocks) 0 n

-- the new number of instruction k
unfoldable pub new : Image → ℕ → ℕ
new draft k = number_in (tables_in draft.blocks) k

-- the number of the no-op of block b
unfoldable pub nop : Image → ℕ → ℕ
nop draft b = first_number draft (suc b) + shift draft b

unfoldable pub place_of : Image → ℕ → Passage
place_of draft b = get_or (places_in draft.blocks) b no_place

pub shift_next : (draft : Image) (b : ℕ) → 1 ≤ b → shift draft (suc b) ≡ shift draft b + one_if (adds draft b)
unfolding shift adds
shift_next draft zero l = absurd (omega arith)
shift_next draft (suc n) l = grind (arith, count_next (added_in draft.blocks) 0 n)

nops_at : (draft : Image) (n m : ℕ) → n < length draft.blocks
    → suc m ≡ 1 + (first_of draft.blocks (suc n) + count_from (added_in draft.blocks) 0 n) →
    get_or (tables_in draft.blocks).nops (suc n) 0 ≡ cond (get_or (added_in draft.blocks) n false) m 0
nops_at draft n m l e = nop_there draft.blocks 0 1 n n m (added_in draft.blocks) l (omega arith) e

extra_at : (draft : Image) (n : ℕ) → n < length draft.blocks
    → extra_of (get_or (tables_in draft.blocks).nops (suc n) 0) ≡ one_if
    (get_or (added_in draft.blocks) n false)
extra_at draft n l =
    let m : ℕ = first_of draft.blocks (suc n) + count_from (added_in draft.blocks) 0 n in
    let p : 1 ≤ first_of draft.blocks (suc n) = first_positive draft.blocks (suc n) in
    ap extra_of (nops_at draft n m l (omega arith)) ∙ go (get_or (added_in draft.blocks) n false) m
    (omega arith)
  where
    go : (b : Bool) (m : ℕ) → 1 ≤ m → extra_of (cond b m 0) ≡ one_if b
    go b m l = grind arith

-- the table of no-ops has the number of each, or 0
pub nops_are : (draft : Image) (b : ℕ) → IsBlock draft b → get_or (tables_in draft.blocks).nops b 0
    ≡ cond (adds draft b) (nop draft b) 0
unfolding adds nop shift first_number
nops_are draft b h = grind (arith, nops_at, count_from)

pub nop_positive : (draft : Image) (b : ℕ) → 1 ≤ nop draft b
unfolding nop first_number
nop_positive draft b = let p : 1 ≤ first_of draft.blocks b = first_positive draft.blocks b in omega arith

extras_say : (draft : Image) (i j m : ℕ) → i < length draft.blocks → j ≡ 1 + i → m ≡ 0 + i
    → extra_of (get_or (tables_in draft.blocks).nops j 0) ≡ one_if (get_or (added_in draft.blocks) m false)
extras_say draft i j m l e f = grind (arith, extra_at)

-- a block begins after the no-ops of the blocks before it
pub first_is : (draft : Image) (b : ℕ) → IsBlock draft b → first_number (annotated draft) b ≡ first_number
    draft b + shift draft b
unfolding annotated first_number shift
first_is draft zero h = absurd (omega (arith, h.0))
first_is draft (suc n) h = first_there (tables_in draft.blocks) (places_in draft.blocks)
    (added_in draft.blocks) 1 1 0 draft.blocks n (omega (arith, h.1)) (extras_say draft)

-- and ends after its own
pub ends_are : (draft : Image) (b : ℕ) → IsBlock draft b → first_number (annotated draft) (suc b)
    ≡ one_if (adds draft b) + (first_number draft (suc b) + shift draft b)
unfolding annotated first_number shift adds
ends_are draft zero h = absurd (omega (arith, h.0))
ends_are draft (suc n) h =
    let e : 0 + n ≡ n = omega arith in
    let c : count_from (added_in draft.blocks) 0 (suc n) ≡ count_from (added_in draft.blocks) 0 n + one_if
    (get_or (added_in draft.blocks) n false) =
    count_next (added_in draft.blocks) 0 n
    ∙ ap (λ (m : ℕ). count_from (added_in draft.blocks) 0 n + one_if
    (get_or (added_in draft.blocks) m false)) e in
    let f : first_of (grown_from (tables_in draft.blocks) (places_in draft.blocks) 1 1 draft.blocks) (suc n)
    ≡ first_of draft.blocks (suc n) + count_from (added_in draft.blocks) 0 (suc n) =
    first_there (tables_in draft.blocks) (places_in draft.blocks) (added_in draft.blocks) 1 1 0 draft.blocks
    (suc n) (omega (arith, h.1)) (extras_say draft) in
    f ∙ (grind arith)
  where
    sums : (a b c : ℕ) → a + (b + c) ≡ c + (a + b)
    sums a b c = omega arith

-- instructions move with their block
pub new_is : (draft : Image) (b k : ℕ) → IsBlock draft b → IsIn draft b k → new draft k ≡ k + shift draft b
unfolding new shift first_number
new_is draft zero k h i = absurd (omega (arith, h.0))
new_is draft (suc n) zero h i = grind (arith, first_positive)
new_is draft (suc n) (suc p) h i =
    let l : n < length draft.blocks = omega (arith, h.1) in
    let s : first_of draft.blocks (suc n) ≡ first_of draft.blocks n + length
    (or_else (nth draft.blocks n) no_block).instrs = next draft.blocks n l in
    let a : first_of draft.blocks n ≤ suc p = i.0 in
    let b : suc p < first_of draft.blocks (suc n) = i.1 in
    let e : get_or (numbers_from draft.blocks 0 1 (added_in draft.blocks)) p 0 ≡ 1 + p + count_from
    (added_in draft.blocks) 0 n =
    number_there draft.blocks 0 1 n (suc p - first_of draft.blocks n) p (added_in draft.blocks) l
    (omega arith) (omega arith) in
    e ∙ ap (λ (q : ℕ). q + count_from (added_in draft.blocks) 0 n) (sum p)
  where
    sum : (p : ℕ) → 1 + p ≡ suc p
    sum p = omega arith

    next : (bs : List Block) (n : ℕ) → n < length bs → first_of bs (suc n) ≡ first_of bs n + length
        (or_else (nth bs n) no_block).instrs
    next (b ∷ bs) (suc n) l = grind (arith, next bs n (omega arith))
    next bs n l = grind (arith, first_one)

-- Instructions.

-- the block of the image
pub block_is_grown : (draft : Image) (b : ℕ) → IsBlock draft b → block_at (annotated draft) b ≡ grown_block
    (tables_in draft.blocks) (place_of draft b) b (first_number draft b) (block_at draft b)
unfolding annotated block_at first_number place_of
block_is_grown draft zero h = absurd (omega (arith, h.0))
block_is_grown draft (suc n) h =
    ap (λ (o : Option Block). or_else o no_block)
    (block_there (tables_in draft.blocks) (places_in draft.blocks) 1 1 draft.blocks n (suc n)
    (first_of draft.blocks n) (omega (arith, h.1)) (omega arith) (omega arith))

-- the sequence number at the place i of a block's instructions, and the last writing one before it, from
-- those at its start
abbrev pub seq_in : List Instr → ℕ → ℕ → ℕ
seq_in [] i s = s
seq_in (x ∷ xs) zero s = s
seq_in (x ∷ xs) (suc i) s = seq_in xs i (seq_next x.op s)

abbrev pub writer_in : List Instr → ℕ → ℕ → ℕ → ℕ
writer_in [] i s w = w
writer_in (x ∷ xs) zero s w = w
writer_in (x ∷ xs) (suc i) s w = writer_in xs i (seq_next x.op s) (writer_next x.op s w)

instr_there : (t : Tables) (p : Passage) (k s w : ℕ) (is : List Instr) (i j : ℕ) → i < length is → j ≡ k + i →
    nth (grown_instrs t p k s w is) i ≡ Some
    (grown_instr t j (note_for p (or_else (nth is i) no_instr).op (seq_in is i s) (writer_in is i s w))
    (or_else (nth is i) no_instr))
instr_there t p k s w (x ∷ is) (suc i) j l e = instr_there t p (k + 1) (seq_next x.op s)
    (writer_next x.op s w) is i j (omega arith) (omega arith)
instr_there v0 v1 v2 v3 v4 v5 v6 v7 v8 v9 = grind arith

-- the note of instruction k of block b
unfoldable pub note_in : Image → ℕ → ℕ → Option Note
note_in draft b k = note_for (place_of draft b) (instr_at draft k).op
    (seq_in (block_at draft b).instrs (k - first_number draft b) ((place_of draft b).low + 1))
    (writer_in (block_at draft b).instrs (k - first_number draft b) ((place_of draft b).low + 1)
    (place_of draft b).writer)

image_block : (draft : Image) (n : ℕ) → IsBlock draft (suc n) → or_else (nth (annotated draft).blocks n)
    no_block ≡ grown_block (tables_in draft.blocks) (place_of draft (suc n)) (suc n)
    (first_number draft (suc n)) (block_at draft (suc n))
image_block draft n h = sym (block_is (annotated draft) n) ∙ block_is_grown draft (suc n) h

image_count : (draft : Image) (n : ℕ) → IsBlock draft (suc n) → n < length (annotated draft).blocks
image_count draft n h = omega (arith, count_kept draft, h.1)

-- an instruction of the image that stands in the draft
pub instr_is_grown : (draft : Image) (b k : ℕ) → IsBlock draft b → IsIn draft b k
    → instr_at (annotated draft) (k + shift draft b) ≡ grown_instr (tables_in draft.blocks) k
    (note_in draft b k) (instr_at draft k)
unfolding note_in
instr_is_grown draft zero k h i = absurd (omega arith)
instr_is_grown draft (suc n) k h i =
    let l : n < length draft.blocks = omega arith in
    let x : Block = block_at draft (suc n) in
    let xe : x ≡ or_else (nth draft.blocks n) no_block = block_is draft n in
    let p : Passage = place_of draft (suc n) in
    let f : ℕ = first_number draft (suc n) in
    let j : ℕ = k - f in
    let s : first_number draft (suc (suc n)) ≡ f + length x.instrs = grind (arith, number_next) in
    let a : f ≤ k = i.0 in
    let b : k < first_number draft (suc (suc n)) = i.1 in
    let m : j < length x.instrs = omega arith in
    let g : Block = grown_block (tables_in draft.blocks) p (suc n) f x in
    let e : or_else (nth (annotated draft).blocks n) no_block ≡ g = image_block draft n h in
    let gi : List Instr = grown_instrs (tables_in draft.blocks) p f (p.low + 1) p.writer x.instrs in
    let lg : length gi ≡ length x.instrs = grind (arith, instrs_length, tables_in) in
    let lb : length g.instrs ≡ length x.instrs + extra_of (get_or (tables_in draft.blocks).nops (suc n) 0) =
    block_length (tables_in draft.blocks) p (suc n) f x in
    let d : instr_at draft k ≡ or_else (nth x.instrs j) no_instr = grind (arith, instr_is) in
    let at : k + shift draft (suc n) ≡ first_number (annotated draft) (suc n) + j = grind (arith, first_is) in
    let here : instr_at (annotated draft) (k + shift draft (suc n)) ≡ or_else (nth g.instrs j) no_instr =
    instr_is (annotated draft) n j (k + shift draft (suc n)) (image_count draft n h)
    (rw e (omega arith)) at
    ∙ ap (λ (y : Block). or_else (nth y.instrs j) no_instr) e in
    grind (arith, nth_append_left, tables_in, instr_there)

-- the no-op of a block that gets one
pub nop_is_there : (draft : Image) (b : ℕ) → IsBlock draft b → adds draft b ≡ true
    → instr_at (annotated draft) (nop draft b) ≡ nop_instr (place_of draft b)
unfolding nop
nop_is_there draft zero h a = absurd (omega arith)
nop_is_there draft (suc n) h a =
    let l : n < length draft.blocks = omega arith in
    let x : Block = block_at draft (suc n) in
    let xe : x ≡ or_else (nth draft.blocks n) no_block = block_is draft n in
    let p : Passage = place_of draft (suc n) in
    let f : ℕ = first_number draft (suc n) in
    let s : first_number draft (suc (suc n)) ≡ f + length x.instrs = grind (arith, number_next) in
    let g : Block = grown_block (tables_in draft.blocks) p (suc n) f x in
    let e : or_else (nth (annotated draft).blocks n) no_block ≡ g = image_block draft n h in
    let gi : List Instr = grown_instrs (tables_in draft.blocks) p f (p.low + 1) p.writer x.instrs in
    let lg : length gi ≡ length x.instrs = grind (arith, instrs_length, tables_in) in
    let nn : ℕ = get_or (tables_in draft.blocks).nops (suc n) 0 in
    let ne : nop_at p nn ≡ nop_instr p ∷ [] =
    ap (nop_at p) (nops_are draft (suc n) h ∙ ap (λ (v : Bool). cond v (nop draft (suc n)) 0) a)
    ∙ some_nop p (nop draft (suc n)) (nop_positive draft (suc n)) in
    let lb : length g.instrs ≡ length gi + 1 = grind (arith, length-append) in
    let at : first_number draft (suc (suc n)) + shift draft (suc n) ≡ first_number (annotated draft) (suc n)
    + length x.instrs = omega (arith, first_is draft (suc n) h) in
    let here : instr_at (annotated draft) (first_number draft (suc (suc n)) + shift draft (suc n))
    ≡ or_else (nth g.instrs (length x.instrs)) no_instr =
    instr_is (annotated draft) n (length x.instrs) (first_number draft (suc (suc n)) + shift draft (suc n))
    (image_count draft n h) (rw e (omega arith)) at
    ∙ ap (λ (y : Block). or_else (nth y.instrs (length x.instrs)) no_instr) e in
    let pl : length x.instrs ≡ length gi + 0 = omega arith in
    here ∙ (grind (arith, nth_append_right))
  where
    some_nop : (p : Passage) (n : ℕ) → 1 ≤ n → nop_at p n ≡ nop_instr p ∷ []
    some_nop p n l = rw (ne_eqb n 0 (λ e. omega arith)) refl
