-- A draft with notes and nothing else is alike, and is formed where the draft is of a formed image.
use Rattle.std.proofs.Common.{ℕ, suc, ◌+◌, ◌≡◌, ◌≤◌, List, [], ◌∷◌, ◌++◌, length, get_or, refl, arith}
use Rattle.std.proofs.lemmas.Bool.{cases_Bool}
use Rattle.std.specs.List.{AllByRecursion}
use Rattle.ws_isa.specs.declared.instr.Op.{Op}
use Rattle.ws_isa.specs.Image.{Instr, Block, Image, flat, size_of}
use Rattle.ws_isa.specs.Formed.{most_dests, ConstWithin, SendWithin, NoteSuits, InstrWithin, BlockWithin}
use Rattle.ws_isa.specs.Formed.{PadsRise, Formed}
use Rattle.ws_words.proofs.Lists.{all_append}
use Rattle.wave_link.specs.declared.links.Passage.{Passage}
use Rattle.wave_link.specs.Notes.{writer_next, places_of}
use Rattle.wave_link.specs.Outlines.{outlines_of}
use Rattle.wave_link.specs.Grown.{seq_next, no_place}
use Rattle.wave_link.specs.Plain.{noted_instrs, noted_from, noted}
use Rattle.wave_link.specs.Triggers.{IsAdded}
use Rattle.wave_link.proofs.Sound.FormedNotes.{PlaceUpTo, total_ops, place_more, all_places_up}
use Rattle.wave_link.proofs.Sound.FormedNotes.{outlines_writers, outlines_ops}
use Rattle.wave_link.proofs.Sound.FormedOf.{for_fits, instr_limit}
use Rattle.wave_link.proofs.Sound.Unnoted.{SameShape}
use Rattle.asm_link.specs.Bare.{bare}
use Rattle.asm_link.proofs.Alike.{AlikeInstrs, AlikeBlocks, instrs_length, flat_alike, same_shape}
use Rattle.asm_link.proofs.Drafts.{blocks_bare, same}
use Rattle.asm_link.proofs.Opens.{instrs_on, blocks_on, suited_on}
use Rattle.asm_link.proofs.Leaves.{block_within}

-- It is alike.

instrs_noted : (p : Passage) (s w : ℕ) (is : List Instr) → AlikeInstrs is (noted_instrs p s w is)
instrs_noted p s w [] = tt
instrs_noted p s w (i ∷ is) = grind (arith, instrs_noted p (seq_next i.op s) (writer_next i.op s w) is)

blocks_noted : (places : List Passage) (b : ℕ) (xs : List Block) → AlikeBlocks xs (noted_from places b xs)
blocks_noted places b [] = tt
blocks_noted places b (x ∷ xs) = grind (arith, instrs_noted, blocks_noted places (b + 1) xs)

pub alike_noted : (draft : Image) → AlikeBlocks draft.blocks (noted draft).blocks
unfolding noted
alike_noted draft = blocks_noted (no_place ∷ places_of (outlines_of draft.blocks)) 1 draft.blocks

instrs_unnoted : (p : Passage) (s w : ℕ) (is : List Instr) → AlikeInstrs (noted_instrs p s w is) is
instrs_unnoted p s w [] = tt
instrs_unnoted p s w (i ∷ is) = grind (arith, instrs_unnoted p (seq_next i.op s) (writer_next i.op s w) is)

blocks_unnoted : (places : List Passage) (b : ℕ) (xs : List Block) → AlikeBlocks (noted_from places b xs) xs
blocks_unnoted places b [] = tt
blocks_unnoted places b (x ∷ xs) = grind (arith, instrs_unnoted, blocks_unnoted places (b + 1) xs)

alike_unnoted : (draft : Image) → AlikeBlocks (noted draft).blocks draft.blocks
unfolding noted
alike_unnoted draft = blocks_unnoted (no_place ∷ places_of (outlines_of draft.blocks)) 1 draft.blocks

pub unnoted : (draft : Image) → SameShape (noted draft) draft
unnoted draft = same_shape (noted draft) draft (alike_unnoted draft)

pub arrays_noted : (draft : Image) → (noted draft).arrays ≡ draft.arrays
unfolding noted
arrays_noted draft = refl

shape_noted : (draft : Image) → SameShape draft (noted draft)
shape_noted draft = same_shape draft (noted draft) (alike_noted draft)

-- nothing is added
pub none_added : (draft : Image) (b n : ℕ) → IsAdded draft (noted draft) b n → ⊥
unfolding size_of
none_added draft b n a = grind (arith, shape_noted draft)

-- Notes are within the limits.

-- what an instruction keeps of the limits, whatever its note
pub record Fits (i : Instr) : Type 0 where
  pub dests : length i.dests ≤ most_dests
  pub others : length i.others ≤ most_dests
  pub const : ConstWithin i.op
  pub send : SendWithin i.op

seq_small : (op : Op) (s : ℕ) → seq_next op s ≤ s + 1
seq_small op s = grind arith

writer_small : (op : Op) (s w t : ℕ) → s ≤ t → w ≤ t → writer_next op s w ≤ t
writer_small op s w t h g = grind arith

within_noted : (t : ℕ) (p : Passage) (s w : ℕ) (is : List Instr) → PlaceUpTo t p → t ≤ 4194304
    → s + length is ≤ 16777216 → w ≤ 16777216 → AllByRecursion Fits is
    → AllByRecursion InstrWithin (noted_instrs p s w is)
within_noted t p s w [] up few l h a = tt
within_noted t p s w (i ∷ is) up few l h a =
    grind (
      arith,
      for_fits t p i.op s w up (omega arith) (omega arith) (omega arith),
      seq_small i.op s,
      writer_small i.op s w 16777216 (omega arith) h,
      within_noted t p (seq_next i.op s) (writer_next i.op s w) is up few (omega (arith, seq_small i.op s))
          (writer_small i.op s w 16777216 (omega arith) h) a.1,
    )

front_of : (is js : List Instr) → AllByRecursion Fits (is ++ js) → AllByRecursion Fits is
front_of [] js h = tt
front_of (i ∷ is) js h = (h.0, front_of is js h.1)

back_of : (is js : List Instr) → AllByRecursion Fits (is ++ js) → AllByRecursion Fits js
back_of [] js h = h
back_of (i ∷ is) js h = back_of is js h.1

size_front : (x : Block) (xs : List Block) (n : ℕ) → length (flat (x ∷ xs)) ≤ n → length x.instrs ≤ n
size_front x xs n h = go x.instrs (flat xs) h
  where
    go : (is js : List Instr) → length (is ++ js) ≤ n → length is ≤ n
    go [] js h = omega arith
    go (i ∷ is) js h = up (length is) (length (is ++ js)) (shorter is js) h
      where
        shorter : (is js : List Instr) → length is ≤ length (is ++ js)
        shorter [] js = omega arith
        shorter (i ∷ is) js = omega (arith, shorter is js)

        up : (k m : ℕ) → k ≤ m → suc m ≤ n → suc k ≤ n
        up k m l h = omega arith

size_back : (x : Block) (xs : List Block) (n : ℕ) → length (flat (x ∷ xs)) ≤ n → length (flat xs) ≤ n
size_back x xs n h = go x.instrs (flat xs) h
  where
    go : (is js : List Instr) → length (is ++ js) ≤ n → length js ≤ n
    go [] js h = h
    go (i ∷ is) js h = go is js (omega (arith, h))

all_within : (t : ℕ) (places : List Passage) (b : ℕ) (xs : List Block)
    → ((n : ℕ) → PlaceUpTo t (get_or places n no_place)) → t ≤ 4194304 → length (flat xs) ≤ 4194304
    → AllByRecursion Fits (flat xs) → AllByRecursion InstrWithin (flat (noted_from places b xs))
all_within t places b [] up few l a = tt
all_within t places b (x ∷ xs) up few l a =
    let u : PlaceUpTo t (get_or places b no_place) = up b in
    all_append InstrWithin
    (noted_instrs (get_or places b no_place) ((get_or places b no_place).low + 1)
    (get_or places b no_place).writer x.instrs)
    (flat (noted_from places (b + 1) xs))
    (within_noted t (get_or places b no_place) ((get_or places b no_place).low + 1)
    (get_or places b no_place).writer x.instrs u few (omega (arith, u.low, size_front x xs 4194304 l))
    (omega (arith, u.writer)) (front_of x.instrs (flat xs) a))
    (all_within t places (b + 1) xs up few (size_back x xs 4194304 l) (back_of x.instrs (flat xs) a))

places_up : (draft : Image) (n : ℕ) → PlaceUpTo (length (flat draft.blocks))
    (get_or (no_place ∷ places_of (outlines_of draft.blocks)) n no_place)
places_up draft n = grind (arith, place_more, total_ops, outlines_ops, all_places_up, outlines_writers)

-- Notes suit.

suits_noted : (p : Passage) (s w : ℕ) (is : List Instr)
    → AllByRecursion (λ i. NoteSuits i.op i.note) (noted_instrs p s w is)
suits_noted p s w [] = tt
suits_noted p s w (i ∷ is) =
    grind (arith, cases_Bool, suits_noted p (seq_next i.op s) (writer_next i.op s w) is)

all_suit : (places : List Passage) (b : ℕ) (xs : List Block)
    → AllByRecursion (λ i. NoteSuits i.op i.note) (flat (noted_from places b xs))
all_suit places b [] = tt
all_suit places b (x ∷ xs) = grind (arith, all_append, suits_noted, all_suit places (b + 1) xs)

instrs_within : (draft : Image) → length (flat draft.blocks) ≤ 4194304
    → AllByRecursion Fits (flat draft.blocks) → AllByRecursion InstrWithin (flat (noted draft).blocks)
unfolding noted
instrs_within draft few fits = grind (arith, all_within, places_up)

notes_suit : (draft : Image) → AllByRecursion (λ i. NoteSuits i.op i.note) (flat (noted draft).blocks)
unfolding noted
notes_suit draft = all_suit (no_place ∷ places_of (outlines_of draft.blocks)) 1 draft.blocks

pub formed_noted : (image : Image) → Formed image → Formed (noted (bare image))
formed_noted image formed =
    let d : SameShape image (bare image) = same image in
    let s : SameShape (bare image) (noted (bare image)) = shape_noted (bare image) in
    let n : length (flat (noted (bare image)).blocks) ≡ length (flat (bare image).blocks) =
    grind (arith, instrs_length, flat_alike, alike_noted) in
    let m : length (flat (bare image).blocks) ≡ length (flat image.blocks) =
    grind (arith, instrs_length, flat_alike, blocks_bare) in
    let fits : AllByRecursion Fits (flat (bare image).blocks) =
    instrs_on image (bare image) refl (blocks_bare image.blocks) InstrWithin Fits
    (grind arith) formed.instrs in
    record {
      arrays = grind (arith, arrays_noted);
      few_instrs = omega (arith, n, m, formed.few_instrs);
      few_blocks = omega (arith, s.count, d.count, formed.few_blocks);
      instrs = grind (arith, instrs_within, instr_limit);
      blocks = blocks_on (bare image) (noted (bare image)) (arrays_noted (bare image)) (alike_noted (bare
          image)) BlockWithin BlockWithin block_within (blocks_on image (bare image) refl (blocks_bare
          image.blocks) BlockWithin BlockWithin block_within formed.blocks);
      suited = suited_on (bare image) (noted (bare image)) (arrays_noted (bare image)) (alike_noted (bare
          image)) (suited_on image (bare image) refl (blocks_bare image.blocks) formed.suited);
      waves = grind arith;
      pads = blocks_on (bare image) (noted (bare image)) (arrays_noted (bare image)) (alike_noted (bare
          image)) (λ (b : Block). PadsRise b.pads) (λ (b : Block). PadsRise b.pads) (grind arith) (blocks_on
          image (bare image) refl (blocks_bare image.blocks) (λ (b : Block). PadsRise b.pads) (λ (b : Block).
          PadsRise b.pads) (grind arith) formed.pads);
      notes = notes_suit (bare image);
    }
