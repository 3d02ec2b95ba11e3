-- The draft of a formed image is within the limits, and so is what is made of it where it passes none.
use Rattle.std.proofs.Common.{ℕ, suc, ◌+◌, ◌≡◌, ◌<◌, ◌≤◌, true, List, [], ◌∷◌, ◌++◌, length, length-append}
use Rattle.std.proofs.Common.{Option, None, refl, sym, ap, ◌∙◌, subst, arith, inl, inr}
use Rattle.std.proofs.lemmas.Bool.{cases_Bool, and_parts, and_from, ltb-true, ltb-false, lt-ltb, le-ltb}
use Rattle.std.specs.List.{AllByRecursion}
use Rattle.ws_isa.specs.Image.{Instr, Pad, Block, Image, flat, block_at}
use Rattle.ws_isa.specs.Formed.{most_instrs, most_dests, most_pads, ConstWithin, SendWithin, ExitWithin}
use Rattle.ws_isa.specs.Formed.{InstrWithin, BlockWithin, PadsRise, Formed}
use Rattle.ws_isa.proofs.Blocks.{at_block}
use Rattle.ws_words.specs.Items.{In, nth, first_some}
use Rattle.ws_words.proofs.Lists.{length_map, all_have, all_append}
use Rattle.wave_link.specs.Room.{WithinLimits, MadeWithin}
use Rattle.wave_link.proofs.Sound.FormedOf.{instr_of_all}
use Rattle.wave_link.proofs.Grown.GrownOrigin.{is_instr}
use Rattle.asm_link.specs.Bare.{bare}
use Rattle.asm_link.specs.Room.{is_short, full_among, size_of, full_in, count_from, count_in}
use Rattle.asm_link.specs.Unfit.{room_in}
use Rattle.asm_link.proofs.Alike.{AlikeBlock, AlikeBlocks}
use Rattle.asm_link.proofs.Drafts.{blocks_bare}
use Rattle.asm_link.proofs.Opens.{instrs_on, blocks_on}

-- Lists that are short.

abbrev pub IsShort : Instr → Type 0
IsShort i = (length i.dests ≤ 8) × (length i.others ≤ 8)

short_of : (i : Instr) → is_short i ≡ true → IsShort i
short_of i e = grind (arith, and_parts, ltb-true)

short_back : (i : Instr) → IsShort i → is_short i ≡ true
short_back i h = grind (arith, and_from, lt-ltb)

among : (k : ℕ) (is : List Instr) → full_among k is ≡ None → AllByRecursion IsShort is
among k [] e = tt
among k (i ∷ is) e = elim (cases_Bool (is_short i)) [
  | inl r ↦ (short_of i r, among (k + 1) is (grind arith))
  | inr r ↦ grind arith
]

none_among : (k : ℕ) (is : List Instr) → AllByRecursion IsShort is → full_among k is ≡ None
none_among k [] h = refl
none_among k (i ∷ is) h = grind (arith, short_back, none_among (k + 1) is h.1)

front_none : (o p : Option ℕ) → first_some o p ≡ None → o ≡ None
front_none o p e = grind arith

rest_none : (o p : Option ℕ) → o ≡ None → first_some o p ≡ None → p ≡ None
rest_none o p f e = sym (ap (λ (q : Option ℕ). first_some q p) f) ∙ e

in_all : (k n : ℕ) (bs cs : List Block) → full_in k n bs cs ≡ None → AllByRecursion IsShort (flat cs)
in_all k n bs [] e = tt
in_all k n bs (c ∷ cs) e = let f : full_among k c.instrs ≡ None = grind (arith, front_none) in
    all_append IsShort c.instrs (flat cs) (among k c.instrs f) (in_all (k + size_of (nth bs n)) (suc n) bs cs
    (grind (arith, rest_none)))

left : (xs ys : List Instr) → AllByRecursion IsShort (xs ++ ys) → AllByRecursion IsShort xs
left [] ys h = tt
left (x ∷ xs) ys h = (h.0, left xs ys h.1)

right : (xs ys : List Instr) → AllByRecursion IsShort (xs ++ ys) → AllByRecursion IsShort ys
right [] ys h = h
right (x ∷ xs) ys h = right xs ys h.1

none_in : (k n : ℕ) (bs cs : List Block) → AllByRecursion IsShort (flat cs) → full_in k n bs cs ≡ None
none_in k n bs [] h = refl
none_in k n bs (c ∷ cs) h = ap (λ (o : Option ℕ). first_some o (full_in (k + size_of (nth bs n)) (suc n) bs
    cs)) (none_among k c.instrs (left c.instrs (flat cs) h)) ∙ none_in (k + size_of (nth bs n)) (suc n) bs cs
    (right c.instrs (flat cs) h)

count_is : (n : ℕ) (bs : List Block) → count_from n bs ≡ n + length (flat bs)
count_is n [] = omega arith
count_is n (b ∷ bs) = grind (arith, length-append, count_is (n + length b.instrs) bs)

-- What is made stays within the limits.

room_parts : (bs cs : List Block) → room_in bs cs ≡ None
    → (full_in 1 0 bs cs ≡ None) × (count_in cs ≤ 4194304)
room_parts bs cs e = grind (arith, cases_Bool, ltb-false)

pub stays : (bs : List Block) (made : Image) → room_in bs made.blocks ≡ None → MadeWithin made
unfolding most_instrs most_dests
stays bs made e = grind (arith, room_parts, count_is, in_all)

pub room_back : (bs : List Block) (made : Image) → MadeWithin made → room_in bs made.blocks ≡ None
unfolding most_instrs most_dests
room_back bs made s = grind (arith, count_is, none_in, le-ltb)

-- The limits that have nothing to do with what is added.

-- a block that is alike is within the limits too
pub block_within : (x y : Block) → AlikeBlock x y → BlockWithin x → BlockWithin y
block_within x y a h = grind arith

pads_in : (P : Pad → Type 0) (ps : List Pad) (p : Pad) → AllByRecursion P ps → In p ps → P p
pads_in P [] p a i = absurd i
pads_in P (q ∷ ps) p a (inl e) = subst P (sym e) a.0
pads_in P (q ∷ ps) p a (inr i) = pads_in P ps p a.1 i

pub within : (image : Image) → Formed image → WithinLimits (bare image)
within image formed =
    let draft : Image = bare image in
    let alike : AlikeBlocks image.blocks (bare image).blocks = blocks_bare image.blocks in
    let consts : AllByRecursion (λ (i : Instr). ConstWithin i.op × SendWithin i.op) (flat draft.blocks) =
    instrs_on image (bare image) refl alike InstrWithin (λ (i : Instr). ConstWithin i.op × SendWithin i.op)
    (grind arith)
    formed.instrs in
    let blocks : AllByRecursion BlockWithin draft.blocks =
    blocks_on image (bare image) refl alike BlockWithin BlockWithin block_within formed.blocks in
    record {
      arrays = formed.arrays;
      blocks = grind (arith, length_map);
      waves = λ b h. (at_block BlockWithin draft b blocks h).wave;
      consts = grind (arith, all_have);
      sends = λ b k p h i e. subst SendWithin e (instr_of_all (λ (i : Instr). ConstWithin i.op × SendWithin
          i.op) draft k consts (is_instr draft b k h i)).1;
      numbers = all_have BlockWithin (λ (b : Block). AllByRecursion (λ (p : Pad). p.number < most_pads)
          b.pads) draft.blocks (grind (arith, all_have)) blocks;
      pads = λ b p h i. (pads_in (λ (p : Pad). (p.number < most_pads) × (length p.dests ≤ most_dests))
          (block_at draft b).pads p (at_block BlockWithin draft b blocks h).pads i).1;
      rise = blocks_on image (bare image) refl alike (λ (b : Block). PadsRise b.pads) (λ (b : Block). PadsRise
          b.pads) (grind arith) formed.pads;
      landings = λ b s ls h e. subst ExitWithin e (at_block BlockWithin draft b blocks h).exit;
    }
