-- The draft of an image is alike, and has no notes.
use Rattle.std.proofs.Common.{◌≡◌, List, [], ◌∷◌, map, None, refl, arith}
use Rattle.std.specs.List.{AllByRecursion}
use Rattle.ws_isa.specs.Image.{Instr, Block, Image, flat}
use Rattle.ws_isa.specs.Formed.{NoNotes}
use Rattle.ws_words.proofs.Lists.{map_append}
use Rattle.wave_link.proofs.Sound.Unnoted.{SameShape}
use Rattle.asm_link.specs.Bare.{bare_instr, bare_block, bare}
use Rattle.asm_link.proofs.Alike.{AlikeInstrs, AlikeBlocks, same_shape}

instrs_bare : (is : List Instr) → AlikeInstrs is (map bare_instr is)
instrs_bare [] = tt
instrs_bare (i ∷ is) = (record { op = refl; dests = refl; others = refl }, instrs_bare is)

pub blocks_bare : (xs : List Block) → AlikeBlocks xs (map bare_block xs)
blocks_bare [] = tt
blocks_bare (x ∷ xs) = grind (arith, instrs_bare, blocks_bare xs)

instrs_back : (is : List Instr) → AlikeInstrs (map bare_instr is) is
instrs_back [] = tt
instrs_back (i ∷ is) = (record { op = refl; dests = refl; others = refl }, instrs_back is)

blocks_back : (xs : List Block) → AlikeBlocks (map bare_block xs) xs
blocks_back [] = tt
blocks_back (x ∷ xs) = grind (arith, instrs_back, blocks_back xs)

pub same : (image : Image) → SameShape image (bare image)
same image = same_shape image (bare image) (blocks_bare image.blocks)

pub back : (image : Image) → SameShape (bare image) image
back image = same_shape (bare image) image (blocks_back image.blocks)

flat_bare : (bs : List Block) → flat (map bare_block bs) ≡ map bare_instr (flat bs)
flat_bare [] = refl
flat_bare (b ∷ bs) = grind (arith, map_append, flat_bare bs)

no_notes : (is : List Instr) → AllByRecursion (λ (i : Instr). i.note ≡ None) (map bare_instr is)
no_notes [] = tt
no_notes (i ∷ is) = (refl, no_notes is)

pub bare_has_none : (image : Image) → NoNotes (bare image)
bare_has_none image = grind (arith, flat_bare, no_notes)
