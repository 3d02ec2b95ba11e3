-- The image of a draft has its blocks, waves and edges.
use Rattle.std.proofs.Common.{arith, ℕ, suc, ◌+◌, ◌≡◌, List, [], ◌∷◌, length, refl, ap}
use Rattle.ws_isa.specs.Image.{Exit, Block, Image, no_block, block_at, leave_to, is_stop, stops, target}
use Rattle.ws_isa.specs.Image.{is_first}
use Rattle.wave_link.specs.declared.links.Passage.{Passage}
use Rattle.wave_link.specs.Layout.{Tables}
use Rattle.wave_link.specs.Grown.{grown_exit, grown_from, annotated}
use Rattle.wave_link.proofs.Parted.Parts.{tables_in, places_in}
use Rattle.ws_words.specs.Items.{nth, or_else}

exit_in : (t : Tables) (ps : List Passage) (b k : ℕ) (xs : List Block) (n : ℕ)
    → (or_else (nth (grown_from t ps b k xs) n) no_block).exit ≡ grown_exit t
    (or_else (nth xs n) no_block).exit
unfolding no_block
exit_in t ps b k (x ∷ xs) (suc n) = exit_in t ps (b + 1) (k + length x.instrs) xs n
exit_in t ps b k xs n = grind arith

wave_in : (t : Tables) (ps : List Passage) (b k : ℕ) (xs : List Block) (n : ℕ)
    → (or_else (nth (grown_from t ps b k xs) n) no_block).wave ≡ (or_else (nth xs n) no_block).wave
wave_in t ps b k (x ∷ xs) (suc n) = wave_in t ps (b + 1) (k + length x.instrs) xs n
wave_in t ps b k xs n = grind arith

count_in : (t : Tables) (ps : List Passage) (b k : ℕ) (xs : List Block)
    → length (grown_from t ps b k xs) ≡ length xs
count_in t ps b k [] = refl
count_in t ps b k (x ∷ xs) = ap suc (count_in t ps (b + 1) (k + length x.instrs) xs)

pub exit_kept : (draft : Image) (b : ℕ) → (block_at (annotated draft) b).exit ≡ grown_exit
    (tables_in draft.blocks) (block_at draft b).exit
unfolding annotated block_at no_block
exit_kept draft b = grind (arith, exit_in, draft.blocks)

pub wave_kept : (draft : Image) (b : ℕ) → (block_at (annotated draft) b).wave ≡ (block_at draft b).wave
unfolding annotated block_at
wave_kept draft b = grind (arith, wave_in, draft.blocks)

pub count_kept : (draft : Image) → length (annotated draft).blocks ≡ length draft.blocks
unfolding annotated
count_kept draft = count_in (tables_in draft.blocks) (places_in draft.blocks) 1 1 draft.blocks

same_target : (t : Tables) (e : Exit) (r : ℕ) → leave_to (grown_exit t e) r ≡ leave_to e r
same_target t e r = grind arith

same_stop : (t : Tables) (e : Exit) → is_stop (grown_exit t e) ≡ is_stop e
same_stop t e = grind arith

pub target_kept : (draft : Image) (b r : ℕ) → target (annotated draft) b r ≡ target draft b r
unfolding target
target_kept draft b r = grind (arith, exit_kept, same_target)

pub stops_kept : (draft : Image) (b : ℕ) → stops (annotated draft) b ≡ stops draft b
unfolding stops
stops_kept draft b = grind (arith, exit_kept, same_stop)

pub first_kept : (draft : Image) (b : ℕ) → is_first (annotated draft) b ≡ is_first draft b
unfolding is_first
first_kept draft b = grind (arith, wave_kept)
