-- At most one destination is added to any list.
use Rattle.std.proofs.Common.{ℕ, zero, suc, ◌+◌, ◌≡◌, ◌<◌, ◌≤◌, List, [], ◌∷◌, ◌++◌, length, length-append}
use Rattle.std.proofs.Common.{Option, Some, refl, ap, arith}
use Rattle.ws_isa.specs.declared.instr.Dest.{Dest}
use Rattle.ws_isa.specs.declared.instr.Note.{Note}
use Rattle.ws_isa.specs.Image.{Instr, Block, Image, no_block, block_at}
use Rattle.wave_link.specs.declared.links.Passage.{Passage}
use Rattle.wave_link.specs.Notes.{writer_next}
use Rattle.wave_link.specs.Layout.{Tables}
use Rattle.wave_link.specs.Grown.{renamed, extra_dest, note_for, seq_next, grown_instr, grown_instrs}
use Rattle.wave_link.specs.Grown.{grown_block, grown_from, annotated}
use Rattle.wave_link.specs.Kept.{GrowsTo, FewAdded}
use Rattle.wave_link.proofs.Parted.Parts.{tables_in, places_in}
use Rattle.ws_isa.proofs.Images.{nth_left as in_front}
use Rattle.ws_words.specs.Items.{nth, or_else}

same_length : (t : Tables) (ds : List Dest) → length (renamed t ds) ≡ length ds
same_length t [] = refl
same_length t (d ∷ ds) = ap suc (same_length t ds)

one_at_most : (n : ℕ) → length (extra_dest n) ≤ 1
one_at_most n = grind arith

few : (t : Tables) (ds : List Dest) (n : ℕ) → length (renamed t ds ++ extra_dest n) ≤ length ds + 1
few t ds n = grind (arith, length-append, same_length, one_at_most)

grows : (t : Tables) (k : ℕ) (n : Option Note) (i : Instr) → GrowsTo i (grown_instr t k n i)
grows t k n i = grind (arith, few)

in_list : (t : Tables) (p : Passage) (k s w : ℕ) (is : List Instr) (m : ℕ) (i : Instr) → nth is m ≡ Some i →
    (j : Instr) × (nth (grown_instrs t p k s w is) m ≡ Some j) × GrowsTo i j
in_list t p k s w [] m i e = absurd (cc)
in_list t p k s w (x ∷ is) zero i e = grind (arith, grows t k (note_for p x.op s w) x)
in_list t p k s w (x ∷ is) (suc m) i e = in_list t p (k + 1) (seq_next x.op s) (writer_next x.op s w) is m i e

in_block : (t : Tables) (p : Passage) (b k : ℕ) (x : Block) (m : ℕ) (i : Instr) → nth x.instrs m ≡ Some i →
    (j : Instr) × (nth (grown_block t p b k x).instrs m ≡ Some j) × GrowsTo i j
in_block t p b k x m i e =
    let g = in_list t p k (p.low + 1) p.writer x.instrs m i e in grind (arith, in_front)

in_blocks : (t : Tables) (ps : List Passage) (b k : ℕ) (xs : List Block) (n m : ℕ) (i : Instr) → n < length xs
    → nth (or_else (nth xs n) no_block).instrs m ≡ Some i →
    (j : Instr) × (nth (or_else (nth (grown_from t ps b k xs) n) no_block).instrs m ≡ Some j) × GrowsTo i j
in_blocks t ps b k (x ∷ xs) (suc n) m i l e =
    grind (arith, in_blocks t ps (b + 1) (k + length x.instrs) xs n m i (omega arith) e)
in_blocks v0 v1 v2 v3 v4 v5 v6 v7 v8 v9 = grind (arith, in_block)

pub few_added : (draft : Image) → FewAdded draft (annotated draft)
unfolding annotated block_at
few_added draft zero m i h e = absurd (omega arith)
few_added draft (suc n) m i h e = grind (arith, in_blocks, tables_in, places_in)
