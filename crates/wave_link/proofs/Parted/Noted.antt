-- The notes of an annotated image keep what notes have to keep by themselves.
use Rattle.std.proofs.Common.{ℕ, zero, suc, ◌+◌, ◌≡◌, ◌≤◌, Bool, true, false, cond, List, [], ◌∷◌, ◌++◌}
use Rattle.std.proofs.Common.{length, get_or, Some, None, ap, arith}
use Rattle.ws_isa.specs.declared.instr.Op.{Op}
use Rattle.ws_isa.specs.Image.{Instr, Block, Image, flat, is_memory_op, is_writing_op}
use Rattle.wave_link.specs.declared.links.Passage.{Passage}
use Rattle.wave_link.specs.Notes.{note_at, writer_next}
use Rattle.wave_link.specs.Layout.{Tables}
use Rattle.wave_link.proofs.Parted.Parts.{tables_in, places_in}
use Rattle.wave_link.specs.Grown.{note_for, seq_next, grown_instrs, nop_at, no_place, grown_block}
use Rattle.wave_link.specs.Grown.{grown_from, annotated}
use Rattle.wave_link.specs.Good.{GoodNote, AllGood}
use Rattle.ws_words.specs.Items.{nth}

quiet : (op : Op) → is_memory_op op ≡ false → is_writing_op op ≡ false → GoodNote op None
quiet op m w = record { suits = m; positive = λ h. absurd (cc); own = λ h. absurd (cc) }

reads : (p : Passage) (op : Op) (s w : ℕ) → is_memory_op op ≡ true → is_writing_op op ≡ false → 1 ≤ s
    → GoodNote op (Some (note_at p op s w))
reads p op s w m e l = record { suits = m; positive = λ h. l; own = λ h. absurd (cc) }

writes : (p : Passage) (op : Op) (s w : ℕ) → is_memory_op op ≡ true → is_writing_op op ≡ true → 1 ≤ s
    → GoodNote op (Some (note_at p op s w))
writes p op s w m e l = record { suits = m; positive = λ h. l; own = λ h. ap (λ (b : Bool). cond b s w) e }

good : (p : Passage) (op : Op) (s w : ℕ) → 1 ≤ s → GoodNote op (note_for p op s w)
good p op s w l = grind (arith, quiet, reads, writes)

abbrev pub Each : List Instr → Type 0
Each is = (n : ℕ) (i : Instr) → nth is n ≡ Some i → GoodNote i.op i.note

none : Each []
none n i e = absurd (cc)

one_more : (x : Instr) (is : List Instr) → GoodNote x.op x.note → Each is → Each (x ∷ is)
one_more x is h t zero i e = let f : x ≡ i = cc in rw f at h
one_more x is h t (suc n) i e = t n i e

appended : (xs ys : List Instr) → Each xs → Each ys → Each (xs ++ ys)
appended [] ys f g n i e = g n i e
appended (x ∷ xs) ys f g zero i e = f zero i e
appended (x ∷ xs) ys f g (suc n) i e = appended xs ys (λ m. f (suc m)) g n i e

rises : (op : Op) (s : ℕ) → 1 ≤ s → 1 ≤ seq_next op s
rises op s l = grind arith

in_instrs : (t : Tables) (p : Passage) (k s w : ℕ) (is : List Instr) → 1 ≤ s
    → Each (grown_instrs t p k s w is)
in_instrs t p k s w [] l = none
in_instrs t p k s w (i ∷ is) l = one_more _ _ (good p i.op s w l)
    (grind (arith, rises, in_instrs t p (k + 1) (seq_next i.op s) (writer_next i.op s w) is (rises i.op s l)))

in_nop : (p : Passage) (n : ℕ) → Each (nop_at p n)
in_nop p n = grind (arith, none, one_more, reads)

in_block : (t : Tables) (p : Passage) (b k : ℕ) (x : Block) → Each (grown_block t p b k x).instrs
in_block t p b k x = appended _ _ (in_instrs t p k (p.low + 1) p.writer x.instrs (omega arith))
    (in_nop p (get_or t.nops b 0))

in_blocks : (t : Tables) (ps : List Passage) (b k : ℕ) (xs : List Block)
    → Each (flat (grown_from t ps b k xs))
in_blocks t ps b k [] = none
in_blocks t ps b k (x ∷ xs) = appended _ _ (in_block t (get_or ps b no_place) b k x)
    (in_blocks t ps (b + 1) (k + length x.instrs) xs)

pub all_good : (draft : Image) → AllGood (annotated draft)
unfolding annotated
all_good draft = in_blocks (tables_in draft.blocks) (places_in draft.blocks) 1 1 draft.blocks
