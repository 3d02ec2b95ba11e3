-- The operations of a block, and the no-op behind them.
use Rattle.std.proofs.Common.{ℕ, zero, suc, ◌+◌, ◌≡◌, ◌<◌, cond, eqb, List, [], ◌∷◌, ◌++◌, length, get_or}
use Rattle.std.proofs.Common.{refl, ap, arith}
use Rattle.ws_isa.specs.declared.instr.Op.{Op}
use Rattle.ws_isa.specs.declared.instr.Op.TheVariants.{Nop}
use Rattle.ws_isa.specs.Image.{Instr, Block, Image, no_block, block_at}
use Rattle.wave_link.specs.declared.links.Passage.{Passage}
use Rattle.wave_link.specs.Notes.{writer_next}
use Rattle.wave_link.specs.Layout.{Tables}
use Rattle.wave_link.proofs.Parted.Parts.{tables_in, places_in}
use Rattle.wave_link.specs.Grown.{seq_next, grown_instrs, nop_at, grown_block, grown_from, annotated}
use Rattle.wave_link.specs.Kept.{ops_in, KeepsOps}
use Rattle.ws_words.specs.Items.{nth, or_else}

nop_ops : ℕ → List Op
nop_ops n = cond (eqb n 0) [] (Nop ∷ [])

both_lists : (xs ys : List Instr) → ops_in (xs ++ ys) ≡ ops_in xs ++ ops_in ys
both_lists [] ys = refl
both_lists (x ∷ xs) ys = ap (λ (l : List Op). x.op ∷ l) (both_lists xs ys)

same_ops : (t : Tables) (p : Passage) (k s w : ℕ) (is : List Instr) → ops_in (grown_instrs t p k s w is)
    ≡ ops_in is
same_ops t p k s w [] = refl
same_ops t p k s w (i ∷ is) = grind (arith, same_ops t p (k + 1) (seq_next i.op s) (writer_next i.op s w) is)

nop_is : (p : Passage) (n : ℕ) → ops_in (nop_at p n) ≡ nop_ops n
unfolding nop_ops
nop_is p n = grind arith

of_block : (t : Tables) (p : Passage) (b k : ℕ) (x : Block) → ops_in (grown_block t p b k x).instrs
    ≡ ops_in x.instrs ++ nop_ops (get_or t.nops b 0)
of_block t p b k x = grind (arith, both_lists, same_ops, nop_is)

of_blocks : (t : Tables) (ps : List Passage) (b k : ℕ) (xs : List Block) (n m : ℕ) → n < length xs → m ≡ b + n
    →
    ops_in (or_else (nth (grown_from t ps b k xs) n) no_block).instrs ≡ ops_in
    (or_else (nth xs n) no_block).instrs ++ nop_ops (get_or t.nops m 0)
of_blocks t ps b k (x ∷ xs) (suc n) m l e = of_blocks t ps (b + 1) (k + length x.instrs) xs n m (omega arith)
    (omega arith)
of_blocks v0 v1 v2 v3 v4 v5 v6 v7 v8 = grind (arith, of_block, nop_ops)

ops_there : (draft : Image) (n : ℕ) → n < length draft.blocks
    → ops_in (block_at (annotated draft) (suc n)).instrs ≡ ops_in (block_at draft (suc n)).instrs ++ nop_ops
    (get_or (tables_in draft.blocks).nops (suc n) 0)
unfolding annotated block_at
ops_there draft n l = grind (arith, of_blocks, tables_in, places_in)

append_nil : (xs : List Op) → xs ++ [] ≡ xs
append_nil [] = refl
append_nil (x ∷ xs) = ap (λ (l : List Op). x ∷ l) (append_nil xs)

pub ops_kept : (draft : Image) → KeepsOps draft (annotated draft)
unfolding nop_ops
ops_kept draft zero h = absurd (omega (arith, h.0))
ops_kept draft (suc n) h = grind (arith, tables_in, ops_there, append_nil)
