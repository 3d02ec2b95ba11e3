-- A block whose exit is a `Goto` sends nothing along its edge: no steer and no send stands in it.
use Rattle.std.proofs.Common.{ℕ, zero, suc, ◌+◌, ◌≡◌, ◌<◌, List, [], ◌∷◌, length, Some, slice_index, refl}
use Rattle.std.proofs.Common.{sym, ap, ◌∙◌, subst, arith}
use Rattle.ws_isa.specs.declared.instr.Op.{Op}
use Rattle.ws_isa.specs.declared.instr.Op.TheVariants.{Steer, Send}
use Rattle.ws_isa.specs.declared.instr.Dest.{Dest}
use Rattle.ws_isa.specs.Image.{Instr, Goto, Block, Pad, Image, no_block, instr_at, block_at, first_number}
use Rattle.ws_isa.specs.Image.{IsBlock, IsIn}
use Rattle.ws_isa.specs.Open.{Walkable}
use Rattle.ws_isa.specs.declared.program.BlockTable.{BlockTable}
use Rattle.ws_isa.specs.Shows.{edge_by, edge_list, delivered, crossed, image_of, block_in}
use Rattle.ws_isa.proofs.Blocks.{block_is, number_next}
use Rattle.ws_isa.proofs.Leaving.{row_of}
use Rattle.ws_isa.proofs.Programs.{inside}
use Rattle.ws_words.specs.Items.{nth, or_else}

-- no steer and no send is among these instructions
abbrev Quiet : List Instr → Type 0
Quiet is = (i : ℕ) (x : Instr) → nth is i ≡ Some x → (x.op ≡ Steer → ⊥) × ((n : ℕ) → x.op ≡ Send n → ⊥)

none_sent : (pads : List Pad) (r : ℕ) (i : Instr) (op : Op) → (op ≡ Steer → ⊥) → ((n : ℕ) → op ≡ Send n → ⊥)
    → edge_by pads r i op ≡ []
none_sent pads r i op no_steer no_send = grind arith

crossed_quiet : (pads : List Pad) (r : ℕ) (is : List Instr) (k : ℕ) (results operands : List ℕ) → Quiet is
    → crossed pads r is k results operands ≡ operands
crossed_quiet pads r [] k results operands quiet = refl
crossed_quiet pads r (x ∷ is) k results operands quiet =
    let none : edge_list pads r x ≡ [] = (let q = quiet zero x refl in none_sent pads r x x.op q.0 q.1) in
    ap (λ (ds : List Dest). crossed pads r is (suc k) results (delivered ds (slice_index results k) operands))
    none
    ∙ crossed_quiet pads r is (suc k) results operands (λ i y e. quiet (suc i) y e)

there : (xs : List Instr) (i : ℕ) (x : Instr) → nth xs i ≡ Some x → i < length xs
there (y ∷ xs) (suc i) x e = let l : i < length xs = there xs i x e in omega arith
there xs i x e = grind arith

goto_quiet : (image : Image) → Walkable image → (n : ℕ) → n < length image.blocks → (c : ℕ)
    → (block_at image (suc n)).exit ≡ Goto c → Quiet (block_at image (suc n)).instrs
goto_quiet image ok n l c goes i x e = (
  λ st. (let s = (ok.shape.blocks (suc n) block).hang.steers k is_in (ap (λ (y : Instr). y.op) here ∙ st) in
      absurd (let f : (block_at image (suc n)).exit ≡ _ = s.3 in cc)),
  λ p se. (let s = (ok.shape.blocks (suc n) block).hang.sends k p is_in
      (ap (λ (y : Instr). y.op) here ∙ se) in absurd (let f : (block_at image (suc n)).exit ≡ _ = s.2 in cc)),
)
  where
    block : IsBlock image (suc n)
    block = (omega arith, l)

    k : ℕ
    k = first_number image (suc n) + i

    here : instr_at image (first_number image (suc n) + i) ≡ x
    here = row_of image (suc n) block i x e

    is_in : IsIn image (suc n) (first_number image (suc n) + i)
    is_in =
        let b : i < length (block_at image (suc n)).instrs = there (block_at image (suc n)).instrs i x e in
        let s : length (block_at image (suc n)).instrs ≡ length
        (or_else (nth image.blocks n) no_block).instrs = ap (λ (y : Block). length y.instrs)
        (block_is image n) in
        let f : first_number image (suc (suc n)) ≡ first_number image (suc n) + length
        (or_else (nth image.blocks n) no_block).instrs = number_next image n l in
        (omega arith, omega arith)

-- the edge of a `Goto` brings nothing
pub goto_crossed : (p : BlockTable) → Walkable (image_of p) → (n : ℕ)
    → n < length p.blocks.now → (c : ℕ) → (block_in p n).exit ≡ Goto c →
    (pads : List Pad) (r k : ℕ) (results operands : List ℕ) → operands ≡ crossed pads r (block_in p n).instrs
    k results operands
goto_crossed p ok n l c goes pads r k results operands =
    let e : block_at (image_of p) (suc n) ≡ block_in p n = block_is (image_of p) n in
    let quiet : Quiet (block_in p n).instrs = subst (λ (b : Block). Quiet b.instrs) e
    (goto_quiet (image_of p) ok n (inside p n l) c (ap (λ (b : Block). b.exit) e ∙ goes)) in
    sym (crossed_quiet pads r (block_in p n).instrs k results operands quiet)
