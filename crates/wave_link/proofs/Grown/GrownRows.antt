-- Instructions by their block and their place in it; blocks without an operation are the only ones that get a
-- no-op.
use Rattle.std.proofs.Common.{ℕ, zero, suc, ◌+◌, ◌-◌, ◌≡◌, ◌<◌, ◌≤◌, ◌⊎◌, Bool, true, false, eqb, ◌&&◌, List}
use Rattle.std.proofs.Common.{[], ◌∷◌, length, length-append, get_or, Some, sym, ap, ◌∙◌, inl, inr, arith}
use Rattle.std.proofs.Common.{ne_eqb}
use Rattle.std.proofs.lemmas.Bool.{cases_Bool, cases_eq, cases_lt}
use Rattle.ws_isa.specs.Image.{Instr, Block, Image, no_instr, no_block, flat, instr_at, block_at, first_of}
use Rattle.ws_isa.specs.Image.{first_number, is_memory, is_memory_op, IsIn, IsBlock, IsInstr}
use Rattle.ws_isa.proofs.Blocks.{block_is, instr_is, number_next}
use Rattle.ws_isa.proofs.Steps.{first_le, first_zero}
use Rattle.wave_link.specs.declared.outline.Outline.{Outline}
use Rattle.wave_link.specs.declared.states.Ways.{Ways}
use Rattle.wave_link.specs.declared.states.LastOps.{LastOps}
use Rattle.wave_link.specs.States.{states_step, states_from}
use Rattle.wave_link.specs.Outlines.{firsts_of, one_more_op, ops_from, outline_of, outlines_from, outlines_of}
use Rattle.wave_link.specs.Adds.{adds}
use Rattle.ws_isa.proofs.Counting.{first_one}
use Rattle.ws_words.specs.Items.{nth, or_else}

-- instruction k of block b, by its place
pub record InBlock (image : Image) (b k : ℕ) : Type 0 where
  pub place : ℕ
  pub within : place < length (block_at image b).instrs
  pub number : k ≡ first_number image b + place
  pub is : instr_at image k ≡ or_else (nth (block_at image b).instrs place) no_instr

pub block_size : (image : Image) (b : ℕ) → IsBlock image b → first_number image (suc b) ≡ first_number image b
    + length (block_at image b).instrs
block_size image zero h = absurd (omega (arith, h.0))
block_size image (suc n) h = grind (arith, number_next, block_is)

-- the instruction at a place of a block
pub instr_at_place : (image : Image) (b i k : ℕ) → IsBlock image b → i < length (block_at image b).instrs
    → k ≡ first_number image b + i → instr_at image k ≡ or_else (nth (block_at image b).instrs i) no_instr
instr_at_place image zero i k h l e = absurd (omega (arith, h.0))
instr_at_place image (suc n) i k h l e = grind (arith, instr_is, block_is)

pub in_block : (image : Image) (b k : ℕ) → IsBlock image b → IsIn image b k → InBlock image b k
in_block image b k h i =
    let s = block_size image b h in
    let a : first_number image b ≤ k = i.0 in
    let c : k < first_number image (suc b) = i.1 in
    let l : k - first_number image b < length (block_at image b).instrs = omega arith in
    let n : k ≡ first_number image b + (k - first_number image b) = omega arith in
    grind (arith, instr_at_place)

-- the block of an instruction
pub record Located (image : Image) (k : ℕ) : Type 0 where
  pub block : ℕ
  pub there : IsBlock image block
  pub inside : IsIn image block k

record Placed (bs : List Block) (k : ℕ) : Type 0 where
  pub place : ℕ
  pub within : place < length bs
  pub low : first_of bs place ≤ k
  pub high : k < first_of bs (suc place)

placed : (bs : List Block) (k : ℕ) → 1 ≤ k → k ≤ length (flat bs) → Placed bs k
placed [] k l h = absurd (omega arith)
placed (b ∷ bs) k l h =
    let z : first_of bs zero ≡ 1 = first_one bs in
    let e : length (flat (b ∷ bs)) ≡ length b.instrs + length (flat bs) = length-append b.instrs (flat bs) in
    go (λ m l h. placed bs m l h) (cases_lt (length b.instrs) k) z e
  where
    go : ((m : ℕ) → 1 ≤ m → m ≤ length (flat bs) → Placed bs m) → (length b.instrs < k)
        ⊎ (k ≤ length b.instrs) → first_of bs zero ≡ 1 → length (flat (b ∷ bs)) ≡ length b.instrs + length
        (flat bs) → Placed (b ∷ bs) k
    go rest (inr a) z e = grind arith
    go rest (inl a) z e =
        let p : Placed bs (k - length b.instrs) = rest (k - length b.instrs) (omega arith) (omega arith) in
        grind arith

pub located : (image : Image) (k : ℕ) → IsInstr image k → Located image k
unfolding first_number
located image k h = grind (arith, placed image.blocks k h.0 h.1)

pub instr_positive : (image : Image) (b k : ℕ) → IsBlock image b → IsIn image b k → 1 ≤ k
instr_positive image b k h i = omega (arith, i.0, first_le image 0 b (omega arith), first_zero image)

-- Blocks that get a no-op.

middle : (a b c : Bool) → (a && (b && c)) ≡ true → b ≡ true
middle a b c e = grind arith

is_zero : (n : ℕ) → eqb n 0 ≡ true → n ≡ 0
is_zero n e = elim (cases_eq n 0) [ inl f ↦ f | inr f ↦ absurd (cc (ne_eqb n 0 f, e)) ]

states_idle : (os : List Outline) (b : ℕ) (ways : List Ways) (states : List LastOps) (n : ℕ) (o : Outline)
    → get_or (states_from os b ways states) n false ≡ true → nth os n ≡ Some o → o.ops ≡ 0
states_idle (x ∷ os) b ways states (suc n) o e f =
    grind (arith, states_idle os (suc b) ways (states_step x b ways states) n o e f)
states_idle os b ways states n o e f = grind (arith, is_zero, middle)

pub outline_there : (xs : List Block) (b : ℕ) (firsts : List Bool) (n m : ℕ) → n < length xs → m ≡ b + n
    → nth (outlines_from xs b firsts) n ≡ Some (outline_of (or_else (nth xs n) no_block) m firsts)
outline_there (x ∷ xs) b firsts (suc n) m l e =
    grind (arith, outline_there xs (b + 1) firsts n m (omega arith) (omega arith))
outline_there v0 v1 v2 v3 v4 v5 v6 = grind arith

more_up : (i : Instr) (n : ℕ) → n ≤ one_more_op i n
more_up i n = grind arith

ops_up : (is : List Instr) (n : ℕ) → n ≤ ops_from is n
ops_up [] n = omega arith
ops_up (i ∷ is) n = omega (arith, more_up i n, ops_up is (one_more_op i n))

ops_some : (is : List Instr) (i n : ℕ) → i < length is → is_memory_op (or_else (nth is i) no_instr).op ≡ true
    → n < ops_from is n
ops_some (x ∷ is) (suc i) n l e = omega (arith, more_up x n, ops_some is i (one_more_op x n) (omega arith) e)
ops_some is i n l e = grind (arith, ops_up)

-- a block that gets a no-op has no operation
pub idle_ops : (draft : Image) (b : ℕ) → IsBlock draft b → adds draft b ≡ true
    → ops_from (block_at draft b).instrs 0 ≡ 0
unfolding adds
idle_ops draft zero h a = absurd (omega (arith, h.0))
idle_ops draft (suc n) h a =
    ap (λ (y : Block). ops_from y.instrs 0) (block_is draft n)
    ∙ states_idle (outlines_of draft.blocks) 1 _ _ n _ a
    (outline_there draft.blocks 1 (firsts_of draft.blocks) n (suc n) (omega (arith, h.1)) (omega arith))

pub no_memory : (draft : Image) (b k : ℕ) → IsBlock draft b → adds draft b ≡ true → IsIn draft b k
    → is_memory draft k ≡ false
unfolding is_memory
no_memory draft b k h a i = go (cases_Bool (is_memory_op (instr_at draft k).op))
  where
    x : InBlock draft b k
    x = in_block draft b k h i

    go : (is_memory_op (instr_at draft k).op ≡ true) ⊎ (is_memory_op (instr_at draft k).op ≡ false)
        → is_memory_op (instr_at draft k).op ≡ false
    go (inr e) = e
    go (inl e) =
        absurd (omega (
          arith,
          idle_ops draft b h a,
          ops_some (block_at draft b).instrs x.place 0 x.within
              (ap (λ (y : Instr). is_memory_op y.op) (sym x.is) ∙ e),
        ))
