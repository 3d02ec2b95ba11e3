-- Images that are alike but for notes: they have one shape, and do the same.
use Rattle.std.proofs.Common.{ℕ, zero, suc, ◌+◌, ◌-◌, ◌≡◌, List, [], ◌∷◌, ◌++◌, length, Some, refl, sym, ap}
use Rattle.std.proofs.Common.{ap₂, ◌∙◌, arith}
use Rattle.std.specs.List.{AllByRecursion}
use Rattle.ws_isa.specs.declared.instr.Op.{Op}
use Rattle.ws_isa.specs.declared.instr.Dest.{Dest}
use Rattle.ws_isa.specs.Image.{Instr, Block, Image, no_instr, no_block, flat, first_of, instr_at, block_at}
use Rattle.ws_isa.specs.Image.{block_of, holder, first_number}
use Rattle.ws_isa.specs.Formed.{WavesFrom, WavesInOrder}
use Rattle.ws_words.specs.Items.{nth, or_else}
use Rattle.wave_link.specs.Kept.{ops_in, GrowsTo}
use Rattle.wave_link.proofs.Sound.Unnoted.{SameShape}

-- the same instruction but for its note
pub record AlikeInstr (i j : Instr) : Type 0 where
  pub op : j.op ≡ i.op
  pub dests : j.dests ≡ i.dests
  pub others : j.others ≡ i.others

abbrev pub AlikeInstrs : List Instr → List Instr → Type 0
AlikeInstrs [] [] = Unit {0}
AlikeInstrs [] (j ∷ js) = ⊥
AlikeInstrs (i ∷ is) [] = ⊥
AlikeInstrs (i ∷ is) (j ∷ js) = AlikeInstr i j × AlikeInstrs is js

pub record AlikeBlock (x y : Block) : Type 0 where
  pub wave : y.wave ≡ x.wave
  pub pads : y.pads ≡ x.pads
  pub exit : y.exit ≡ x.exit
  pub instrs : AlikeInstrs x.instrs y.instrs

abbrev pub AlikeBlocks : List Block → List Block → Type 0
AlikeBlocks [] [] = Unit {0}
AlikeBlocks [] (y ∷ ys) = ⊥
AlikeBlocks (x ∷ xs) [] = ⊥
AlikeBlocks (x ∷ xs) (y ∷ ys) = AlikeBlock x y × AlikeBlocks xs ys

pub instr_self : (i : Instr) → AlikeInstr i i
instr_self i = record { op = refl; dests = refl; others = refl }

-- Instructions.

pub instrs_length : (is js : List Instr) → AlikeInstrs is js → length js ≡ length is
instrs_length (i ∷ is) (j ∷ js) a = ap suc (instrs_length is js a.1)
instrs_length is js a = grind arith

instrs_append : (is js ks ls : List Instr) → AlikeInstrs is js → AlikeInstrs ks ls
    → AlikeInstrs (is ++ ks) (js ++ ls)
instrs_append (i ∷ is) (j ∷ js) ks ls a b = (a.0, instrs_append is js ks ls a.1 b)
instrs_append is js ks ls a b = grind arith

pub flat_alike : (xs ys : List Block) → AlikeBlocks xs ys → AlikeInstrs (flat xs) (flat ys)
flat_alike (x ∷ xs) (y ∷ ys) a =
    instrs_append x.instrs y.instrs (flat xs) (flat ys) a.0.instrs (flat_alike xs ys a.1)
flat_alike xs ys a = grind arith

instr_nth : (is js : List Instr) (n : ℕ) → AlikeInstrs is js
    → AlikeInstr (or_else (nth is n) no_instr) (or_else (nth js n) no_instr)
instr_nth (i ∷ is) (j ∷ js) (suc n) a = instr_nth is js n a.1
instr_nth is js n a = grind (arith, instr_self)

pub ops_alike : (is js : List Instr) → AlikeInstrs is js → ops_in js ≡ ops_in is
ops_alike (i ∷ is) (j ∷ js) a = ap₂ (λ (x : Op) (xs : List Op). x ∷ xs) a.0.op (ops_alike is js a.1)
ops_alike is js a = grind arith

pub grows_alike : (is js : List Instr) (m : ℕ) (i : Instr) → AlikeInstrs is js → nth is m ≡ Some i
    → (j : Instr) × (nth js m ≡ Some j) × GrowsTo i j
grows_alike (x ∷ xs) (y ∷ ys) zero i a e =
    let q : x ≡ i = (let r : Some x ≡ Some i = e in cc) in
    let d : length y.dests ≡ length i.dests =
    ap (λ (ds : List Dest). length ds) (a.0.dests ∙ ap (λ (z : Instr). z.dests) q) in
    let o : length y.others ≡ length i.others =
    ap (λ (ds : List Dest). length ds) (a.0.others ∙ ap (λ (z : Instr). z.others) q) in (
      y,
      refl,
      record {
        op = a.0.op ∙ ap (λ (z : Instr). z.op) q;
        dests = omega arith;
        others = omega arith;
      },
    )
grows_alike (x ∷ xs) (y ∷ ys) (suc m) i a e = grows_alike xs ys m i a.1 e
grows_alike is js m i a e = grind arith

-- what holds of all of the one, of all of the other
pub all_alike : (P Q : Instr → Type 0) (is js : List Instr) → AlikeInstrs is js
    → ((i j : Instr) → AlikeInstr i j → P i → Q j) → AllByRecursion P is → AllByRecursion Q js
all_alike P Q (i ∷ is) (j ∷ js) a f h = (f i j a.0 h.0, all_alike P Q is js a.1 f h.1)
all_alike P Q is js a f h = grind arith

pub blocks_alike : (P Q : Block → Type 0) (xs ys : List Block) → AlikeBlocks xs ys
    → ((x y : Block) → AlikeBlock x y → P x → Q y) → AllByRecursion P xs → AllByRecursion Q ys
blocks_alike P Q (x ∷ xs) (y ∷ ys) a f h = (f x y a.0 h.0, blocks_alike P Q xs ys a.1 f h.1)
blocks_alike P Q xs ys a f h = grind arith

-- Blocks.

blocks_length : (xs ys : List Block) → AlikeBlocks xs ys → length ys ≡ length xs
blocks_length (x ∷ xs) (y ∷ ys) a = ap suc (blocks_length xs ys a.1)
blocks_length xs ys a = grind arith

block_self : AlikeBlock no_block no_block
unfolding no_block
block_self = record { wave = refl; pads = refl; exit = refl; instrs = tt }

block_nth : (xs ys : List Block) (n : ℕ) → AlikeBlocks xs ys
    → AlikeBlock (or_else (nth xs n) no_block) (or_else (nth ys n) no_block)
block_nth (x ∷ xs) (y ∷ ys) (suc n) a = block_nth xs ys n a.1
block_nth xs ys n a = grind (arith, block_self)

firsts_alike : (xs ys : List Block) (n : ℕ) → AlikeBlocks xs ys → first_of ys n ≡ first_of xs n
firsts_alike (x ∷ xs) (y ∷ ys) (suc n) a = ap₂ (λ (k m : ℕ). k + m)
    (instrs_length x.instrs y.instrs a.0.instrs) (firsts_alike xs ys n a.1)
firsts_alike xs ys n a = grind arith

holder_alike : (xs ys : List Block) (b k : ℕ) → AlikeBlocks xs ys → holder ys b k ≡ holder xs b k
holder_alike [] [] b k a = refl
holder_alike [] (y ∷ ys) b k a = absurd a
holder_alike (x ∷ xs) [] b k a = absurd a
holder_alike (x ∷ xs) (y ∷ ys) b k a =
    grind (arith, instrs_length, holder_alike xs ys (suc b) (k - length x.instrs) a.1)

waves_from : (v w : ℕ) (xs ys : List Block) → v ≡ w → AlikeBlocks xs ys → WavesFrom v xs → WavesFrom w ys
waves_from v w [] [] e a h = tt
waves_from v w [] (y ∷ ys) e a h = absurd a
waves_from v w (x ∷ xs) [] e a h = absurd a
waves_from v w (x ∷ xs) (y ∷ ys) e a h = grind (arith, waves_from x.wave y.wave xs ys (sym a.0.wave) a.1 h.1)

waves_alike : (xs ys : List Block) → AlikeBlocks xs ys → WavesInOrder xs → WavesInOrder ys
waves_alike xs ys a h = grind (arith, waves_from)

pub block_alike : (image new : Image) (b : ℕ) → AlikeBlocks image.blocks new.blocks
    → AlikeBlock (block_at image b) (block_at new b)
unfolding block_at
block_alike image new zero a = block_self
block_alike image new (suc b) a = block_nth image.blocks new.blocks b a

instr_alike : (image new : Image) (k : ℕ) → AlikeBlocks image.blocks new.blocks
    → AlikeInstr (instr_at image k) (instr_at new k)
unfolding instr_at
instr_alike image new k a = grind (arith, instr_self, instr_nth, flat_alike)

numbers : (image new : Image) (b : ℕ) → AlikeBlocks image.blocks new.blocks
    → first_number new b ≡ first_number image b
unfolding first_number
numbers image new b a = grind (arith, firsts_alike)

holders : (image new : Image) (k : ℕ) → AlikeBlocks image.blocks new.blocks
    → block_of new k ≡ block_of image k
unfolding block_of
holders image new k a = grind (arith, holder_alike)

pub same_shape : (image new : Image) → AlikeBlocks image.blocks new.blocks → SameShape image new
same_shape image new a = record {
  numbers = λ b. numbers image new b a;
  count = blocks_length image.blocks new.blocks a;
  holders = λ k. holders image new k a;
  waves = λ b. (block_alike image new b a).wave;
  pads = λ b. (block_alike image new b a).pads;
  exits = λ b. (block_alike image new b a).exit;
  ops = λ k. (instr_alike image new k a).op;
  dests = λ k. (instr_alike image new k a).dests;
  others = λ k. (instr_alike image new k a).others;
  in_order = waves_alike image.blocks new.blocks a;
}
