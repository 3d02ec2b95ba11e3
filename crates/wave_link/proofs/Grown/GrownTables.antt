-- What triggers which no-op: the tables by block and by instruction.
use Rattle.std.proofs.Common.{ℕ, zero, suc, ◌+◌, ◌≡◌, ◌<◌, ◌≤◌, ◌⊎◌, Bool, true, false, cond, List, [], ◌∷◌}
use Rattle.std.proofs.Common.{length, length-append, get_or, refl, sym, ap, ◌∙◌, inl, inr, subst, arith}
use Rattle.std.proofs.lemmas.Bool.{cases_Bool, cases_lt}
use Rattle.std.proofs.lemmas.List.{get_or-set_other, get_or-replicate, length-replicate}
use Rattle.std.proofs.Math.ListN.{length-set}
use Rattle.ws_isa.specs.declared.instr.Op.{Op}
use Rattle.ws_isa.specs.Image.{Instr, Exit, Block, Image, no_instr, no_block, flat, instr_at, block_at}
use Rattle.ws_isa.specs.Image.{first_of, first_number, is_giving_op, IsIn, IsBlock, is_steer_op}
use Rattle.ws_isa.proofs.Blocks.{block_is}
use Rattle.ws_isa.proofs.Steps.{first_le}
use Rattle.wave_link.specs.Layout.{giving_from, steer_from, givings_from, steers_from, numbers_from, count_up}
use Rattle.wave_link.specs.Layout.{with_nop, Extras, extras_step, extras_from, givings_table, steers_table}
use Rattle.wave_link.specs.Layout.{nops_table, numbers_table, no_extras, extras_of}
use Rattle.wave_link.specs.Grown.{added_in}
use Rattle.wave_link.proofs.Parted.Parts.{tables_in}
use Rattle.wave_link.proofs.Grown.GrownRows.{InBlock, in_block, instr_at_place, block_size, instr_positive}
use Rattle.wave_link.proofs.Grown.GrownOrigin.{is_instr}
use Rattle.ws_words.specs.Items.{nth, or_else}

-- The first instruction of a kind.

abbrev pub found_from : (Op → Bool) → ℕ → List Instr → ℕ
found_from P k [] = 0
found_from P k (i ∷ is) = cond (P i.op) k (found_from P (k + 1) is)

giving_is : (k : ℕ) (is : List Instr) → giving_from k is ≡ found_from is_giving_op k is
giving_is k [] = refl
giving_is k (i ∷ is) = grind (arith, giving_is (k + 1) is)

steer_is : (k : ℕ) (is : List Instr) → steer_from k is ≡ found_from is_steer_op k is
steer_is k [] = refl
steer_is k (i ∷ is) = grind (arith, steer_is (k + 1) is)

pub record NoneOf (P : Op → Bool) (is : List Instr) (n : ℕ) : Type 0 where
  pub zero_is : n ≡ 0
  pub none : (i : ℕ) → i < length is → P (or_else (nth is i) no_instr).op ≡ false

pub record OneOf (P : Op → Bool) (k : ℕ) (is : List Instr) (n : ℕ) : Type 0 where
  pub place : ℕ
  pub within : place < length is
  pub number : n ≡ k + place
  pub is_one : P (or_else (nth is place) no_instr).op ≡ true

search_cases : (P : Op → Bool) (k : ℕ) (is : List Instr) → NoneOf P is (found_from P k is)
    ⊎ OneOf P k is (found_from P k is)
search_cases P k [] = grind arith
search_cases P k (x ∷ is) = go (search_cases P (k + 1) is) (cases_Bool (P x.op))
  where
    go : NoneOf P is (found_from P (k + 1) is) ⊎ OneOf P (k + 1) is (found_from P (k + 1) is)
        → (P x.op ≡ true) ⊎ (P x.op ≡ false) → NoneOf P (x ∷ is) (cond (P x.op) k (found_from P (k + 1) is))
        ⊎ OneOf P k (x ∷ is) (cond (P x.op) k (found_from P (k + 1) is))
    go r (inl e) = grind arith
    go (inl r) (inr e) = grind arith
    go (inr r) (inr e) =
        inr (record {
          place = suc r.place;
          within = omega (arith, r.within);
          number = rw e (r.number ∙ sum k r.place);
          is_one = r.is_one;
        })
      where
        sum : (k p : ℕ) → k + 1 + p ≡ k + suc p
        sum k p = omega arith

-- The tables by block.

giving_there : (xs : List Block) (k n j : ℕ) → n < length xs → suc j ≡ k + first_of xs n
    → get_or (givings_from xs k) n 0 ≡ giving_from j (or_else (nth xs n) no_block).instrs
giving_there (x ∷ xs) k (suc n) j l e = giving_there xs (k + length x.instrs) n j (omega arith) (omega arith)
giving_there xs k n j l e = grind arith

steer_there : (xs : List Block) (k n j : ℕ) → n < length xs → suc j ≡ k + first_of xs n
    → get_or (steers_from xs k) n 0 ≡ steer_from j (or_else (nth xs n) no_block).instrs
steer_there (x ∷ xs) k (suc n) j l e = steer_there xs (k + length x.instrs) n j (omega arith) (omega arith)
steer_there xs k n j l e = grind arith

-- the first giving instruction of block b, and its first steer; 0 if there is none
unfoldable pub giver : Image → ℕ → ℕ
giver draft b = get_or (givings_table draft.blocks) b 0

unfoldable pub steer_in : Image → ℕ → ℕ
steer_in draft b = get_or (steers_table draft.blocks) b 0

giver_is : (draft : Image) (b : ℕ) → IsBlock draft b → giver draft b ≡ found_from is_giving_op
    (first_number draft b) (block_at draft b).instrs
unfolding giver first_number
giver_is draft zero h = absurd (omega (arith, h.0))
giver_is draft (suc n) h = giving_there draft.blocks 1 n (first_of draft.blocks n) (omega (arith, h.1))
    (omega arith)
    ∙ (grind (arith, giving_is, block_is))

steer_in_is : (draft : Image) (b : ℕ) → IsBlock draft b → steer_in draft b ≡ found_from is_steer_op
    (first_number draft b) (block_at draft b).instrs
unfolding steer_in first_number
steer_in_is draft zero h = absurd (omega (arith, h.0))
steer_in_is draft (suc n) h = steer_there draft.blocks 1 n (first_of draft.blocks n) (omega (arith, h.1))
    (omega arith)
    ∙ (grind (arith, steer_is, block_is))

-- no instruction of block b is of this kind, or number n is
pub record NoneIn (P : Op → Bool) (draft : Image) (b n : ℕ) : Type 0 where
  pub zero_is : n ≡ 0
  pub none : (k : ℕ) → IsIn draft b k → P (instr_at draft k).op ≡ false

pub record OneIn (P : Op → Bool) (draft : Image) (b n : ℕ) : Type 0 where
  pub inside : IsIn draft b n
  pub is_one : P (instr_at draft n).op ≡ true

in_cases : (P : Op → Bool) (draft : Image) (b n : ℕ) → IsBlock draft b
    → n ≡ found_from P (first_number draft b) (block_at draft b).instrs
    → NoneIn P draft b n ⊎ OneIn P draft b n
in_cases P draft b n h e = go (search_cases P (first_number draft b) (block_at draft b).instrs)
  where
    go : NoneOf P (block_at draft b).instrs (found_from P (first_number draft b) (block_at draft b).instrs)
        ⊎ OneOf P (first_number draft b) (block_at draft b).instrs
        (found_from P (first_number draft b) (block_at draft b).instrs)
        → NoneIn P draft b n ⊎ OneIn P draft b n
    go (inl r) = inl (record {
      zero_is = e ∙ r.zero_is;
      none = λ k i. (let x : InBlock draft b k = in_block draft b k h i in ap (λ (y : Instr). P y.op) x.is
          ∙ r.none x.place x.within);
    })
    go (inr r) = grind (arith, block_size, instr_at_place)

pub giver_cases : (draft : Image) (b : ℕ) → IsBlock draft b → NoneIn is_giving_op draft b (giver draft b)
    ⊎ OneIn is_giving_op draft b (giver draft b)
giver_cases draft b h = in_cases is_giving_op draft b (giver draft b) h (giver_is draft b h)

pub steer_cases : (draft : Image) (b : ℕ) → IsBlock draft b → NoneIn is_steer_op draft b (steer_in draft b)
    ⊎ OneIn is_steer_op draft b (steer_in draft b)
steer_cases draft b h = in_cases is_steer_op draft b (steer_in draft b) h (steer_in_is draft b h)

-- The tables by instruction.

step_now_far : (exit : Exit) (b : ℕ) (nops givings steers : List ℕ) (e : Extras) (k : ℕ)
    → (get_or givings b 0 ≡ k → ⊥) → (get_or steers b 0 ≡ k → ⊥)
    → get_or (extras_step exit b nops givings steers e).now k 0 ≡ get_or e.now k 0
step_now_far exit b nops givings steers e k g s = grind (arith, get_or-set_other)

step_other_far : (exit : Exit) (b : ℕ) (nops givings steers : List ℕ) (e : Extras) (k : ℕ)
    → (get_or steers b 0 ≡ k → ⊥) → get_or (extras_step exit b nops givings steers e).other k 0
    ≡ get_or e.other k 0
step_other_far exit b nops givings steers e k s = grind (arith, get_or-set_other)

step_now_length : (exit : Exit) (b : ℕ) (nops givings steers : List ℕ) (e : Extras)
    → length (extras_step exit b nops givings steers e).now ≡ length e.now
step_now_length exit b nops givings steers e = grind (arith, length-set)

step_other_length : (exit : Exit) (b : ℕ) (nops givings steers : List ℕ) (e : Extras)
    → length (extras_step exit b nops givings steers e).other ≡ length e.other
step_other_length exit b nops givings steers e = grind (arith, length-set)

-- the blocks of these numbers write nothing at place k
abbrev pub Apart : List ℕ → List ℕ → ℕ → ℕ → ℕ → Type 0
Apart givings steers k b n = (m : ℕ) → b ≤ m → m < b + n → (get_or givings m 0 ≡ k → ⊥)
    × (get_or steers m 0 ≡ k → ⊥)

apart_rest : (givings steers : List ℕ) (k b n : ℕ) → Apart givings steers k b (suc n)
    → Apart givings steers k (b + 1) n
apart_rest givings steers k b n a m l h = a m (omega arith) (omega arith)

far_now : (xs : List Block) (b : ℕ) (nops givings steers : List ℕ) (e : Extras) (k : ℕ)
    → Apart givings steers k b (length xs) → get_or (extras_from xs b nops givings steers e).now k 0
    ≡ get_or e.now k 0
far_now [] b nops givings steers e k a = refl
far_now (x ∷ xs) b nops givings steers e k a =
    far_now xs (b + 1) nops givings steers (extras_step x.exit b nops givings steers e) k
    (apart_rest givings steers k b (length xs) a)
    ∙ step_now_far x.exit b nops givings steers e k (a b (omega arith) (omega arith)).0
    (a b (omega arith) (omega arith)).1

far_other : (xs : List Block) (b : ℕ) (nops givings steers : List ℕ) (e : Extras) (k : ℕ)
    → Apart givings steers k b (length xs) → get_or (extras_from xs b nops givings steers e).other k 0
    ≡ get_or e.other k 0
far_other [] b nops givings steers e k a = refl
far_other (x ∷ xs) b nops givings steers e k a =
    far_other xs (b + 1) nops givings steers (extras_step x.exit b nops givings steers e) k
    (apart_rest givings steers k b (length xs) a)
    ∙ step_other_far x.exit b nops givings steers e k (a b (omega arith) (omega arith)).1

-- nothing was written at place k yet
pub record Blank (e : Extras) (k : ℕ) : Type 0 where
  pub now_zero : get_or e.now k 0 ≡ 0
  pub other_zero : get_or e.other k 0 ≡ 0
  pub now_fits : k < length e.now
  pub other_fits : k < length e.other

blank_step : (exit : Exit) (b : ℕ) (nops givings steers : List ℕ) (e : Extras) (k : ℕ)
    → (get_or givings b 0 ≡ k → ⊥) → (get_or steers b 0 ≡ k → ⊥) → Blank e k
    → Blank (extras_step exit b nops givings steers e) k
blank_step exit b nops givings steers e k g s h =
    grind (arith, step_now_far, step_other_far, step_now_length, step_other_length)

-- what stands at place k was written by block m
pub record Written (final : Extras) (exit : Exit) (m : ℕ) (nops givings steers : List ℕ) (k : ℕ) : Type
    0 where
  pub before : Extras
  pub blank : Blank before k
  pub now_is : get_or final.now k 0 ≡ get_or (extras_step exit m nops givings steers before).now k 0
  pub other_is : get_or final.other k 0 ≡ get_or (extras_step exit m nops givings steers before).other k 0

written : (xs : List Block) (b n m : ℕ) (nops givings steers : List ℕ) (e : Extras) (k : ℕ) → n < length xs
    → m ≡ b + n → Blank e k →
    ((l : ℕ) → b ≤ l → l < b + length xs → (l ≡ m → ⊥) → (get_or givings l 0 ≡ k → ⊥)
    × (get_or steers l 0 ≡ k → ⊥)) →
    Written (extras_from xs b nops givings steers e) (or_else (nth xs n) no_block).exit m nops givings steers
    k
written (x ∷ xs) b (suc n) m nops givings steers e k l f h a =
    let c = a b (omega arith) (omega arith) (λ r. omega arith) in
    written xs (b + 1) n m nops givings steers (extras_step x.exit b nops givings steers e) k (omega arith)
    (omega arith) (blank_step x.exit b nops givings steers e k c.0 c.1 h)
    (λ i p q r. a i (omega arith) (omega arith) r)
written v0 v1 v2 v3 v4 v5 v6 v7 v8 v9 v10 v11 v12 = grind (arith, far_now, far_other)

count_up_length : (n k : ℕ) → length (count_up n k) ≡ k
count_up_length n zero = refl
count_up_length n (suc k) = ap suc (count_up_length (n + 1) k)

numbers_length : (xs : List Block) (b n : ℕ) (added : List Bool) → length (numbers_from xs b n added)
    ≡ length (flat xs)
numbers_length [] b n added = refl
numbers_length (x ∷ xs) b n added =
    grind (
      arith,
      length-append,
      count_up_length,
      numbers_length xs (b + 1) (with_nop (get_or added b false) (n + length x.instrs)) added,
    )

-- blocks hold no instruction in common
pub apart_blocks : (draft : Image) (b c k : ℕ) → IsBlock draft b → IsBlock draft c → IsIn draft b k
    → IsIn draft c k → b ≡ c
apart_blocks draft b c k h i x y = grind (arith, cases_lt, first_le)

giver_apart : (draft : Image) (b l k : ℕ) → IsBlock draft b → IsBlock draft l → IsIn draft b k → (l ≡ b → ⊥)
    → giver draft l ≡ k → ⊥
giver_apart draft b l k h i x n e = elim (giver_cases draft l i) [
  | inl r ↦ omega (arith, r.zero_is, e, instr_positive draft b k h x)
  | inr r ↦ n (apart_blocks draft l b k i h (subst (IsIn draft l) e r.inside) x)
]

steer_apart : (draft : Image) (b l k : ℕ) → IsBlock draft b → IsBlock draft l → IsIn draft b k → (l ≡ b → ⊥)
    → steer_in draft l ≡ k → ⊥
steer_apart draft b l k h i x n e = elim (steer_cases draft l i) [
  | inl r ↦ omega (arith, r.zero_is, e, instr_positive draft b k h x)
  | inr r ↦ n (apart_blocks draft l b k i h (subst (IsIn draft l) e r.inside) x)
]

abbrev pub nops_in : Image → List ℕ
nops_in draft = nops_table draft.blocks (added_in draft.blocks)

abbrev pub givings_in : Image → List ℕ
givings_in draft = givings_table draft.blocks

abbrev pub steers_in : Image → List ℕ
steers_in draft = steers_table draft.blocks

pub extras_in : Image → Extras
extras_in draft = extras_of draft.blocks (added_in draft.blocks)

pub now_table : (draft : Image) → (tables_in draft.blocks).now ≡ (extras_in draft).now
unfolding extras_in
now_table draft = refl

pub other_table : (draft : Image) → (tables_in draft.blocks).other ≡ (extras_in draft).other
unfolding extras_in
other_table draft = refl

blank_start : (n k : ℕ) → k < n → Blank (no_extras n) k
blank_start n k l = grind (arith, get_or-replicate, length-replicate)

numbers_size : (draft : Image) → length (numbers_table draft.blocks (added_in draft.blocks))
    ≡ suc (length (flat draft.blocks))
numbers_size draft = ap suc (numbers_length draft.blocks 0 1 (added_in draft.blocks))

block_exit : (draft : Image) (b : ℕ) → IsBlock draft b → (n : ℕ) × (b ≡ suc n) × (n < length draft.blocks)
    × ((block_at draft b).exit ≡ (or_else (nth draft.blocks n) no_block).exit)
block_exit draft zero h = absurd (omega (arith, h.0))
block_exit draft (suc n) h = grind (arith, block_is)

-- what is written at an instruction is its own block's
pub writes : (draft : Image) (b k : ℕ) → IsBlock draft b → IsIn draft b k
    → Written (extras_in draft) (block_at draft b).exit b (nops_in draft) (givings_in draft) (steers_in draft)
    k
unfolding extras_in giver steer_in
writes draft b k h i =
    let x = block_exit draft b h in
    subst (λ (e : Exit). Written (extras_of draft.blocks (added_in draft.blocks)) e b (nops_in draft)
    (givings_in draft) (steers_in draft) k) (sym x.3)
    (written draft.blocks 1 x.0 b (nops_in draft) (givings_in draft) (steers_in draft)
    (no_extras (length (numbers_table draft.blocks (added_in draft.blocks)))) k x.2 (omega arith)
    (blank_start (length (numbers_table draft.blocks (added_in draft.blocks))) k
    (omega (arith, (is_instr draft b k h i).1, numbers_size draft)))
    (λ l p q r. (grind (arith, giver_apart, steer_apart))))
