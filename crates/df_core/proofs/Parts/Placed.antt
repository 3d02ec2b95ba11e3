-- Instructions by number.
use Rattle.std.proofs.Common.{ℕ, suc, ◌+◌, ◌-◌, ◌≡◌, ◌<◌, ◌≤◌, List, [], ◌∷◌, ◌++◌, length, map}
use Rattle.std.proofs.Common.{Some, None, slice_index_or, refl, sym, ap, ◌∙◌, inl, inr, arith}
use Rattle.std.proofs.Common.{append_assoc, length-append}
use Rattle.std.proofs.lemmas.Bool.{cases_lt, lt-ltb, le-ltb}
use Rattle.ws_isa.specs.Image.{Image, Instr, Block, flat, holder, instr_at, block_of, no_instr}
use Rattle.ws_isa.specs.View as view
use Rattle.ws_isa.specs.declared.instr.Instr as code
use Rattle.ws_isa.specs.declared.image.Block as code_block
use Rattle.df_core.specs.declared.program.PlacedInstr.{PlacedInstr}
use Rattle.df_core.specs.Listed.{place_in_code, places}
use Rattle.df_core.specs.Places.{PlaceIs}
use Rattle.ws_words.proofs.Lists.{length_map}
use Rattle.ws_words.specs.Items.{nth}
use Rattle.ws_words.proofs.Places.{nth_append_left}

nth_behind : {A : Type 0} (xs ys : List A) (k : ℕ) → length xs ≤ k → nth (xs ++ ys) k ≡ nth ys (k - length xs)
nth_behind (x ∷ xs) ys (suc k) l = grind (arith, nth_behind xs ys k (omega arith))
nth_behind xs ys k l = grind arith

nth_map : {A B : Type 0} (f : A → B) (xs : List A) (k : ℕ) (y : B) → nth (map f xs) k ≡ Some y
    → (x : A) × (nth xs k ≡ Some x) × (f x ≡ y)
nth_map f (x ∷ xs) (suc k) y e = nth_map f xs k y e
nth_map f xs k y e = grind arith

-- the instruction at a place, and its block
pub placed : (bs : List Block) (n k : ℕ) (i : Instr) (b : ℕ) → nth (places bs n) k ≡ Some (i, b)
    → (nth (flat bs) k ≡ Some i) × (holder bs n k ≡ b)
placed [] n k i b e = cc
placed (x ∷ bs) n k i b e = elim (cases_lt k (length x.instrs)) [
  | inl l ↦ (let len : length (map (λ (j : Instr). pair j n) x.instrs) ≡ length x.instrs =
      length_map (λ (j : Instr). pair j n) x.instrs in
      let f : nth (map (λ (j : Instr). pair j n) x.instrs) k ≡ Some (i, b) =
      sym (nth_append_left (map (λ (j : Instr). pair j n) x.instrs) (places bs (suc n)) k (omega arith))
      ∙ e in
      let r = nth_map (λ (j : Instr). pair j n) x.instrs k (i, b) f in (
        nth_append_left x.instrs (flat bs) k l ∙ r.1 ∙ ap (λ (y : Instr × ℕ). Some (y.0)) r.2,
        rw (lt-ltb k (length x.instrs) l) (ap (λ (y : Instr × ℕ). y.1) r.2),
      ))
  | inr l ↦ (let len : length (map (λ (j : Instr). pair j n) x.instrs) ≡ length x.instrs =
      length_map (λ (j : Instr). pair j n) x.instrs in
      let f : nth (places bs (suc n)) (k - length (map (λ (j : Instr). pair j n) x.instrs)) ≡ Some (i, b) =
      sym (nth_behind (map (λ (j : Instr). pair j n) x.instrs) (places bs (suc n)) k (omega arith)) ∙ e in
      let g : k - length (map (λ (j : Instr). pair j n) x.instrs) ≡ k - length x.instrs = omega arith in
      let r = placed bs (suc n) (k - length x.instrs) i b
      (rw g at f) in
      (nth_behind x.instrs (flat bs) k l ∙ r.0, rw (le-ltb k (length x.instrs) l) r.1))
]
  where
    pair : Instr → ℕ → Instr × ℕ
    pair j n = (j, n)

pub nth_of : {A B : Type 0} (f : A → B) (xs : List A) (k : ℕ) (x : A) → k < length xs
    → x ≡ slice_index_or xs k x → nth (map f xs) k ≡ Some (f x)
nth_of f (y ∷ xs) (suc k) x l e = nth_of f xs k x (omega arith) e
nth_of f xs k x l e = grind arith

pub nth_none : {A : Type 0} (xs : List A) (k : ℕ) → length xs ≤ k → nth xs k ≡ None
nth_none (x ∷ xs) (suc k) l = nth_none xs k (omega arith)
nth_none xs k l = grind arith

length_places : (bs : List Block) (n : ℕ) → length (places bs n) ≡ length (flat bs)
length_places [] n = refl
length_places (b ∷ bs) n =
    let e : length (places bs (suc n)) ≡ length (flat bs) = length_places bs (suc n) in
    let m : length (map (λ (i : Instr). pair i n) b.instrs) ≡ length b.instrs =
    length_map (λ (i : Instr). pair i n) b.instrs in
    let f : length (map (λ (i : Instr). pair i n) b.instrs ++ places bs (suc n))
    ≡ length (map (λ (i : Instr). pair i n) b.instrs) + length (places bs (suc n)) =
    length-append (map (λ (i : Instr). pair i n) b.instrs) (places bs (suc n)) in
    let g : length (b.instrs ++ flat bs) ≡ length b.instrs + length (flat bs) =
    length-append b.instrs (flat bs) in
    omega arith
  where
    pair : Instr → ℕ → Instr × ℕ
    pair j n = (j, n)

module _ (image : Image) (spots : List PlacedInstr) (are : map place_in_code spots ≡ places image.blocks
    1) where
  pub place_is : (number at : ℕ) (p : PlacedInstr) → number ≡ suc at → at < length spots
      → p ≡ slice_index_or spots at p → PlaceIs image number (view.instr p.instr.now) p.block
  unfolding instr_at block_of
  place_is number at p e l h =
      let n : nth (places image.blocks 1) at ≡ Some (place_in_code p) =
      grind (arith, place_in_code, nth_of) in grind (arith, placed, image.blocks, p.block)

  pub place_past : (number at : ℕ) → number ≡ suc at → length spots ≤ at → instr_at image number ≡ no_instr
  unfolding instr_at
  place_past number at e l = grind (arith, length_map, length_places, nth_none)

pub place_zero : (image : Image) (number : ℕ) → number ≡ 0 → instr_at image number ≡ no_instr
unfolding instr_at
place_zero image number e = rw e refl

-- one block more
abbrev paired : ℕ → Instr → Instr × ℕ
paired n i = (i, n)

both_maps : (n : ℕ) (is : List code.Instr) → map (λ i. (view.instr i, n)) is ≡ map (paired n)
    (map view.instr is)
both_maps n [] = refl
both_maps n (i ∷ is) = ap (λ (xs : List (Instr × ℕ)). (view.instr i, n) ∷ xs) (both_maps n is)

pub spots_more : (old new : List PlacedInstr) (now rest : List code_block.Block) (all : List Block)
    (b : code_block.Block) (n m nx : ℕ) → nx ≡ suc m → n ≡ m → now ≡ b ∷ rest →
    map place_in_code new ≡ map place_in_code old ++ map (λ i. (view.instr i, n)) b.instrs.items
    → map place_in_code old ++ places (map view.block now) m ≡ places all 1
    → map place_in_code new ++ places (map view.block rest) nx ≡ places all 1
spots_more old new now rest all b n m nx sx nm d e h =
    grind (arith, place_in_code, both_maps, append_assoc, paired)
