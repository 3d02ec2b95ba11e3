-- Issued operations that the chain hasn't passed, by number and as a list.
use Rattle.std.proofs.Common.{ℕ, suc, ◌≡◌, ◌<◌, ◌≤◌, ◌⊎◌, List, [], ◌∷◌, map, length, slice_index_or, Result}
use Rattle.std.proofs.Common.{IsOk, sym, ap, ◌∙◌, subst, inl, inr, arith}
use Rattle.std.specs.Prelude.{OnOk, IfNone, IfSome, Option, Some, None}
use Rattle.std.proofs.lemmas.List.Sorted.{Contains-permutation, IsPermutation-sym}
use Rattle.std.proofs.lemmas.Bool.{both_ways}
use Rattle.std.proofs.lemmas.List.{length-map}
use Rattle.std.specs.List.{Contains}
use Rattle.std.specs.List.Sorted.{IsPermutation}
use Rattle.std.specs.BinaryHeap.{heap_items, heap_len}
use Rattle.std.specs.declared.cmp.Reverse.{Reverse}
use Rattle.ws_isa.specs.Image.{Image, note_of}
use Rattle.df_core.specs.Core.{Chain, IsNext, pass, position_after}
use Rattle.df_core.specs.Chains.{HasOneMore}
use Rattle.df_core.specs.Stands.{Settles, done, rests, drops, goes, left_after}
use Rattle.store_buf.specs.Ranks.{under}
use Rattle.store_buf.specs.Earlies.{IsFirst, Numbered, StandsUnder, early_ops}
use Rattle.store_buf.specs.declared.early.Early.{Early}
use Rattle.store_buf.proofs.Tops as T
use Rattle.ws_words.specs.Items.{In}

pub numbered_still : (image : Image) (xs ys : List (Reverse (ℕ × ℕ)))
    → ((n i : ℕ) → Contains xs (under n i) → n ≡ (note_of image i).seq) → ys ≡ xs → (n i : ℕ)
    → Contains ys (under n i) → n ≡ (note_of image i).seq
numbered_still image xs ys before same n i s =
    before n i (subst (λ (zs : List (Reverse (ℕ × ℕ))). Contains zs (under n i)) same s)

none_in : (xs : List (Reverse (ℕ × ℕ))) → map (λ (r : Reverse (ℕ × ℕ)). r.0.1) xs ≡ [] → length xs ≡ 0
none_in xs e = sym (length-map xs (λ (r : Reverse (ℕ × ℕ)). r.0.1)) ∙ ap length e

-- as many are there as are listed
pub as_long : (one other : Early) → early_ops one ≡ early_ops other → heap_len one.heap ≡ heap_len other.heap
as_long one other e = grind (arith, length-map)

pub none_there : (early : Early) → early_ops early ≡ [] → heap_len early.heap ≡ 0
none_there early e = grind (arith, none_in (heap_items early.heap) e)

abbrev pub places : List (Reverse (ℕ × ℕ)) → List ℕ
places xs = map (λ r. r.0.1) xs

-- an operation of the list is there, under some number
record Somewhere (xs : List (Reverse (ℕ × ℕ))) (i : ℕ) : Type 0 where
  number : ℕ
  there : Contains xs (under number i)

somewhere : (xs : List (Reverse (ℕ × ℕ))) (i : ℕ) → In i (places xs) → Somewhere xs i
somewhere [] i h = absurd h
somewhere (x ∷ xs) i (inl h) = record { number = x.0.0; there = (0, omega arith, ap (under x.0.0) (sym h)) }
somewhere (x ∷ xs) i (inr h) = let r = somewhere xs i h in
    record { number = r.number; there = (suc r.there.0, (let l = r.there.1 in omega (arith, l)), r.there.2) }

in_list : (xs : List (Reverse (ℕ × ℕ))) (n i k : ℕ) → k < length xs → slice_index_or xs k (under n i)
    ≡ under n i → In i (places xs)
in_list (x ∷ xs) n i (suc k) l e = inr (in_list xs n i k (omega (arith, l)) e)
in_list xs n i k l e = grind arith

pub here : (early : Early) (n i : ℕ) → StandsUnder early n i → In i (early_ops early)
here early n i h = in_list (heap_items early.heap) n i h.0 h.1 h.2

-- what is said of success is so where there is success
pub ok_so : {A E : Type 0} (r : Result A E) (T : Type 0) → IsOk r → OnOk r T → T
ok_so r T ok h = grind (arith, both_ways)

-- one more has come
pub one_more : (old new : List (Reverse (ℕ × ℕ))) (n i : ℕ) → IsPermutation (under n i ∷ old) new
    → HasOneMore i (places old) (places new)
one_more old new n i same = (
  λ j h. let s = somewhere new j h in
      go j s.number (T.before old new (under n i) (under s.number j) same s.there),
  (let c = T.came_here old new (under n i) same in in_list new n i c.0 c.1 c.2),
  λ j h. let s = somewhere old j h in let c = T.came_beside old new (under s.number j) (under n i) same
      s.there in in_list new s.number j c.0 c.1 c.2,
)
  where
    go : (j m : ℕ) → (under n i ≡ under m j) ⊎ Contains old (under m j) → (i ≡ j) ⊎ In j (places old)
    go j m x = grind (arith, in_list)

pub one_numbered : (image : Image) (old new : List (Reverse (ℕ × ℕ))) (n i : ℕ)
    → IsPermutation (under n i ∷ old) new → n ≡ (note_of image i).seq →
    ((m j : ℕ) → Contains old (under m j) → m ≡ (note_of image j).seq) → (m j : ℕ) → Contains new (under m j)
    → m ≡ (note_of image j).seq
one_numbered image old new n i same is before m j c = elim (T.before old new (under n i) (under m j) same c) [
  | inl e ↦ (let f = ap (λ (r : Reverse (ℕ × ℕ)). r.0.0) e in let g = ap (λ (r : Reverse (ℕ × ℕ)). r.0.1) e in
      sym f ∙ is ∙ ap (λ (k : ℕ). (note_of image k).seq) g)
  | inr o ↦ before m j o
]

-- the first of them, of a list by number
module _ (image : Image) (early : Early) (n i : ℕ) (numbered : Numbered image early)
    (first : IsFirst early n i) where
  there : StandsUnder early n i
  there = (0, (let a = first.some in let b = early.heap.data.ok.0 in omega (arith, a, b)), first.first)

  number_is : n ≡ (note_of image i).seq
  number_is = numbered n i there

  -- it is ahead and isn't next
  pub first_rests : (c : Chain) → position_after c.last < n → (IsNext c (note_of image i) → ⊥)
      → Settles image c (early_ops early) c (early_ops early)
  first_rests c ahead other = rests i (here early n i there) other (let s = number_is in
      omega (arith, s, ahead)) (λ j h.
      let s = somewhere (heap_items early.heap) j h in
      let l = first.least s.number j s.there in
      let a = numbered s.number j s.there in
      let b = number_is in
      omega (arith, l, a, b))

  -- it has gone
  module _ (new : Early) (others : (a b : ℕ) → StandsUnder early a b → ((n ≡ a) × (i ≡ b))
      ⊎ StandsUnder new a b) (back : (a b : ℕ) → StandsUnder new a b → StandsUnder early a b) where
    back_in : (j : ℕ) → In j (early_ops new) → In j (early_ops early)
    back_in j h = let s = somewhere (heap_items new.heap) j h in
        here early s.number j (back s.number j s.there)

    pub rest_numbered : Numbered image new
    rest_numbered a b s = numbered a b (back a b s)

    -- it was behind
    pub first_drops : (c d : Chain) (left : List ℕ) → n ≤ position_after c.last
        → Settles image c (early_ops new) d left → Settles image c (early_ops early) d left
    first_drops c d left behind rest =
        drops (early_ops new) back_in (λ j h. let s = somewhere (heap_items early.heap) j h in
        elim (others s.number j s.there) [
          | inl e ↦ inl (let a = numbered s.number j s.there in let b = e.0 in omega (arith, a, b, behind))
          | inr o ↦ inr (here new s.number j o)
        ]) rest

    -- the chain passed it, and the wave goes on
    pub first_goes : (c e d : Chain) (left : List ℕ) → IsNext c (note_of image i)
        → e ≡ pass c (note_of image i) → left_after (note_of image i) (early_ops new) ≡ early_ops new
        → Settles image e (early_ops new) d left → Settles image c (early_ops early) d left
    first_goes c e d left nx is same rest = goes i (early_ops new) (here early n i there) nx back_in
        (λ j h. let s = somewhere (heap_items early.heap) j h in elim (others s.number j s.there) [
          | inl q ↦ inl q.1
          | inr o ↦ inr (here new s.number j o)
        ]) (subst (λ (x : Chain × List ℕ). Settles image x.0 x.1 d left) (λ k. (is k, sym same k)) rest)

  -- the chain passed it, and the wave is over
  pub first_ends : (c e : Chain) (left : List ℕ) → IsNext c (note_of image i) → e ≡ pass c (note_of image i)
      → left_after (note_of image i) (early_ops early) ≡ [] → left ≡ []
      → Settles image c (early_ops early) e left
  first_ends c e left nx is over none =
      let fin : Settles image (pass c (note_of image i)) [] (pass c (note_of image i)) [] =
      done (λ j h. absurd h) in
      let goes_on : Settles image (pass c (note_of image i)) (left_after (note_of image i) (early_ops early))
      (pass c (note_of image i)) [] =
      subst (λ (xs : List ℕ). Settles image (pass c (note_of image i)) xs (pass c (note_of image i)) [])
      (sym over) fin in
      subst (λ (x : Chain × List ℕ). Settles image c (early_ops early) x.0 x.1) (λ k. (sym is k, sym none k))
      (goes i (early_ops early) (here early n i there) nx (λ j h. h) (λ j h. inr h) goes_on)

-- what was there before the first went
pub before_gone : (xs ys : List (Reverse (ℕ × ℕ))) (r : Option (Reverse (ℕ × ℕ))) (same : IfNone r (ys ≡ xs))
    (gone : IfSome r (λ x. IsPermutation xs (x ∷ ys))) (n i : ℕ) → Contains ys (under n i)
    → Contains xs (under n i)
before_gone xs ys None same gone n i h = grind arith
before_gone xs ys (Some x) same gone n i h = Contains-permutation (x ∷ ys) xs (under n i)
    (IsPermutation-sym xs (x ∷ ys) gone) (suc h.0, (let l = h.1 in omega (arith, l)), h.2)

pub same_items : {X : Type 0} (r : Option X) (T U : Type 0) → IfNone r (T × U) → IfNone r T
same_items r T U h = grind arith

pub none_stands : (early : Early) → early_ops early ≡ [] → (n i : ℕ) → StandsUnder early n i → ⊥
none_stands early e n i h = let l = none_in (heap_items early.heap) e in let k = h.1 in omega (arith, l, k)
