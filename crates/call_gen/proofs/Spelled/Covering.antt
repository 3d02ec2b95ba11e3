-- The spelled graph has no block but doors, those that stand for blocks, and return points.
use Rattle.std.proofs.Common.{ℕ, zero, suc, ◌+◌, ◌-◌, ◌≡◌, ◌<◌, ◌⊎◌, Bool, true, false, if◌then◌else◌, List}
use Rattle.std.proofs.Common.{[], ◌∷◌, ◌++◌, length, take, refl, ap, ◌∙◌, inl, inr, Some, arith}
use Rattle.std.proofs.lemmas.Bool.{cases_lt}
use Rattle.std.proofs.lemmas.List.{length-append}
use Rattle.cfg_core.specs.Graph.{Block, GraphProc, Graph, Spot, spots, spots_in, spots_from, entry_of}
use Rattle.cfg_core.specs.Rules.{calls}
use Rattle.call_gen.specs.Spelled.{count_of, is_call, moved, door, spelled_blocks, spelled_procs, spelled}
use Rattle.call_gen.specs.Charged.{IsPlaced}
use Rattle.call_gen.proofs.Spelled.Placing.{take_left, take_right, count_both, after_count, head_spots}
use Rattle.call_gen.proofs.Spelled.Placing.{head_count, in_blocks, door_in, door_later}
use Rattle.call_gen.proofs.Parted.PartWalk.{spot_from}
use Rattle.call_gen.proofs.Along.Standing.{places}
use Rattle.cfg_core.proofs.Spots.{nth_right}
use Rattle.cfg_core.proofs.Weighing.{count_in as spots_in_count}
use Rattle.ws_words.specs.Items.{nth}
use Rattle.ws_words.proofs.Places.{nth_short, nth_append_left}

-- Here stands a block of these, or after it the point to which its call returns.
record AtBlock (ss : List Spot) (k : ℕ) : Type 0 where
  block : ℕ
  spot : Spot
  is : nth ss block ≡ Some spot
  place : (k ≡ block + count_of is_call (take block ss))
      ⊎ ((is_call spot ≡ true) × (k ≡ suc (block + count_of is_call (take block ss))))

-- after one more block
one_later : (x : Spot) (ss : List Spot) (k m : ℕ) → m ≡ k + suc (if is_call x then 1 else 0) → AtBlock ss k
    → AtBlock (x ∷ ss) m
one_later x ss k m e r = record { block = suc r.block; spot = r.spot; is = r.is; place = grind arith }

abbrev spot_of : ℕ → ℕ → Block → Spot
spot_of home vars x = record { home = home; vars = vars; block = x }

module _ (g : Graph) (live : List (List ℕ)) where
  one_of : (home vars b : ℕ) (xs : List Block) (k : ℕ) → k < length (spelled_blocks g live home vars b xs)
      → AtBlock (spots_in home vars xs) k
  one_of home vars b [] k lt = absurd (omega arith)
  one_of home vars b (x ∷ xs) zero lt = record {
    block = 0;
    spot = spot_of home vars x;
    is = refl;
    place = inl (omega arith);
  }
  one_of home vars b (x ∷ xs) (suc k) lt = go (calls x.exit) refl k
      (grind (arith, length-append, after_count)) (λ m lm. one_of home vars (suc b) xs m lm)
    where
      more : (v : Bool) → calls x.exit ≡ v → 0 + (if calls x.exit then 1 else 0) ≡ 0 + (if v then 1 else 0)
      more v e = ap (λ (t : Bool). 0 + (if t then 1 else 0)) e

      go : (v : Bool) → calls x.exit ≡ v → (k : ℕ) → k < (if calls x.exit then 1 else 0) + length
          (spelled_blocks g live home vars (suc b) xs)
          → ((m : ℕ) → m < length (spelled_blocks g live home vars (suc b) xs)
          → AtBlock (spots_in home vars xs) m) → AtBlock (spot_of home vars x ∷ spots_in home vars xs)
          (suc k)
      go true e zero l rest = record {
        block = 0;
        spot = spot_of home vars x;
        is = refl;
        place = inr (e, omega arith);
      }
      go true e (suc k) l rest = let one : 0 + (if calls x.exit then 1 else 0) ≡ 0 + 1 = more true e in
          one_later (spot_of home vars x) (spots_in home vars xs) k (suc (suc k)) (omega arith)
          (rest k (omega arith))
      go false e k l rest = let none : 0 + (if calls x.exit then 1 else 0) ≡ 0 + 0 = more false e in
          one_later (spot_of home vars x) (spots_in home vars xs) k (suc k) (omega arith)
          (rest k (omega arith))

  -- Here stands a door of these procedures, the first of which has number f, or a block, or a point.
  data Covered (f : ℕ) (ps : List GraphProc) (k : ℕ) : Type 0 where
    at_door : (e : ℕ) → e < length ps → k ≡ door_in g live f ps e → Covered f ps k
    at_block : (i : ℕ) (s : Spot) → nth (spots_from f ps) i ≡ Some s
        → k + f ≡ i + count_of is_call (take i (spots_from f ps)) + suc s.home → Covered f ps k
    at_point : (i : ℕ) (s : Spot) → nth (spots_from f ps) i ≡ Some s → is_call s ≡ true
        → k + f ≡ suc (i + count_of is_call (take i (spots_from f ps)) + suc s.home) → Covered f ps k

  module _ (f b : ℕ) (p : GraphProc) (ps : List GraphProc) where
    abbrev old : List Spot
    old = spots_in f p.vars p.blocks

    abbrev rest : List Spot
    rest = spots_from (suc f) ps

    -- a block of the first procedure
    in_first : (k : ℕ) → AtBlock (spots_in f p.vars p.blocks) k → Covered f (p ∷ ps) (suc k)
    in_first k r =
        let there = nth_short old r.block r.spot r.is in
        let is : nth (old ++ rest) r.block ≡ Some r.spot = nth_append_left old rest r.block there ∙ r.is in
        let home = (in_blocks g live f p.vars p.blocks r.block r.spot r.is).0 in
        let same : count_of is_call (take r.block (old ++ rest)) ≡ count_of is_call (take r.block old) =
        ap (count_of is_call) (take_left old rest r.block (omega arith)) in
        elim r.place [
          | inl e ↦ at_block r.block r.spot is (omega arith)
          | inr e ↦ at_point r.block r.spot is e.0 (omega arith)
        ]

    size : length (spelled_blocks g live f p.vars b p.blocks) ≡ length p.blocks + count_of is_call
        (spots_in f p.vars p.blocks)
    size = let h = head_count g live f b p in grind (arith, spots_in_count)

    -- a block of a later one
    in_later : (k j : ℕ) → k ≡ length (spelled_blocks g live f p.vars b p.blocks) + j → Covered (suc f) ps j
        → Covered f (p ∷ ps) (suc k)
    in_later k j split (at_door e lt is) = at_door (suc e) (omega (arith, lt))
        (omega (arith, split, is, door_later g live f p ps e lt, size))
    in_later k j split (at_block i s is at) = at_block (length old + i) s (grind (arith, nth_right))
        (omega (arith, split, at, counts i, spots_in_count f p.vars p.blocks, size))
      where
        counts : (i : ℕ) → count_of is_call (take (length old + i) (old ++ rest)) ≡ count_of is_call old
            + count_of is_call (take i rest)
        counts i = ap (count_of is_call) (grind (arith, take_right)) ∙ count_both is_call old (take i rest)
    in_later k j split (at_point i s is call at) = at_point (length old + i) s (grind (arith, nth_right)) call
        (omega (arith, split, at, counts i, spots_in_count f p.vars p.blocks, size))
      where
        counts : (i : ℕ) → count_of is_call (take (length old + i) (old ++ rest)) ≡ count_of is_call old
            + count_of is_call (take i rest)
        counts i = ap (count_of is_call) (grind (arith, take_right)) ∙ count_both is_call old (take i rest)

  covered : (f b : ℕ) (ps : List GraphProc) (k : ℕ) → k < length (spots_from f (spelled_procs g live f b ps))
      → Covered f ps k
  covered f b [] k lt = absurd (omega arith)
  covered f b (p ∷ ps) zero lt = at_door 0 (omega arith) (let z : 0 ≡ 0 + 0 + 0 = omega arith in z)
  covered f b (p ∷ ps) (suc k) lt =
      let m = length (spelled_blocks g live f p.vars b p.blocks) in
      let c = spots_in_count f (suc p.vars) (spelled_blocks g live f p.vars b p.blocks) in
      let a = length-append (head_spots g live f b p)
      (spots_from (suc f) (spelled_procs g live (suc f) (b + length p.blocks) ps)) in
      elim (cases_lt k m) [
        | inl inside ↦ in_first f b p ps k (one_of f p.vars b p.blocks k inside)
        | inr past ↦ in_later f b p ps k (k - m) (omega arith)
            (covered (suc f) (b + length p.blocks) ps (k - m) (omega arith))
      ]

  door_place : (e : ℕ) → door_in g live 0 g.procs e ≡ door g e
  unfolding door entry_of
  door_place e = refl

  block_place : (i : ℕ) (s : Spot) → nth (spots g) i ≡ Some s → moved g i ≡ i + count_of is_call
      (take i (spots g)) + suc s.home
  unfolding moved
  block_place i s is = grind (arith, spot_from)

  -- each block is one of these
  pub each_is_placed : (c : ℕ) → c < length (spots (spelled g live)) → IsPlaced g (places g live) c
  each_is_placed c lt =
      grind (arith, covered 0 0 g.procs c lt, places g live, door_place, nth_short, block_place, spot_from)
