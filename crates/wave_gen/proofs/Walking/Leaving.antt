-- How many blocks a walk leaves.
use Rattle.std.proofs.Common.{ℕ, zero, suc, ◌+◌, ◌-◌, ◌≡◌, ◌≤◌, Bool, true, false, cond, List, [], ◌∷◌, ◌++◌}
use Rattle.std.proofs.Common.{length, Some, None, refl, subst, inl, inr, arith, length-append}
use Rattle.std.proofs.lemmas.Bool.{cases_order, cond-true}
use Rattle.ws_words.specs.Outside.{Outside, World}
use Rattle.ws_isa.specs.Image.{Image}
use Rattle.ws_isa.specs.Walk.{Inst, pos, walk, with_inst, inst_at, fires, fires_from, is_within}
use Rattle.wave_link.specs.Passed.{blocks_left}
use Rattle.cfg_core.specs.Graph.{Graph}
use Rattle.cfg_core.specs.Walk as graph
use Rattle.cfg_core.specs.Walk.{Config, At, Over, Going}
use Rattle.cfg_core.specs.Weights.{block_left, path}
use Rattle.wave_link.proofs.Sound.WalksOf.{over_next}

module _ (image : Image) (world : World) where
  -- each step fires an instruction or leaves a block
  one_step : (t : ℕ) → blocks_left image world (suc t) + length (walk image world (suc t))
      ≤ suc (blocks_left image world t + length (walk image world t))
  unfolding blocks_left walk fires fires_from
  one_step t = go (blocks_left image world t) (walk image world t) (inst_at image (pos image world t))
      (pos image world t).over (is_within image (pos image world t))
    where
      go : (n : ℕ) (xs : List Inst) (i : Inst) (o w : Bool) → n + cond o 0 (cond w 0 1) + length
          (with_inst xs (cond o None (cond w (Some i) None))) ≤ suc (n + length xs)
      go n xs i true w = omega arith
      go n xs i false true = let e = length-append xs (i ∷ []) in omega (arith, e)
      go n xs i false false = omega arith

  pub steps_many : (t : ℕ) → blocks_left image world t + length (walk image world t) ≤ t
  unfolding blocks_left walk
  steps_many zero = omega arith
  steps_many (suc t) = let i = steps_many t in let s = one_step t in omega arith

  left_grows : (t : ℕ) → blocks_left image world t ≤ blocks_left image world (suc t)
  unfolding blocks_left
  left_grows t = omega arith

  left_up : (d t : ℕ) → blocks_left image world t ≤ blocks_left image world (d + t)
  left_up zero t = let e : 0 + t ≡ t = omega arith in rw e (omega arith)
  left_up (suc d) t = grind (arith, left_grows, left_up d t)

  none_left : (t : ℕ) → (pos image world t).over ≡ true → blocks_left image world (suc t) ≤ blocks_left image
      world t
  unfolding blocks_left
  none_left t o = grind (arith, cond-true)

  quiet : (d t : ℕ) → (pos image world t).over ≡ true → ((pos image world (d + t)).over ≡ true)
      × (blocks_left image world (d + t) ≤ blocks_left image world t)
  quiet zero t o = let e : 0 + t ≡ t = omega arith in rw e (o, omega arith)
  quiet (suc d) t o =
      let e : suc d + t ≡ suc (d + t) = omega arith in grind (arith, none_left, over_next, quiet d t o)

  -- once the walk is over it leaves no more
  pub most_left : (t : ℕ) → (pos image world t).over ≡ true → (u : ℕ) → blocks_left image world u
      ≤ blocks_left image world t
  most_left t o u = elim (cases_order u t) [
    | inl e ↦ rw e (omega arith)
    | inr r ↦ elim r [
      | inl l ↦ (let a = left_up (t - u) u in
          let e : (t - u) + u ≡ t = omega arith in
          subst (λ (n : ℕ). blocks_left image world u ≤ blocks_left image world n) e a)
      | inr l ↦ (let a = quiet (u - t) t o in
          let e : (u - t) + t ≡ u = omega arith in
          subst (λ (n : ℕ). blocks_left image world n ≤ blocks_left image world t) e a.1)
    ]
  ]

module _ (g : Graph) where
  pub walk_going : (m : ℕ) (o p : Outside) (k : ℕ) → graph.walk g m (Going o) ≡ Over p k → ⊥
  walk_going zero o p k e = cc
  walk_going (suc m) o p k e = walk_going m o p k e

  -- a walk is over once it has left its blocks
  pub path_enough : (m : ℕ) (c : Config) (o : Outside) (k : ℕ) → graph.walk g m c ≡ Over o k
      → graph.walk g (length (path g m c)) c ≡ Over o k
  path_enough (suc m) (Over p j) o k e = path_enough m (Over p j) o k e
  path_enough (suc m) (At b s frames j) o k e = go (graph.step g (At b s frames j)) refl
      (path_enough m (graph.step g (At b s frames j)) o k e) e
    where
      go : (c : Config) → graph.step g (At b s frames j) ≡ c → graph.walk g (length (path g m c)) c ≡ Over o k
          → graph.walk g m c ≡ Over o k → graph.walk g (length (block_left (At b s frames j) c ++ path g m c))
          (At b s frames j) ≡ Over o k
      go c to h w = grind (arith, walk_going)
  path_enough m c o k e = grind (arith, walk_going)
