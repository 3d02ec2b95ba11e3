-- Each block of the spelled graph is a door, a block of the given graph, or a return point.
use Rattle.std.proofs.Common.{ℕ, suc, ◌+◌, ◌≡◌, ◌<◌, Bool, true, false, if◌then◌else◌, List, [], ◌∷◌, length}
use Rattle.std.proofs.Common.{take, refl, ap, ◌∙◌, subst, inl, inr, Option, Some, arith}
use Rattle.std.specs.List.{AllByRecursion}
use Rattle.cfg_core.specs.Graph.{Term, Exit, Call, Block, GraphProc, Graph, Spot, spots_in, spots_from}
use Rattle.cfg_core.specs.Graph.{no_proc}
use Rattle.call_gen.specs.Spelled.{callee_is, count_of, is_call, landings_from, after, spelled_blocks}
use Rattle.call_gen.specs.Spelled.{spelled_procs}
use Rattle.call_gen.proofs.Spelled.Placing.{plain_of, point_of, door_of}
use Rattle.ws_words.proofs.Lists.{all_append as all_both}
use Rattle.cfg_core.proofs.Spots.{spots_in_both as in_both, nth_right}
use Rattle.ws_words.specs.Items.{nth, or_else, In}
use Rattle.ws_words.proofs.Places.{nth_append_left}

module _ (g : Graph) (live : List (List ℕ)) (P : Spot → Type 0) where
  -- what holds of each kind holds of all blocks
  all_after : (home vars : ℕ) (s : Spot) (x : Exit) → s.home ≡ home → s.vars ≡ vars
      → ((r : Option ℕ) (f : ℕ) (ts : List Term) (back : ℕ) → x ≡ Call r f ts back
      → P (point_of g live s r back)) → AllByRecursion P (spots_in home (suc vars) (after g live home vars x))
  all_after home vars s x eh ev h = grind arith

  all_blocks : (home vars b : ℕ) (xs : List Block)
      → ((i : ℕ) (s : Spot) → nth (spots_in home vars xs) i ≡ Some s → P (plain_of g live s (b + i)))
      → ((i : ℕ) (s : Spot) (r : Option ℕ) (f : ℕ) (ts : List Term) (back : ℕ)
      → nth (spots_in home vars xs) i ≡ Some s → s.block.exit ≡ Call r f ts back
      → P (point_of g live s r back))
      → AllByRecursion P (spots_in home (suc vars) (spelled_blocks g live home vars b xs))
  all_blocks home vars b [] plain point = tt
  all_blocks home vars b (x ∷ xs) plain point =
      let here : Spot = record { home = home; vars = vars; block = x } in
      let z : b + 0 ≡ b = omega arith in (
        rw z at (plain 0 here refl),
        subst (λ (zs : List Spot). AllByRecursion P zs) (grind (arith, in_both)) (all_both P (spots_in
            home (suc vars) (after g live home vars x.exit)) (spots_in home (suc vars) (spelled_blocks g
            live home vars (suc b) xs)) (all_after home vars here x.exit refl refl (λ r f ts back e. point
            0 here r f ts back refl e)) (all_blocks home vars (suc b) xs (λ i s e. let n : b + suc i ≡ suc
            b + i = omega arith in rw n at (plain (suc i) s e)) (λ i s r f ts back e is. point (suc i) s r
            f ts back e is))),
      )

  pub all_spots : (f b : ℕ) (ps : List GraphProc)
      → ((e : ℕ) → e < length ps → P (door_of g live (f + e) (or_else (nth ps e) no_proc)))
      → ((i : ℕ) (s : Spot) → nth (spots_from f ps) i ≡ Some s → P (plain_of g live s (b + i)))
      → ((i : ℕ) (s : Spot) (r : Option ℕ) (c : ℕ) (ts : List Term) (back : ℕ)
      → nth (spots_from f ps) i ≡ Some s → s.block.exit ≡ Call r c ts back → P (point_of g live s r back))
      → AllByRecursion P (spots_from f (spelled_procs g live f b ps))
  all_spots f b [] doors plain point = tt
  all_spots f b (p ∷ ps) doors plain point =
      let old = spots_in f p.vars p.blocks in
      let z : f + 0 ≡ f = omega arith in
      let n = count f p.vars p.blocks in (
        grind arith,
        all_both P (spots_in f (suc p.vars) (spelled_blocks g live f p.vars b p.blocks)) (spots_from (suc f)
            (spelled_procs g live (suc f) (b + length p.blocks) ps)) (all_blocks f p.vars b p.blocks (λ i s e.
            plain i s (nth_append_left old (spots_from (suc f) ps) i (bound old i s e) ∙ e)) (λ i s r c ts
            back e is. point i s r c ts back (nth_append_left old (spots_from (suc f) ps) i (bound old i s e)
            ∙ e) is)) (all_spots (suc f) (b + length p.blocks) ps (λ e lt. let m : f + suc e ≡ suc f + e =
            omega arith in grind arith) (λ i s e. let m : b + (length p.blocks + i) ≡ (b + length p.blocks) +
            i = omega arith in grind (arith, nth_right)) (λ i s r c ts back e is. point (length p.blocks + i)
            s r c ts back (grind (arith, nth_right)) is)),
      )
    where
      count : (home vars : ℕ) (xs : List Block) → length (spots_in home vars xs) ≡ length xs
      count home vars [] = refl
      count home vars (x ∷ xs) = ap suc (count home vars xs)

      bound : {A : Type 0} (xs : List A) (k : ℕ) (x : A) → nth xs k ≡ Some x → k < length xs
      bound (y ∷ xs) (suc k) x e = omega (arith, bound xs k x e)
      bound xs k x e = grind arith

-- the return points of a procedure's calls are return points
pub landing_from : (f b k : ℕ) (ss : List Spot) (d : ℕ) → In d (landings_from f b k ss)
    → (i : ℕ) × (s : Spot) × (nth ss i ≡ Some s) × (callee_is s.block.exit f ≡ true)
    × (d ≡ suc ((b + i) + (k + count_of is_call (take i ss)) + suc s.home))
landing_from f b k [] d h = absurd h
landing_from f b k (x ∷ ss) d h = by_test (callee_is x.block.exit f) refl h
    (λ j. landing_from f (suc b) ((if is_call x then 1 else 0) + k) ss d j)
  where
    further : ((i : ℕ) × (s : Spot) × (nth ss i ≡ Some s) × (callee_is s.block.exit f ≡ true)
        × (d ≡ suc ((suc b + i) + (((if is_call x then 1 else 0) + k) + count_of is_call (take i ss)) + suc
        s.home)))
        → (i : ℕ) × (s : Spot) × (nth (x ∷ ss) i ≡ Some s) × (callee_is s.block.exit f ≡ true)
        × (d ≡ suc ((b + i) + (k + count_of is_call (take i (x ∷ ss))) + suc s.home))
    further r = (suc r.0, r.1, r.2, r.3, omega arith)

    by_test : (t : Bool) → callee_is x.block.exit f ≡ t
        → In d (if t then suc (b + k + suc x.home) ∷ landings_from f (suc b)
        ((if is_call x then 1 else 0) + k) ss else landings_from f (suc b) ((if is_call x then 1 else 0) + k)
        ss)
        → (In d (landings_from f (suc b) ((if is_call x then 1 else 0) + k) ss)
        → (i : ℕ) × (s : Spot) × (nth ss i ≡ Some s) × (callee_is s.block.exit f ≡ true)
        × (d ≡ suc ((suc b + i) + (((if is_call x then 1 else 0) + k) + count_of is_call (take i ss))
        + suc s.home)))
        → (i : ℕ) × (s : Spot) × (nth (x ∷ ss) i ≡ Some s) × (callee_is s.block.exit f ≡ true)
        × (d ≡ suc ((b + i) + (k + count_of is_call (take i (x ∷ ss))) + suc s.home))
    by_test true e (inl same) rest = (0, x, refl, e, omega arith)
    by_test true e (inr i) rest = further (rest i)
    by_test false e i rest = further (rest i)
