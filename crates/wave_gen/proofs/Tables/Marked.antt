-- What is said of each block by all exits.
use Rattle.std.proofs.Common.{ℕ, zero, suc, ◌-◌, ◌≡◌, ◌<◌, ◌≤◌, ◌||◌, cond, ltb, Bool, List, [], ◌∷◌, length}
use Rattle.std.proofs.Common.{drop, refl, sym, ap, ◌∙◌, arith}
use Rattle.std.proofs.lemmas.Bool.{lt-ltb, le-ltb}
use Rattle.cfg_core.specs.Graph as graph
use Rattle.cfg_core.specs.Graph.{Graph, Spot, no_spot, spots, spot_at, block_at}
use Rattle.wave_gen.specs.Plans.{is_among}
use Rattle.wave_gen.specs.Listing.{in_some, most_vars}
use Rattle.ws_words.proofs.Bools.{or_comm, or_false}
use Rattle.ws_words.specs.Items.{nth, or_else}

pub spot_drop : (g : Graph) (i : ℕ) → i < length (spots g) → drop i (spots g) ≡ spot_at g i ∷ drop (suc i)
    (spots g)
unfolding spot_at
spot_drop g i l = at (spots g) i l
  where
    at : (xs : List Spot) (i : ℕ) → i < length xs → drop i xs ≡ or_else (nth xs i) no_spot ∷ drop (suc i) xs
    at [] i l = absurd (omega (arith, l))
    at (x ∷ xs) zero l = refl
    at (x ∷ xs) (suc i) l = at xs i (omega (arith, l))

-- one block more, from the last to the first
pub some_next : (f : graph.Exit → List ℕ) (g : Graph) (j b : ℕ) (old new : Bool) → 0 < j
    → j ≤ length (spots g) → old ≡ in_some f (drop j (spots g)) b
    → new ≡ (old || is_among b (f (block_at g (j - 1)).exit)) → new ≡ in_some f (drop (j - 1) (spots g)) b
some_next f g j b old new o l h e = grind (arith, or_comm, spot_drop)

pub none_marked : (f : graph.Exit → List ℕ) (s : Spot) (b : ℕ) (v : Bool) → f graph.Stop ≡ [] → s ≡ no_spot
    → v ≡ (v || is_among b (f s.block.exit))
unfolding no_spot
none_marked f s b v e h = grind (arith, or_false)

pub none_vars : (s : Spot) → s ≡ no_spot → 0 ≡ s.vars
unfolding no_spot
none_vars s h = sym (ap (λ (x : Spot). x.vars) h)

pub vars_next : (g : Graph) (j most vars : ℕ) → 0 < j → j ≤ length (spots g)
    → most ≡ most_vars (drop j (spots g)) → vars ≡ (spot_at g (j - 1)).vars
    → cond (ltb vars most) most vars ≡ most_vars (drop (j - 1) (spots g))
vars_next g j most vars o l h e = grind (arith, spot_drop)

pub vars_more : (g : Graph) (j most vars : ℕ) → 0 < j → j ≤ length (spots g)
    → most ≡ most_vars (drop j (spots g)) → vars ≡ (spot_at g (j - 1)).vars → most ≤ vars
    → vars ≡ most_vars (drop (j - 1) (spots g))
vars_more g j most vars o l h e m = sym (ap (λ v. cond v most vars) (le-ltb vars most m))
    ∙ vars_next g j most vars o l h e

pub vars_less : (g : Graph) (j most vars : ℕ) → 0 < j → j ≤ length (spots g)
    → most ≡ most_vars (drop j (spots g)) → vars ≡ (spot_at g (j - 1)).vars → vars < most
    → most ≡ most_vars (drop (j - 1) (spots g))
vars_less g j most vars o l h e m = sym (ap (λ v. cond v most vars) (lt-ltb vars most m))
    ∙ vars_next g j most vars o l h e
