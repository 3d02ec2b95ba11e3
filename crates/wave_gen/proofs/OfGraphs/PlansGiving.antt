-- The plans of a graph give what they make, and have pads only where a wave begins.
use Rattle.std.proofs.Common.{◌++◌, ℕ, zero, suc, ◌≡◌, ◌<◌, ◌≤◌, ◌||◌, Bool, true, false, cond, List, [], ◌∷◌}
use Rattle.std.proofs.Common.{length, map, refl, sym, ap, ◌∙◌, arith, ne_eqb}
use Rattle.std.proofs.lemmas.Bool.{both_ways, cases_eq}
use Rattle.cfg_core.specs.Graph as graph
use Rattle.cfg_core.specs.Graph.{Graph, Spot, spots, spot_at, block_at, no_spot}
use Rattle.wave_cut.specs.Cut.{Cut, Returns, is_first}
use Rattle.wave_gen.specs.Plans.{Plan, plan_at, pulse, is_among}
use Rattle.wave_gen.specs.Gen.{gen_ops}
use Rattle.wave_gen.specs.Shared.{none_known}
use Rattle.wave_gen.proofs.OfItems.Sharing.{shared_give}
use Rattle.wave_gen.proofs.Planning.More.{PlansGive}
use Rattle.wave_gen.specs.Listing.{gen_exit, landings_of, in_some, has_pads, listing, place_of, width_of}
use Rattle.wave_gen.specs.Listing.{plans_of}
use Rattle.wave_gen.specs.Fitting.{Fits}
use Rattle.wave_gen.proofs.OfItems.ItemsGiving.{gives_append, ops_give_all, exit_gives_all, exit_source_gives}
use Rattle.wave_gen.proofs.OfGraphs.Turned.{start_first}
use Rattle.wave_gen.proofs.OfGraphs.Entries.{among_in, to_rules}
use Rattle.wave_gen.proofs.OfGraphs.PlanFacts.{planned, plan_there, as_many, block_there}
use Rattle.ws_words.specs.Items.{nth, or_else, In}
use Rattle.ws_words.proofs.Places.{nth_there}

-- a block in the list of whose exit this one is
pub some_of : (f : graph.Exit → List ℕ) (ss : List Spot) (c : ℕ) → in_some f ss c ≡ true
    → (b : ℕ) × In c (f (or_else (nth ss b) no_spot).block.exit)
some_of f [] c e = absurd (both_ways false refl e)
some_of f (s ∷ ss) c e = go (is_among c (f s.block.exit)) refl (some_of f ss c) e
  where
    go : (v : Bool) → is_among c (f s.block.exit) ≡ v
        → (in_some f ss c ≡ true → (b : ℕ) × In c (f (or_else (nth ss b) no_spot).block.exit))
        → (v || in_some f ss c) ≡ true → (b : ℕ) × In c (f (or_else (nth (s ∷ ss) b) no_spot).block.exit)
    go true e ih h = (0, among_in c (f s.block.exit) e)
    go false e ih h = let r = ih h in (suc r.0, r.1)

returns : (exit : graph.Exit) (c : ℕ) → In c (landings_of exit) → Returns exit c
returns exit c h = grind (arith, to_rules)

module _ (g : Graph) (live : ℕ → ℕ → Bool) (cut : Cut) (fit : Fits g live cut) where
  pads_first : (c : ℕ) → c < length (spots g) → has_pads g c ≡ true → is_first cut c ≡ true
  unfolding spot_at
  pads_first c l h = grind (arith, cases_eq, start_first, some_of, ne_eqb, returns)

  no_pads : (c : ℕ) → c < length (spots g) → is_first cut c ≡ false → (v : Bool) → has_pads g c ≡ v
      → cond v (pulse ∷ map suc (block_at g c).named) [] ≡ []
  no_pads c l e v f = grind (arith, both_ways, pads_first)

  -- the block of which a plan is made
  pub found : (n : ℕ) → (1 ≤ n) × (n ≤ length (plans_of g live cut)) → (c : ℕ) × (c < length (spots g))
      × (plan_at (plans_of g live cut) n ≡ planned g live cut fit c)
  found zero h = absurd (let l : 1 ≤ 0 = h.0 in omega (arith, l))
  found (suc i) h =
      let u : suc i ≤ length (plans_of g live cut) = h.1 in let e : length (plans_of g live cut)
      ≡ length (listing g cut) = as_many g live cut fit in
      let r = nth_there (listing g cut) i (omega (arith, u, e)) in
      (r.0, block_there g live cut fit i r.0 r.1, plan_there g live cut fit i r.0 r.1)

  pub plans_give : PlansGive (plans_of g live cut)
  plans_give = record {
    items = λ n h. (let r = found n h in let d = gen_ops (width_of g) (block_at g r.0).ops in
        rw r.2 (shared_give none_known
        (d.items ++ (gen_exit (place_of g cut) d.next (block_at g r.0).exit).items)
        (gives_append d.items (gen_exit (place_of g cut) d.next (block_at g r.0).exit).items
        (ops_give_all (block_at g r.0).ops (width_of g))
        (exit_gives_all (place_of g cut) (block_at g r.0).exit d.next))));
    source = λ n h. (let r = found n h in let d = gen_ops (width_of g) (block_at g r.0).ops in
        rw r.2 (exit_source_gives (place_of g cut) (block_at g r.0).exit d.next));
    pads = λ n h f. (let r = found n h in
        ap (λ (p : Plan). p.pads) r.2 ∙ no_pads r.0 r.1 (ap (λ (p : Plan). p.first) (sym r.2) ∙ f)
        (has_pads g r.0) refl);
  }
