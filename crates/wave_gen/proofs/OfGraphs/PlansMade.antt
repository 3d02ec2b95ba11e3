-- The plans of a graph make a draft, and are drawn from it.
use Rattle.std.proofs.Common.{◌++◌, ℕ, zero, suc, ◌≡◌, ◌<◌, ◌≤◌, ◌||◌, Bool, true, false, cond, List, [], ◌∷◌}
use Rattle.std.proofs.Common.{length, map, Some, refl, sym, ap, ◌∙◌, subst, inl, inr, arith, eq-eqb}
use Rattle.std.proofs.lemmas.Bool.{both_ways}
use Rattle.std.specs.List.{AllByRecursion}
use Rattle.ws_isa.specs.Image.{Array, cells_of}
use Rattle.cfg_core.specs.Graph as graph
use Rattle.cfg_core.specs.Graph.{Graph, Term, spots, spot_at, block_at}
use Rattle.cfg_core.specs.Rules.{ExitIn, calls}
use Rattle.cfg_core.specs.Walk as walks
use Rattle.wave_cut.specs.Cut.{Cut, is_first}
use Rattle.wave_gen.specs.Plans.{Plan, plan_at, pulse}
use Rattle.wave_gen.proofs.Planning.Planned.{Reads, Needs, Apart, PlanIs, PlansAre, EdgesAre}
use Rattle.wave_gen.specs.Gen.{gen_ops}
use Rattle.wave_gen.specs.Shared.{none_known}
use Rattle.wave_gen.proofs.OfItems.Runs.{run_items}
use Rattle.wave_gen.proofs.OfItems.Sharing.{shared_are, shared_run}
use Rattle.wave_gen.proofs.OfItems.Fresh.{block_once}
use Rattle.wave_gen.specs.Drawn.{exit_next}
use Rattle.wave_gen.proofs.Planning.DrawnPlans.{Leads, here, Keeps, LandsAll, ExitDrawn, BlockDrawn}
use Rattle.wave_gen.proofs.Planning.IsDrawn.{IsDrawn}
use Rattle.wave_gen.specs.Listing.{gen_exit, entries_of, landings_of, in_some, turned, listing, place_of}
use Rattle.wave_gen.specs.Listing.{index_of, width_of, plans_of, needed, nothing_zeroed}
use Rattle.wave_gen.specs.Words.{live_from}
use Rattle.wave_gen.specs.Fitting.{Fits}
use Rattle.wave_gen.proofs.OfItems.ItemKinds.{items_append, ops_items, exit_items, exit_source}
use Rattle.wave_gen.proofs.OfGraphs.Chains.{Step, listed_step, listed_first}
use Rattle.wave_gen.proofs.OfGraphs.Turned.{waving, start_there, start_first, start_wave}
use Rattle.wave_gen.proofs.OfGraphs.Entries.{live_in, live_apart, live_none, most_is}
use Rattle.wave_gen.proofs.OfItems.Nexts.{ops_next, next_of_exit}
use Rattle.wave_gen.proofs.OfGraphs.PlanFacts.{planned, plan_there, as_many, at, at_place, place_there}
use Rattle.wave_gen.proofs.OfGraphs.PlanFacts.{place_is, block_there, to_entry, of_entry, live_of_entry}
use Rattle.wave_gen.proofs.OfGraphs.PlanFacts.{plan_reads, numbers}
use Rattle.wave_gen.proofs.OfGraphs.PlanEdges.{edges_are, values_apart, pads_are}
use Rattle.ws_words.specs.Items.{nth, In}
use Rattle.cfg_core.specs.Weights.{first_block}
use Rattle.ws_words.proofs.Places.{nth_there}

vars_below : (g : Graph) (b : ℕ) → b < length (spots g) → (spot_at g b).vars < width_of g
unfolding spot_at
vars_below g b l = grind (arith, most_is)

entries_apart : (live : ℕ → Bool) (n : ℕ) (v : Bool) → Apart (cond v (pulse ∷ live_from live 0 n) [])
entries_apart live n v = grind (arith, live_in, live_apart)

module _ (g : Graph) (live : ℕ → ℕ → Bool) (cut : Cut) (fit : Fits g live cut) where
  abbrev ps : List Plan
  ps = plans_of g live cut

  abbrev P : ℕ → Plan
  P b = planned g live cut fit b

  abbrev Need : ℕ → ℕ → Type 0
  Need m x = needed g live cut m x ≡ true

  plan_is : (i b : ℕ) → nth (listing g cut) i ≡ Some b → PlanIs ps (width_of g) Need (suc i)
  plan_is i b e =
      let l : b < length (spots g) = block_there g live cut fit i b e in
      let q : plan_at ps (suc i) ≡ P b = plan_there g live cut fit i b e in
      let d = gen_ops (width_of g) (block_at g b).ops in
      let w : width_of g ≤ d.next = ops_next (block_at g b).ops (width_of g) in
      let z : d.next ≤ exit_next d.next (block_at g b).exit = next_of_exit (block_at g b).exit d.next in
      let m : place_of g cut b ≡ suc i = place_is g live cut fit i b e in
      record {
        items = rw q
            (shared_are none_known (d.items ++ (gen_exit (place_of g cut) d.next (block_at g b).exit).items)
            (items_append d.items _ (ops_items (block_at g b).ops (width_of g))
            (exit_items (place_of g cut) (block_at g b).exit d.next)));
        source = rw q (exit_source (place_of g cut) (block_at g b).exit d.next);
        edges = rw q (subst (λ n. EdgesAre ps n (P b).exit) m (edges_are g live cut fit b d.next l));
        live = λ x r. of_entry g live cut fit i b x e
            (plan_reads g live cut fit b x l (subst (λ (p : Plan). Reads p.items (Needs Need p.test p.exit) x)
            q r));
        pulse_live = of_entry g live cut fit i b pulse e (inl refl);
        few = λ x h. few b x l (to_entry g live cut fit i b x e h);
        test = rw q (omega (arith, w, z));
        entries = λ f x h. (let f' : is_first cut b ≡ true = ap (λ (p : Plan). p.first) (sym q) ∙ f in
            rw q (subst (λ v. In x (cond v (entries_of g live b) [])) (sym f')
            (to_entry g live cut fit i b x e h)));
        entries_live = λ f x h. (let f' : is_first cut b ≡ true = ap (λ (p : Plan). p.first) (sym q) ∙ f in
            of_entry g live cut fit i b x e (subst (λ v. In x (cond v (entries_of g live b) [])) f'
            (subst (λ (p : Plan). In x p.entries) q h)));
        entries_apart = rw q (entries_apart (live b) (spot_at g b).vars (is_first cut b));
        values = rw q (values_apart (place_of g cut) (block_at g b).exit d.next (omega (arith, w)));
      }
    where
      few : (c x : ℕ) → c < length (spots g) → In x (entries_of g live c) → x < width_of g
      few c zero u h = omega arith
      few c (suc y) u h = let a : y < (spot_at g c).vars = (live_of_entry g live cut fit c y u h).0 in
          let v : (spot_at g c).vars < width_of g = vars_below g c u in omega (arith, a, v)

  each : (n : ℕ) → (1 ≤ n) × (n ≤ length ps) → PlanIs ps (width_of g) Need n
  each zero h = absurd (let l : 1 ≤ 0 = h.0 in omega (arith, l))
  each (suc i) h =
      let u : suc i ≤ length ps = h.1 in let e : length ps ≡ length (listing g cut) =
      as_many g live cut fit in
      let r = nth_there (listing g cut) i (omega (arith, u, e)) in plan_is i r.0 r.1

  start_place : index_of (listing g cut) (first_block g) ≡ 0
  start_place = listed_first (length (spots g)) (turned g cut) (is_first cut) (length cut.heads)
      (waving g live cut fit) (first_block g) (start_there g fit.graph) (start_wave g live cut fit)
      (start_first g live cut fit)

  first_plan : plan_at ps 1 ≡ P (first_block g)
  first_plan = plan_there g live cut fit 0 (first_block g) (ap (nth (listing g cut)) (sym start_place)
      ∙ at g live cut fit (first_block g) (start_there g fit.graph))

  step : (b : ℕ) → suc (suc b) ≤ length ps → (a : ℕ) × (c : ℕ) × (plan_at ps (suc b) ≡ P a)
      × (plan_at ps (suc (suc b)) ≡ P c) × Step (turned g cut) (is_first cut) (turned g cut a) c
  step b l =
      let e : length ps ≡ length (listing g cut) = as_many g live cut fit in
      let r = nth_there (listing g cut) b (omega (arith, l, e)) in
      let s = nth_there (listing g cut) (suc b) (omega (arith, l, e)) in (
        r.0,
        s.0,
        plan_there g live cut fit b r.0 r.1,
        plan_there g live cut fit (suc b) s.0 s.1,
        listed_step (length (spots g)) (turned g cut) (is_first cut) (length cut.heads)
            (waving g live cut fit) b r.0 s.0 r.1 s.1,
      )

  pub plans_are : PlansAre ps (width_of g) Need
  plans_are = record {
    each = each;
    some = (let e : length ps ≡ length (listing g cut) = as_many g live cut fit in
        let l : place_of g cut (first_block g) ≤ length ps = there in omega (arith, l));
    first = rw first_plan (start_first g live cut fit);
    first_wave = rw first_plan (start_wave g live cut fit);
    first_entries = ap (λ (p : Plan). p.entries) first_plan
        ∙ (ap (λ v. cond v (entries_of g live (first_block g)) []) (start_first g live cut fit)
        ∙ ap (λ (r : List ℕ). pulse ∷ r) (live_none (live (first_block g)) 0 (spot_at g (first_block g)).vars
        (λ y u e. fit.start y ((fit.sets (first_block g) y (start_there g fit.graph) (omega (arith, u))).0
        e))));
    first_pads = ap (λ (p : Plan). nth p.pads 0) first_plan
        ∙ ap (λ v. nth (cond (v || in_some landings_of (spots g) (first_block g))
        (pulse ∷ map suc (block_at g (first_block g)).named) []) 0)
        (eq-eqb (first_block g) (first_block g) refl);
    rises = λ b l f. rises b (step b l) f;
    stays = λ b l f. stays b (step b l) f;
  }
    where
      there : place_of g cut (first_block g) ≤ length ps
      there = place_there g live cut fit (first_block g) (start_there g fit.graph)

      rises : (b : ℕ) → (a : ℕ) × (c : ℕ) × (plan_at ps (suc b) ≡ P a) × (plan_at ps (suc (suc b)) ≡ P c)
          × Step (turned g cut) (is_first cut) (turned g cut a) c →
          (plan_at ps (suc (suc b))).first ≡ true → (plan_at ps (suc (suc b))).wave
          ≡ suc (plan_at ps (suc b)).wave
      rises b h f = grind (arith, both_ways)

      stays : (b : ℕ) → (a : ℕ) × (c : ℕ) × (plan_at ps (suc b) ≡ P a) × (plan_at ps (suc (suc b)) ≡ P c)
          × Step (turned g cut) (is_first cut) (turned g cut a) c →
          (plan_at ps (suc (suc b))).first ≡ false → (plan_at ps (suc (suc b))).wave
          ≡ (plan_at ps (suc b)).wave
      stays b h f = grind (arith, both_ways)

  abbrev leads : (c : ℕ) → Leads ps (place_of g cut) nothing_zeroed (place_of g cut c) c
  leads c = here refl

  keeps : (c : ℕ) → Keeps ps (place_of g cut) nothing_zeroed (place_of g cut c) c
  keeps c = record { leads = leads c; none = refl }

  lands_all : (b : ℕ) (t : Term) (ts : List Term) (all ls : List ℕ) → b < length (spots g)
      → (block_at g b).exit ≡ graph.Send t ts all → ((l : ℕ) → In l ls → In l all)
      → AllByRecursion (λ l. l < length (spots g)) ls →
      LandsAll g ps (place_of g cut) nothing_zeroed (map (place_of g cut) ls) ls
  lands_all b t ts all [] u e sub h = tt
  lands_all b t ts all (l ∷ ls) u e sub h =
      let p : (P l).pads ≡ pulse ∷ map suc (block_at g l).named =
      rw (pads_are g live cut fit b l u (rw e (sub l (inl refl)))) refl in (
        record {
          leads = leads l;
          pads = ap (λ (z : Plan). z.pads) (at_place g live cut fit l h.0) ∙ p;
          apart = λ x i j. i;
        },
        lands_all b t ts all ls u e (λ c j. sub c (inr j)) h.1,
      )

  exit_drawn : (b k : ℕ) → b < length (spots g) → ExitDrawn g ps (place_of g cut) nothing_zeroed k
      (block_at g b).exit (gen_exit (place_of g cut) k (block_at g b).exit).items
      (gen_exit (place_of g cut) k (block_at g b).exit).exit
  exit_drawn b k l = go (block_at g b).exit refl (fit.no_call b) (numbers g live cut fit b l).exit
    where
      go : (exit : graph.Exit) → (block_at g b).exit ≡ exit → calls (block_at g b).exit ≡ false
          → ExitIn g (spot_at g b).home (spot_at g b).vars exit → ExitDrawn g ps (place_of g cut)
          nothing_zeroed k exit (gen_exit (place_of g cut) k exit).items
          (gen_exit (place_of g cut) k exit).exit
      go exit e n h = grind (arith, keeps, both_ways, lands_all)

  block_drawn : (b : ℕ) → b < length (spots g) → BlockDrawn g ps (width_of g) (place_of g cut) nothing_zeroed
      b
  block_drawn b l =
      let d = gen_ops (width_of g) (block_at g b).ops in
      let q : plan_at ps (place_of g cut b) ≡ P b = at_place g live cut fit b l in
      record {
        first = (gen_exit (place_of g cut) d.next (block_at g b).exit).items;
        items = λ s. ap (λ (p : Plan). run_items p.items s) q ∙ shared_run
            (d.items ++ (gen_exit (place_of g cut) d.next (block_at g b).exit).items)
            (block_once g (spot_at g b).vars (width_of g) (vars_below g b l) (place_of g cut)
            (block_at g b).ops (block_at g b).exit (numbers g live cut fit b l).ops) s;
        exit = rw q (exit_drawn b d.next l);
        wide = vars_below g b l;
        test = rw q (omega arith);
      }

  pub plans_drawn : (arrays : List Array) → cells_of arrays ≡ walks.cells_of g.arrays
      → IsDrawn g arrays (width_of g) ps (needed g live cut) (place_of g cut) nothing_zeroed
  plans_drawn arrays e = grind (arith, plans_are, block_drawn, here, start_place)
