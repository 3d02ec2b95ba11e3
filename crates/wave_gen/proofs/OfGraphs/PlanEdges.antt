-- Where the edges of a graph's plans lead.
use Rattle.std.proofs.Common.{ℕ, zero, suc, ◌≡◌, ◌<◌, ◌≤◌, ◌⊎◌, Bool, true, false, List, [], ◌∷◌, length, map}
use Rattle.std.proofs.Common.{refl, sym, ap, ◌∙◌, subst, inl, inr, arith}
use Rattle.std.proofs.lemmas.Bool.{both_ways}
use Rattle.std.specs.List.{AllByRecursion}
use Rattle.cfg_core.specs.Graph as graph
use Rattle.cfg_core.specs.Graph.{Graph, Spot, Term, spots, spot_at, block_at, no_spot}
use Rattle.cfg_core.specs.Rules as rules
use Rattle.cfg_core.specs.Rules.{ExitIn, Leads}
use Rattle.cfg_core.specs.Edges.{Edge}
use Rattle.wave_cut.specs.Cut.{Cut, is_first}
use Rattle.wave_gen.specs.Plans.{Plan, plan_at, pulse}
use Rattle.wave_gen.proofs.Planning.Planned.{Apart, AllIn, Inner, Outer, PadsFit, EdgesAre, ValuesApart}
use Rattle.wave_gen.specs.Gen.{gen_term}
use Rattle.wave_gen.specs.Drawn.{gen_terms, exit_next}
use Rattle.wave_gen.specs.Listing.{gen_exit, entries_of, landings_of, in_some, has_pads, turned, listing}
use Rattle.wave_gen.specs.Listing.{place_of, index_of, plans_of}
use Rattle.wave_gen.specs.Fitting.{Fits}
use Rattle.wave_gen.proofs.Walking.Tied.{all_at}
use Rattle.wave_gen.proofs.OfItems.ReadTerms.{next_after}
use Rattle.wave_gen.proofs.OfItems.ReadExits.{many_named, many_next, many_apart, many_below}
use Rattle.wave_gen.proofs.OfGraphs.Chains.{listed_later}
use Rattle.wave_gen.proofs.OfGraphs.Turned.{waving, turned_same}
use Rattle.wave_gen.proofs.OfGraphs.Entries.{in_among, from_rules, to_rules}
use Rattle.wave_gen.proofs.OfGraphs.FitArms.{arm_inside}
use Rattle.wave_gen.proofs.OfGraphs.PlanFacts.{planned, at_place, place_there, numbers, live_of_entry}
use Rattle.ws_words.proofs.Bools.{or_right}
use Rattle.ws_words.specs.Items.{nth, or_else, In, Distinct}

some_in : (f : graph.Exit → List ℕ) (ss : List Spot) (b c : ℕ) → b < length ss
    → In c (f (or_else (nth ss b) no_spot).block.exit) → in_some f ss c ≡ true
some_in f (s ∷ ss) (suc b) c l h = grind (arith, or_right, some_in f ss b c (omega (arith, l)) h)
some_in f ss b c l h = grind (arith, in_among)

suc_in : (x : ℕ) (xs : List ℕ) → In x xs → In (suc x) (map suc xs)
suc_in x [] h = h
suc_in x (y ∷ ys) (inl e) = inl (ap suc e)
suc_in x (y ∷ ys) (inr h) = inr (suc_in x ys h)

in_suc : (x : ℕ) (xs : List ℕ) → In x (map suc xs) → (y : ℕ) × (x ≡ suc y) × In y xs
in_suc x [] h = absurd h
in_suc x (y ∷ ys) (inl e) = (y, e, inl refl)
in_suc x (y ∷ ys) (inr h) = let r = in_suc x ys h in (r.0, r.1, inr r.2)

suc_apart : (xs : List ℕ) → Distinct xs → Apart (map suc xs)
suc_apart [] h = tt
suc_apart (x ∷ xs) h = (
  (λ i. (let r = in_suc (suc x) xs i in let e : suc x ≡ suc r.0 = r.1 in
      let f : r.0 ≡ x = omega (arith, e) in h.0 (to_rules x xs (subst (λ z. In z xs) f r.2)))),
  suc_apart xs h.1,
)

pub pads_apart : (xs : List ℕ) → Distinct xs → Apart (pulse ∷ map suc xs)
pads_apart xs h = grind (arith, in_suc, suc_apart)

map_length : (xs : List ℕ) → length (map suc xs) ≡ length xs
map_length [] = refl
map_length (x ∷ xs) = ap suc (map_length xs)

many_length : (ts : List Term) (k : ℕ) → length (gen_terms k ts).names ≡ length ts
many_length [] k = refl
many_length (t ∷ ts) k = ap suc (many_length ts (suc (gen_term k t).next))

places_length : (f : ℕ → ℕ) (xs : List ℕ) → length (map f xs) ≡ length xs
places_length f [] = refl
places_length f (x ∷ xs) = ap suc (places_length f xs)

-- values have names of their own below the selector's
pub values_apart : (place : ℕ → ℕ) (exit : graph.Exit) (k : ℕ) → 1 ≤ k
    → ValuesApart (exit_next k exit) (gen_exit place k exit).exit
values_apart place exit k u = grind (arith, next_after, many_next, many_named, many_apart, many_below)

module _ (g : Graph) (live : ℕ → ℕ → Bool) (cut : Cut) (fit : Fits g live cut) where
  abbrev ps : List Plan
  ps = plans_of g live cut

  pub outer : (c : ℕ) → c < length (spots g) → is_first cut c ≡ true → Outer ps (place_of g cut c)
  outer c l e = grind (arith, place_there, at_place)

  pub inner : (b c : ℕ) → b < length (spots g) → c < length (spots g) → Edge g b c → is_first cut c ≡ false
      → Inner ps (place_of g cut b) (place_of g cut c)
  inner b c l u d e =
      let i = fit.cuts.inside b c u (d, λ f. both_ways (is_first cut c) e f) in
      let v : index_of (listing g cut) b < index_of (listing g cut) c =
      listed_later (length (spots g)) (turned g cut) (is_first cut) (length cut.heads)
      (waving g live cut fit) b c l u (turned_same g live cut fit b c i.1) i.0 in
      record {
        later = omega (arith, v);
        there = place_there g live cut fit c u;
        not_first = rw (at_place g live cut fit c u) e;
        wave = rw (at_place g live cut fit c u, at_place g live cut fit b l)
            (sym (turned_same g live cut fit b c i.1));
      }

  pub pads_are : (b l : ℕ) → b < length (spots g) → In l (landings_of (block_at g b).exit)
      → has_pads g l ≡ true
  unfolding spot_at
  pads_are b l u i = grind (arith, or_right, some_in, from_rules)

  pub lands_first : (b l : ℕ) → l < length (spots g) → (t : Term) (ts : List Term) (ls : List ℕ)
      → (block_at g b).exit ≡ graph.Send t ts ls → In l ls → is_first cut l ≡ true
  lands_first b l u t ts ls e i = (fit.cuts.rule l u).1 (inl (inr (inr (b, rw e i))))

  -- what a block needs where a Send lands is among its pads
  pub pads_filled : (b l x : ℕ) → l < length (spots g) → In l (landings_of (block_at g b).exit)
      → In x (entries_of g live l) → In x (pulse ∷ map suc (block_at g l).named)
  pads_filled b l zero u i h = inl refl
  pads_filled b l (suc y) u i h =
      inr (suc_in y (block_at g l).named (from_rules y (block_at g l).named
      (fit.brought b l y i (live_of_entry g live cut fit l y u h).1)))

  lands : (b : ℕ) (t : Term) (ts : List Term) (all : List ℕ) → b < length (spots g)
      → (block_at g b).exit ≡ graph.Send t ts all → (k : ℕ) (ls : List ℕ) → ((l : ℕ) → In l ls → In l all) →
      AllByRecursion (λ l. l < length (spots g)) ls
      → AllByRecursion (λ l. length (block_at g l).named ≡ length ts) ls →
      AllIn (map (place_of g cut) ls) (λ c. Outer ps c × PadsFit ps (pulse ∷ (gen_terms k ts).names) c)
  lands b t ts all u e k [] sub h f = tt
  lands b t ts all u e k (l ∷ ls) sub h f =
      let i : In l (landings_of (block_at g b).exit) = rw e (sub l (inl refl)) in
      let fl : is_first cut l ≡ true = lands_first b l h.0 t ts all e (sub l (inl refl)) in
      let p : (planned g live cut fit l).pads ≡ pulse ∷ map suc (block_at g l).named =
      rw (pads_are b l u i) refl in
      let q : (plan_at ps (place_of g cut l)).pads ≡ pulse ∷ map suc (block_at g l).named =
      ap (λ (z : Plan). z.pads) (at_place g live cut fit l h.0) ∙ p in
      let n : (planned g live cut fit l).entries ≡ entries_of g live l = rw fl refl in
      let m : (plan_at ps (place_of g cut l)).entries ≡ entries_of g live l =
      ap (λ (z : Plan). z.entries) (at_place g live cut fit l h.0) ∙ n in (
        (
          outer l h.0 fl,
          record {
            apart = rw q (pads_apart (block_at g l).named (numbers g live cut fit l h.0).once);
            as_many = ap length q ∙ ap suc (map_length (block_at g l).named ∙ f.0 ∙ sym (many_length ts k));
            filled = λ x j. subst (λ z. In x z) (sym q) (pads_filled b l x h.0 i (rw m at j));
          },
        ),
        lands b t ts all u e k ls (λ c j. sub c (inr j)) h.1 f.1,
      )

  pub edges_are : (b k : ℕ) → b < length (spots g) → EdgesAre ps (place_of g cut b)
      (gen_exit (place_of g cut) k (block_at g b).exit).exit
  unfolding spot_at
  edges_are b k l = go (block_at g b).exit refl (numbers g live cut fit b l).exit
      (all_at (λ s. rules.Lands g s.block.exit) (spots g) no_spot b fit.graph.landings l)
    where
      by_first : (c : ℕ) → c < length (spots g) → Edge g b c → (v : Bool) → is_first cut c ≡ v
          → Inner ps (place_of g cut b) (place_of g cut c) ⊎ Outer ps (place_of g cut c)
      by_first c u d true e = inr (outer c u e)
      by_first c u d false e = inl (inner b c l u d e)

      go : (exit : graph.Exit) → (block_at g b).exit ≡ exit → ExitIn g (spot_at g b).home (spot_at g b).vars
          exit → rules.Lands g exit → EdgesAre ps (place_of g cut b) (gen_exit (place_of g cut) k exit).exit
      go (graph.Goto c) e h n = by_first c h.0 (subst (λ z. Leads z c) (sym e) refl) (is_first cut c) refl
      go (graph.Branch t a c) e h n = (
        inner b a l h.1.0 (subst (λ z. Leads z a) (sym e) (inl refl))
            (arm_inside g live cut fit b t a c a l e (inl refl) h.1.0 h.1.1),
        inner b c l h.2.0 (subst (λ z. Leads z c) (sym e) (inr refl))
            (arm_inside g live cut fit b t a c c l e (inr refl) h.2.0 h.2.1),
      )
      go (graph.Call r f ts back) e h n = tt
      go (graph.Return t) e h n = tt
      go (graph.Send t ts ls) e h n =
          let m : length (map (place_of g cut) ls) ≡ length ls = places_length (place_of g cut) ls in
          let n0 : 1 ≤ length ls = n.0 in
          (omega (arith, m, n0), lands b t ts ls l e (gen_term k t).next ls (λ c i. i) h.2 n.1)
      go graph.Stop e h n = tt
