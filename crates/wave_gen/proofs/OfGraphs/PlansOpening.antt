-- The plans of a graph are open to notes.
use Rattle.std.proofs.Common.{ℕ, zero, suc, ◌≡◌, ◌<◌, ◌≤◌, ◌||◌, Bool, true, false, not, List, [], ◌∷◌}
use Rattle.std.proofs.Common.{length, map, Some, refl, sym, ap, ◌∙◌, subst, inl, inr, arith}
use Rattle.std.proofs.lemmas.Bool.{both_ways}
use Rattle.ws_isa.specs.declared.instr.Op.{Op}
use Rattle.ws_isa.specs.Image.{edges_of}
use Rattle.cfg_core.specs.Graph as graph
use Rattle.cfg_core.specs.Graph.{Graph, Spot, Term, spots, spot_at, block_at, no_spot}
use Rattle.cfg_core.specs.Rules as rules
use Rattle.cfg_core.specs.Rules.{ExitIn}
use Rattle.wave_cut.specs.Cut.{Cut, is_first}
use Rattle.wave_gen.specs.Plans.{HowLeft, Either, Plan, plan_at, exit_of}
use Rattle.wave_gen.specs.Gen.{gen_ops}
use Rattle.wave_gen.specs.Drawn.{gen_source}
use Rattle.wave_gen.proofs.Planning.Opening.{OnlyEdgeOf, ArmOf, PlansOpen}
use Rattle.wave_gen.specs.Listing.{gen_exit, arms_of, in_some, listing, index_of, place_of, width_of}
use Rattle.wave_gen.specs.Listing.{plans_of}
use Rattle.wave_gen.specs.Fitting.{Fits}
use Rattle.cfg_core.specs.Edges.{Edge}
use Rattle.wave_gen.proofs.OfGraphs.PlansGiving.{some_of}
use Rattle.wave_gen.proofs.OfGraphs.PlanFacts.{planned, at, at_place, place_is, place_there, numbers, as_many}
use Rattle.wave_gen.proofs.OfGraphs.PlanFacts.{block_there}
use Rattle.ws_words.specs.Items.{nth, or_else, In}
use Rattle.cfg_core.proofs.Every.{all_in}
use Rattle.ws_words.proofs.Options.{some_same}
use Rattle.ws_words.proofs.Places.{nth_there}

abbrev first_arm : HowLeft → ℕ
first_arm (Either op from c d) = c
first_arm _ = 0

abbrev second_arm : HowLeft → ℕ
second_arm (Either op from c d) = d
second_arm _ = 0

-- a block to which an edge of a plan's exit leads
in_map : (f : ℕ → ℕ) (xs : List ℕ) (i n : ℕ) → nth (map f xs) i ≡ Some n → (c : ℕ) × In c xs × (f c ≡ n)
in_map f (x ∷ xs) (suc i) n e = let r = in_map f xs i n e in (r.0, inr r.1, r.2)
in_map f xs i n e = grind (arith, some_same)

edge_to : (place : ℕ → ℕ) (exit : graph.Exit) (k i n : ℕ)
    → nth (edges_of (exit_of 0 (gen_exit place k exit).exit)) i ≡ Some n → (c : ℕ) × rules.Leads exit c
    × (place c ≡ n)
edge_to place exit k i n e = grind (arith, some_same, in_map)

there : (g : Graph) (home vars : ℕ) (exit : graph.Exit) (c : ℕ) → ExitIn g home vars exit → rules.Leads exit c
    → c < length (spots g)
there g home vars exit c h e = grind (arith, all_in)

module _ (g : Graph) (live : ℕ → ℕ → Bool) (cut : Cut) (fit : Fits g live cut) where
  abbrev ps : List Plan
  ps = plans_of g live cut

  -- an arm of a branch is entered by that branch alone
  alone : (p b c : ℕ) → In c (arms_of (block_at g b).exit) → Edge g p c → p ≡ b
  alone p b c i d = go (block_at g b).exit refl i
    where
      go : (exit : graph.Exit) → (block_at g b).exit ≡ exit → In c (arms_of exit) → p ≡ b
      go (graph.Branch t x y) e (inl q) = (fit.apart b t x y e).first p (subst (λ z. Edge g p z) q d)
      go (graph.Branch t x y) e (inr (inl q)) = (fit.apart b t x y e).second p (subst (λ z. Edge g p z) q d)
      go (graph.Branch t x y) e (inr (inr q)) = absurd q
      go (graph.Goto x) e q = absurd q
      go (graph.Call r f ts back) e q = absurd q
      go (graph.Return t) e q = absurd q
      go (graph.Send t ts ls) e q = absurd q
      go graph.Stop e q = absurd q

  -- two blocks have two places
  once : (b c : ℕ) → b < length (spots g) → c < length (spots g) → place_of g cut b ≡ place_of g cut c → b ≡ c
  once b c l u e = let f : index_of (listing g cut) b ≡ index_of (listing g cut) c = omega (arith, e) in
      some_same (sym (at g live cut fit b l) ∙ ap (nth (listing g cut)) f ∙ at g live cut fit c u)

  abbrev edge : ℕ → ℕ → ℕ → Type 0
  edge m i n = nth (edges_of (exit_of 0 (plan_at ps m).exit)) i ≡ Some n

  found : (m : ℕ) → (1 ≤ m) × (m ≤ length ps) → (x : ℕ) × (x < length (spots g)) × (place_of g cut x ≡ m)
  found zero h = absurd (let l : 1 ≤ 0 = h.0 in omega (arith, l))
  found (suc i) h =
      let u : suc i ≤ length ps = h.1 in let e : length ps ≡ length (listing g cut) =
      as_many g live cut fit in
      let r = nth_there (listing g cut) i (omega (arith, u, e)) in
      (r.0, block_there g live cut fit i r.0 r.1, place_is g live cut fit i r.0 r.1)

  -- an edge to an arm's plan comes from the branch
  comes : (x b c i : ℕ) → x < length (spots g) → b < length (spots g) → c < length (spots g)
      → In c (arms_of (block_at g b).exit) → edge (place_of g cut x) i (place_of g cut c) → x ≡ b
  comes x b c i xl l u k f =
      let d = (gen_ops (width_of g) (block_at g x).ops).next in
      let r = edge_to (place_of g cut) (block_at g x).exit d i (place_of g cut c)
      (subst (λ (p : Plan). nth (edges_of (exit_of 0 p.exit)) i ≡ Some (place_of g cut c))
      (at_place g live cut fit x xl) f) in
      let y : r.0 < length (spots g) = there g (spot_at g x).home (spot_at g x).vars (block_at g x).exit r.0
      (numbers g live cut fit x xl).exit r.1 in
      alone x b c k (subst (λ z. rules.Leads (block_at g x).exit z) (once r.0 c y u r.2) r.1)

  edges_at : (b : ℕ) (t : Term) (c d : ℕ) → b < length (spots g) → (block_at g b).exit ≡ graph.Branch t c d
      → edges_of (exit_of 0 (plan_at ps (place_of g cut b)).exit) ≡ place_of g cut c ∷ place_of g cut d ∷ []
  edges_at b t c d l e = grind (arith, at_place)

  first_of : (m n i : ℕ) → (m ≡ n → ⊥) → nth (m ∷ n ∷ []) i ≡ Some m → i ≡ 0
  first_of m n i d e = grind (arith, some_same)

  second_of : (m n i : ℕ) → (m ≡ n → ⊥) → nth (m ∷ n ∷ []) i ≡ Some n → i ≡ 1
  second_of m n i d e = grind (arith, some_same)

  -- each edge of a branch leads to a plan that no other edge enters
  pub arms_open : (b : ℕ) (t : Term) (c d : ℕ) → b < length (spots g) → (block_at g b).exit ≡ graph.Branch t c
      d → OnlyEdgeOf ps (place_of g cut b) 0 (place_of g cut c) × OnlyEdgeOf ps (place_of g cut b) 1
      (place_of g cut d)
  arms_open b t c d l e =
      let cn : c < length (spots g) = there g (spot_at g b).home (spot_at g b).vars (block_at g b).exit c
      (numbers g live cut fit b l).exit (subst (λ z. rules.Leads z c) (sym e) (inl refl)) in
      let dn : d < length (spots g) = there g (spot_at g b).home (spot_at g b).vars (block_at g b).exit d
      (numbers g live cut fit b l).exit (subst (λ z. rules.Leads z d) (sym e) (inr refl)) in
      let q : edges_of (exit_of 0 (plan_at ps (place_of g cut b)).exit) ≡ place_of g cut c ∷ place_of g cut d
      ∷ [] = edges_at b t c d l e in
      let apart : place_of g cut c ≡ place_of g cut d → ⊥ = λ f. (fit.apart b t c d e).differ
      (once c d cn dn f) in (
        record {
          is = ap (λ (r : List ℕ). nth r 0) q;
          only = λ m i h f. (let r = found m h in
              let f' : edge (place_of g cut r.0) i (place_of g cut c) =
              subst (λ z. edge z i (place_of g cut c)) (sym r.2) f in
              let x : r.0 ≡ b = comes r.0 b c i r.1 l cn (subst (λ z. In c (arms_of z)) (sym e) (inl refl))
              f' in (
                sym r.2 ∙ ap (place_of g cut) x,
                first_of (place_of g cut c) (place_of g cut d) i apart
                    (ap (λ (z : List ℕ). nth z i) (sym q)
                    ∙ subst (λ z. edge (place_of g cut z) i (place_of g cut c)) x f'),
              ));
        },
        record {
          is = ap (λ (r : List ℕ). nth r 1) q;
          only = λ m i h f. (let r = found m h in
              let f' : edge (place_of g cut r.0) i (place_of g cut d) =
              subst (λ z. edge z i (place_of g cut d)) (sym r.2) f in
              let x : r.0 ≡ b =
              comes r.0 b d i r.1 l dn (subst (λ z. In d (arms_of z)) (sym e) (inr (inl refl))) f' in (
                sym r.2 ∙ ap (place_of g cut) x,
                second_of (place_of g cut c) (place_of g cut d) i apart
                    (ap (λ (z : List ℕ). nth z i) (sym q)
                    ∙ subst (λ z. edge (place_of g cut z) i (place_of g cut d)) x f'),
              ));
        },
      )

  -- the block of which a plan is made
  made_of : (n : ℕ) (h : (1 ≤ n) × (n ≤ length ps)) → (x : ℕ) × (x < length (spots g))
      × (place_of g cut x ≡ n) × (plan_at ps n ≡ planned g live cut fit x)
  made_of n h = let r = found n h in grind (arith, at_place)

  either : (place : ℕ → ℕ) (k : ℕ) (exit : graph.Exit) (op : Op) (from : List ℕ) (c d : ℕ)
      → (gen_exit place k exit).exit ≡ Either op from c d → (t : Term) × (x : ℕ) × (y : ℕ)
      × (exit ≡ graph.Branch t x y) × (place x ≡ c) × (place y ≡ d)
  either place k exit op from c d e = grind (arith, first_arm, second_arm)

  arms : (b : ℕ) (op : Op) (from : List ℕ) (c d : ℕ) → (1 ≤ b) × (b ≤ length ps)
      → (plan_at ps b).exit ≡ Either op from c d → OnlyEdgeOf ps b 0 c × OnlyEdgeOf ps b 1 d
  arms b op from c d h e =
      let m = made_of b h in
      let r = either (place_of g cut) (gen_ops (width_of g) (block_at g m.0).ops).next (block_at g m.0).exit
      op from c d (ap (λ (p : Plan). p.exit) (sym m.3) ∙ e) in
      let o = arms_open m.0 r.0 r.1 r.2 m.1 r.3 in (
        subst (λ n. OnlyEdgeOf ps n 0 c) m.2 (subst (λ n. OnlyEdgeOf ps (place_of g cut m.0) 0 n) r.4 o.0),
        subst (λ n. OnlyEdgeOf ps n 1 d) m.2 (subst (λ n. OnlyEdgeOf ps (place_of g cut m.0) 1 n) r.5 o.1),
      )

  -- a block whose exit has arms is there
  there_with : (ss : List Spot) (b c : ℕ) → In c (arms_of (or_else (nth ss b) no_spot).block.exit)
      → b < length ss
  unfolding no_spot
  there_with (s ∷ ss) (suc b) c i = grind (arith, there_with ss b c i)
  there_with ss b c i = grind arith

  some_branch : (x : ℕ) → in_some arms_of (spots g) x ≡ true → (b : ℕ) × (b < length (spots g))
      × In x (arms_of (block_at g b).exit)
  unfolding spot_at
  some_branch x e = let r = some_of arms_of (spots g) x e in (r.0, there_with (spots g) r.0 x r.1, r.1)

  unjoined : (first arm : Bool) → first ≡ false → not (first || arm) ≡ false → arm ≡ true
  unjoined first arm e f = grind (arith, both_ways)

  arm_at : (b x : ℕ) → b < length (spots g) → (exit : graph.Exit) → (block_at g b).exit ≡ exit
      → In x (arms_of exit) → ArmOf ps (place_of g cut x)
  arm_at b x l (graph.Branch t c d) e i = go i
    where
      exits : (plan_at ps (place_of g cut b)).exit ≡ Either
          (gen_source (gen_ops (width_of g) (block_at g b).ops).next t).op
          (gen_source (gen_ops (width_of g) (block_at g b).ops).next t).from (place_of g cut c)
          (place_of g cut d)
      exits = ap (λ (p : Plan). p.exit) (at_place g live cut fit b l)
          ∙ ap (λ z. (gen_exit (place_of g cut) (gen_ops (width_of g) (block_at g b).ops).next z).exit) e

      arm : (place : ℕ) → OnlyEdgeOf ps (place_of g cut b) place (place_of g cut x)
          → ArmOf ps (place_of g cut x)
      arm place o = record {
        before = place_of g cut b;
        op = (gen_source (gen_ops (width_of g) (block_at g b).ops).next t).op;
        from = (gen_source (gen_ops (width_of g) (block_at g b).ops).next t).from;
        one = place_of g cut c;
        other = place_of g cut d;
        there = (omega arith, place_there g live cut fit b l);
        exit = exits;
        place = place;
        edge = o;
      }

      go : In x (c ∷ d ∷ []) → ArmOf ps (place_of g cut x)
      go (inl q) = arm 0 (subst (λ z. OnlyEdgeOf ps (place_of g cut b) 0 (place_of g cut z)) (sym q)
          (arms_open b t c d l e).0)
      go (inr (inl q)) = arm 1 (subst (λ z. OnlyEdgeOf ps (place_of g cut b) 1 (place_of g cut z)) (sym q)
          (arms_open b t c d l e).1)
      go (inr (inr q)) = absurd q
  arm_at b x l (graph.Goto c) e i = absurd i
  arm_at b x l (graph.Call r f ts back) e i = absurd i
  arm_at b x l (graph.Return t) e i = absurd i
  arm_at b x l (graph.Send t ts ls) e i = absurd i
  arm_at b x l graph.Stop e i = absurd i

  bare : (b : ℕ) → (1 ≤ b) × (b ≤ length ps) → (plan_at ps b).first ≡ false → (plan_at ps b).joined ≡ false
      → ArmOf ps b
  bare b h f j =
      let m = made_of b h in
      let a : in_some arms_of (spots g) m.0 ≡ true = unjoined (is_first cut m.0)
      (in_some arms_of (spots g) m.0) (ap (λ (p : Plan). p.first) (sym m.3) ∙ f)
      (ap (λ (p : Plan). p.joined) (sym m.3) ∙ j) in
      let r = some_branch m.0 a in
      subst (ArmOf ps) m.2 (arm_at r.0 m.0 r.1 (block_at g r.0).exit refl r.2)

  -- the plans of a graph are open
  pub plans_open : PlansOpen ps
  plans_open = record { arms = arms; bare = bare }
