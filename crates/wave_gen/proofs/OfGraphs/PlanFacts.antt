-- The plans of a graph, by their numbers, and what they need.
use Rattle.std.proofs.Common.{ℕ, zero, suc, ◌≡◌, ◌<◌, ◌≤◌, Bool, true, false, List, [], ◌∷◌, ◌++◌, length}
use Rattle.std.proofs.Common.{map, Some, refl, sym, ap, subst, inl, inr, arith}
use Rattle.std.proofs.lemmas.Bool.{both_ways}
use Rattle.cfg_core.specs.Graph as graph
use Rattle.cfg_core.specs.Graph.{Graph, spots, spot_at, block_at, no_spot}
use Rattle.cfg_core.specs.Rules.{BlockNumbers, calls}
use Rattle.live_vars.specs.Live.{Live, reads, passes, ReadsFirst, WrittenIn, ExitWrites, Carries}
use Rattle.wave_cut.specs.Cut.{Cut, is_first}
use Rattle.wave_gen.specs.Plans.{Plan, plan_at, no_plan}
use Rattle.wave_gen.proofs.Planning.Planned.{Reads, Needs}
use Rattle.wave_gen.specs.Gen.{gen_ops}
use Rattle.wave_gen.specs.Drawn.{exit_next}
use Rattle.wave_gen.specs.Listing.{gen_exit, entries_of, plan_of, turned, listing, place_of, index_of}
use Rattle.wave_gen.specs.Listing.{width_of, plans_of, block_of_plan, needed}
use Rattle.wave_gen.specs.Fitting.{Fits}
use Rattle.wave_gen.proofs.Walking.Tied.{all_at, same_home}
use Rattle.wave_gen.proofs.OfItems.ReadTerms.{Ground, reads_append}
use Rattle.wave_gen.proofs.OfItems.Sharing.{shared_read}
use Rattle.wave_gen.proofs.OfItems.ReadBlocks.{Kept, ops_reads, ExitGives, exit_reads}
use Rattle.wave_gen.proofs.OfGraphs.Chains.{listed_at, listed_once, listed_there}
use Rattle.wave_gen.proofs.OfGraphs.Turned.{waving}
use Rattle.wave_gen.proofs.OfGraphs.Entries.{among_in, in_among, live_in, live_has}
use Rattle.ws_words.specs.Items.{nth, or_else, In}
use Rattle.live_vars.proofs.Needed.{first_exit}
use Rattle.live_vars.proofs.Below.{reads_below, carries_stays}
use Rattle.ws_words.proofs.Places.{nth_short}

nth_map : (f : ℕ → Plan) (xs : List ℕ) (i b : ℕ) → nth xs i ≡ Some b → nth (map f xs) i ≡ Some (f b)
nth_map f (x ∷ xs) (suc i) b e = nth_map f xs i b e
nth_map f xs i b e = grind arith

length_map : (f : ℕ → Plan) (xs : List ℕ) → length (map f xs) ≡ length xs
length_map f [] = refl
length_map f (x ∷ xs) = ap suc (length_map f xs)

no_writes : (exit : graph.Exit) (y : ℕ) → calls exit ≡ false → ExitWrites exit y → ⊥
no_writes exit y e w = grind (arith, both_ways)

module _ (g : Graph) (live : ℕ → ℕ → Bool) (cut : Cut) (fit : Fits g live cut) where
  abbrev pub planned : ℕ → Plan
  planned b = plan_of g live (turned g cut) (is_first cut) (place_of g cut) (width_of g) b

  abbrev pub Need : ℕ → ℕ → Type 0
  Need m x = needed g live cut m x ≡ true

  pub plan_there : (i b : ℕ) → nth (listing g cut) i ≡ Some b → plan_at (plans_of g live cut) (suc i)
      ≡ planned b
  unfolding plan_at plans_of
  plan_there i b e = ap (λ z. or_else z no_plan) (nth_map planned (listing g cut) i b e)

  pub as_many : length (plans_of g live cut) ≡ length (listing g cut)
  unfolding plans_of
  as_many = length_map planned (listing g cut)

  pub at : (b : ℕ) → b < length (spots g) → nth (listing g cut) (index_of (listing g cut) b) ≡ Some b
  at b l = listed_at (length (spots g)) (turned g cut) (is_first cut) (length cut.heads)
      (waving g live cut fit) b l

  pub at_place : (b : ℕ) → b < length (spots g) → plan_at (plans_of g live cut) (place_of g cut b) ≡ planned b
  at_place b l = plan_there (index_of (listing g cut) b) b (at b l)

  pub place_there : (b : ℕ) → b < length (spots g) → place_of g cut b ≤ length (plans_of g live cut)
  place_there b l = let m : index_of (listing g cut) b < length (listing g cut) =
      nth_short (listing g cut) (index_of (listing g cut) b) b (at b l) in
      let e : length (plans_of g live cut) ≡ length (listing g cut) = as_many in omega (arith, m, e)

  pub place_is : (i b : ℕ) → nth (listing g cut) i ≡ Some b → place_of g cut b ≡ suc i
  place_is i b e = ap suc (listed_once (length (spots g)) (turned g cut) (is_first cut) (length cut.heads)
      (waving g live cut fit) i b e)

  pub block_there : (i b : ℕ) → nth (listing g cut) i ≡ Some b → b < length (spots g)
  block_there i b e = listed_there (length (spots g)) (turned g cut) (is_first cut) (length cut.heads)
      (waving g live cut fit) i b e

  block_is : (i b : ℕ) → nth (listing g cut) i ≡ Some b → block_of_plan g cut (suc i) ≡ b
  block_is i b e = grind arith

  pub to_entry : (i b x : ℕ) → nth (listing g cut) i ≡ Some b → Need (suc i) x → In x (entries_of g live b)
  to_entry i b x e h = grind (arith, among_in, block_is)

  pub of_entry : (i b x : ℕ) → nth (listing g cut) i ≡ Some b → In x (entries_of g live b) → Need (suc i) x
  of_entry i b x e h = grind (arith, block_is, in_among)

  pub numbers : (b : ℕ) → b < length (spots g) → BlockNumbers g (spot_at g b)
  unfolding spot_at
  numbers b l = all_at (BlockNumbers g) (spots g) no_spot b fit.graph.numbers.blocks l

  entry_of_live : (b y : ℕ) → b < length (spots g) → y < (spot_at g b).vars → Live g b y
      → In (suc y) (entries_of g live b)
  entry_of_live b y l u h =
      inr (live_has (live b) 0 (spot_at g b).vars y (omega arith) (omega (arith, u)) ((fit.sets b y l u).1 h))

  pub live_of_entry : (b y : ℕ) → b < length (spots g) → In (suc y) (entries_of g live b)
      → (y < (spot_at g b).vars) × Live g b y
  live_of_entry b y l h = grind (arith, live_in)

  -- what a block's operations and exit read first, it needs
  first_read : (b x : ℕ) → b < length (spots g) → Ground (ReadsFirst (block_at g b).ops (block_at g b).exit) x
      → In x (entries_of g live b)
  first_read b x l (inl e) = inl e
  first_read b x l (inr (y, e, r)) =
      let n = numbers b l in
      subst (λ z. In z (entries_of g live b)) (sym e)
      (entry_of_live b y l (reads_below g (spot_at g b).home (spot_at g b).vars (block_at g b).ops
      (block_at g b).exit y n.ops n.exit r) (reads b y r))

  -- and what a block behind it needs and it doesn't write
  passed_on : (b c y : ℕ) → b < length (spots g) → (WrittenIn (block_at g b).ops y → ⊥)
      → Carries (block_at g b).exit c → In (suc y) (entries_of g live c) → In (suc y) (entries_of g live b)
  passed_on b c y l n k i =
      let s = carries_stays g (spot_at g b).home (spot_at g b).vars (block_at g b).exit c (numbers b l).exit
      k in
      let h = live_of_entry c y s.0 i in
      let h0 : y < (spot_at g c).vars = h.0 in
      let v : (spot_at g c).vars ≡ (spot_at g b).vars = same_home g b c l s.0 s.1 in
      entry_of_live b y l (omega (arith, h0, v))
      (passes b c y n (no_writes (block_at g b).exit y (fit.no_call b)) k h.1)

  exit_read : (b x : ℕ) → b < length (spots g) → Kept (WrittenIn (block_at g b).ops) x
      → ExitGives (place_of g cut) Need (block_at g b).exit x → In x (entries_of g live b)
  exit_read b x l k (inl (inl e)) = inl e
  exit_read b x l k (inl (inr (y, e, r))) =
      first_read b x l (inr (y, e, first_exit (block_at g b).ops (block_at g b).exit y (k y e) r))
  exit_read b x l k (inr (c, q, m)) =
      let s = carries_stays g (spot_at g b).home (spot_at g b).vars (block_at g b).exit c (numbers b l).exit
      q in
      go x k (to_entry (index_of (listing g cut) c) c x (at c s.0) m)
    where
      go : (z : ℕ) → Kept (WrittenIn (block_at g b).ops) z → In z (entries_of g live c)
          → In z (entries_of g live b)
      go zero k' i = inl refl
      go (suc y) k' i = passed_on b c y l (k' y refl) q i

  -- what a plan reads, its block needs
  pub plan_reads : (b x : ℕ) → b < length (spots g) → Reads (planned b).items
      (Needs Need (planned b).test (planned b).exit) x → In x (entries_of g live b)
  plan_reads b x l h =
      let d = gen_ops (width_of g) (block_at g b).ops in
      let e = gen_exit (place_of g cut) d.next (block_at g b).exit in
      let Q : ℕ → Type 0 = Needs Need (exit_next d.next (block_at g b).exit) e.exit in
      elim (ops_reads (block_at g b).ops (block_at g b).exit (width_of g) (Reads e.items Q) x
      (reads_append d.items e.items Q x (shared_read (d.items ++ e.items) Q x h))) [
        | inl r ↦ first_read b x l r
        | inr q ↦ exit_read b x l q.1 (exit_reads (place_of g cut) Need (block_at g b).exit d.next x q.0)
      ]
