-- No cycle of the spelled graph is without a turn.
use Rattle.std.proofs.Common.{ℕ, zero, suc, ◌+◌, ◌-◌, ◌≡◌, ◌<◌, ◌≤◌, ◌⊎◌, ◌||◌, Bool, true, false}
use Rattle.std.proofs.Common.{if◌then◌else◌, List, [], ◌∷◌, ◌++◌, length, take, refl, sym, ap, ◌∙◌, subst}
use Rattle.std.proofs.Common.{inl, inr, Option, Some, arith}
use Rattle.std.specs.List.{AllByRecursion}
use Rattle.std.proofs.lemmas.Bool.{cases_lt}
use Rattle.std.proofs.lemmas.Bool.Decides.{nat_tests}
use Rattle.cfg_core.specs.Graph.{Term, Op, Exit, Goto, Branch, Call, Return, Send, Block, GraphProc, Graph}
use Rattle.cfg_core.specs.Graph.{Spot, spots, spots_in, spots_from, no_spot, no_proc, spot_at, block_at}
use Rattle.cfg_core.specs.Graph.{proc_at, entry_of}
use Rattle.cfg_core.specs.Rules.{calls, Leads, has_turn, has_tick, takes_turn, Quiet, one, more}
use Rattle.cfg_core.proofs.Turns.{has_tick_turns}
use Rattle.call_gen.specs.Spelled.{callee_is, count_of, is_call, is_called, moved, landings, saves, left}
use Rattle.call_gen.specs.Spelled.{spelled}
use Rattle.call_gen.proofs.Spelled.Facts.{Given, Placed}
use Rattle.call_gen.proofs.Spelled.Placing.{plain_of, point_of, door_of, home_is}
use Rattle.call_gen.proofs.Spelled.Sorts.{all_spots, landing_from}
use Rattle.call_gen.proofs.Along.Standing.{exit_in, callee_earlier}
use Rattle.cfg_core.proofs.Spots.{nth_right, each_at}
use Rattle.ws_words.specs.Items.{nth, or_else, In}
use Rattle.ws_words.proofs.Places.{nth_there, nth_append_left}

module _ (g : Graph) (live : List (List ℕ)) (G : Given g live) (F : Placed g live) where
  abbrev h : Graph
  h = spelled g live

  abbrev n : ℕ
  n = length (spots g)

  -- what a block of the spelled graph is
  pub data Sort : Spot → Type 0 where
    is_door : (f : ℕ) → f < length g.procs → Sort (door_of g live f (proc_at g f))
    is_plain : (b : ℕ) → b < n → Sort (plain_of g live (spot_at g b) b)
    is_point : (b : ℕ) (r : Option ℕ) (f : ℕ) (ts : List Term) (back : ℕ) → b < n
        → (block_at g b).exit ≡ Call r f ts back → Sort (point_of g live (spot_at g b) r back)
    is_none : Sort no_spot

  bound : {A : Type 0} (xs : List A) (k : ℕ) (x : A) → nth xs k ≡ Some x → k < length xs
  bound (y ∷ xs) (suc k) x e = omega (arith, bound xs k x e)
  bound xs k x e = grind arith

  spot_from : (k : ℕ) (s : Spot) → nth (spots g) k ≡ Some s → spot_at g k ≡ s
  unfolding spot_at
  spot_from k s e = ap (λ (o : Option Spot). or_else o no_spot) e

  pub every_spot : AllByRecursion Sort (spots h)
  unfolding proc_at
  every_spot = all_spots g live Sort 0 0 g.procs (λ e lt. let z : e ≡ 0 + e = omega arith in subst (λ m. Sort
      (door_of g live m (or_else (nth g.procs e) no_proc))) z (is_door e lt)) (λ i s e. let z : i ≡ 0 + i =
      omega arith in subst (λ m. Sort (plain_of g live s m)) z (subst (λ (t : Spot). Sort (plain_of g live t
      i)) (spot_from i s e) (is_plain i (bound (spots g) i s e)))) (λ i s r f ts back e is. subst (λ (t :
      Spot). Sort (point_of g live t r back)) (spot_from i s e) (is_point i r f ts back (bound (spots g) i s
      e) (grind (arith, spot_from))))

  pub sort_at : (k : ℕ) → Sort (spot_at h k)
  unfolding spot_at
  sort_at k = each_at Sort (spots h) no_spot every_spot is_none k

  -- homes of places
  home_moved : (b : ℕ) → b < n → (spot_at h (moved g b)).home ≡ (spot_at g b).home
  home_moved b lt = ap (λ (s : Spot). s.home) (F.plain b lt)

  home_point : (b : ℕ) (r : Option ℕ) (f : ℕ) (ts : List Term) (back : ℕ) → b < n
      → (block_at g b).exit ≡ Call r f ts back → (spot_at h (suc (moved g b))).home ≡ (spot_at g b).home
  home_point b r f ts back lt e = ap (λ (s : Spot). s.home) (F.point b r f ts back lt e)

  spot_is : (b : ℕ) → b < n → nth (spots g) b ≡ Some (spot_at g b)
  unfolding spot_at
  spot_is b lt = grind (arith, nth_there (spots g) b lt)

  call_of : (x : Exit) (f : ℕ) → callee_is x f ≡ true → (r : Option ℕ) × (ts : List Term) × (back : ℕ)
      × (x ≡ Call r f ts back)
  call_of (Call r e ts back) f c = (r, ts, back, ap (λ m. Call r m ts back) (same e f c))
    where
      same : (e f : ℕ) → callee_is (Call r e ts back) f ≡ true → e ≡ f
      same e f c = grind (arith, nat_tests)
  call_of x f h = absurd (cc)

  -- a landing of a procedure's returns: the return point of a call in a later procedure
  pub record Lands (f d : ℕ) : Type 0 where
    pub block : ℕ
    pub there : block < n
    pub result : Option ℕ
    pub terms : List Term
    pub back : ℕ
    pub exit : (block_at g block).exit ≡ Call result f terms back
    pub place : d ≡ suc (moved g block)
    pub later : f < (spot_at g block).home

  pub lands_at : (f d : ℕ) → In d (landings g f) → Lands f d
  unfolding landings moved
  lands_at f d i = grind (arith, landing_from, spot_from, call_of, bound, callee_earlier)

  no_both : {v : Bool} → v ≡ true → v ≡ false → ⊥
  no_both a c = absurd (cc)

  tick_at : (b : ℕ) → calls (block_at g b).exit ≡ true → has_tick (block_at g b).ops ≡ true
  unfolding spot_at no_spot
  tick_at b = grind (arith, each_at, no_both)

  turn_left : (xs ys : List Op) → has_turn (xs ++ ys) ≡ false → has_turn xs ≡ false
  turn_left [] ys e = refl
  turn_left (x ∷ xs) ys e = by_test (takes_turn x) e (λ r. turn_left xs ys r)
    where
      by_test : (v : Bool) → (v || has_turn (xs ++ ys)) ≡ false
          → (has_turn (xs ++ ys) ≡ false → has_turn xs ≡ false) → (v || has_turn xs) ≡ false
      by_test v e rest = grind arith

  -- what an edge out of a block that may take no turn leads to
  pub data Goes (s : Spot) (d : ℕ) : Type 0 where
    stays : (c : ℕ) → c < n → d ≡ moved g c → (spot_at g c).home ≡ s.home → Goes s d
    rises : s.home < (spot_at h d).home → Goes s d

  -- from a block of the given graph
  pub plain_goes : (b d : ℕ) → b < n → (x : Exit) → (block_at g b).exit ≡ x
      → has_turn ((block_at g b).ops ++ saves g live (spot_at g b).home (spot_at g b).vars x) ≡ false
      → Leads (left g (spot_at g b).home (spot_at g b).vars b x) d
      → ((c : ℕ) × (c < n) × (d ≡ moved g c) × ((spot_at g c).home ≡ (spot_at g b).home) × Quiet g b c)
      ⊎ ((spot_at g b).home < (spot_at h d).home)
  plain_goes b d lt (Goto c) is quiet l =
      let i = exit_in g live G F b (Goto c) is in
      inl (
        c,
        i.0,
        l,
        i.1,
        one b c (turn_left (block_at g b).ops [] quiet) (subst (λ (x : Exit). Leads x c) (sym is) refl),
      )
  plain_goes b d lt (Branch t c e) is quiet (inl l) =
      let i = exit_in g live G F b (Branch t c e) is in
      inl (
        c,
        i.1.0,
        l,
        i.1.1,
        one b c (turn_left (block_at g b).ops [] quiet)
            (subst (λ (x : Exit). Leads x c) (sym is) (inl refl)),
      )
  plain_goes b d lt (Branch t c e) is quiet (inr l) =
      let i = exit_in g live G F b (Branch t c e) is in
      inl (
        e,
        i.2.0,
        l,
        i.2.1,
        one b e (turn_left (block_at g b).ops [] quiet)
            (subst (λ (x : Exit). Leads x e) (sym is) (inr refl)),
      )
  plain_goes b d lt (Return t) is quiet l = by_called (is_called g (spot_at g b).home) l
    where
      by_called : (v : Bool)
          → Leads (if v then Send (Rattle.cfg_core.specs.Graph.Var (spot_at g b).vars) (t ∷ [])
          (landings g (spot_at g b).home) else Return t) d
          → ((c : ℕ) × (c < n) × (d ≡ moved g c) × ((spot_at g c).home ≡ (spot_at g b).home) × Quiet g b c)
          ⊎ ((spot_at g b).home < (spot_at h d).home)
      by_called true l =
          let p = lands_at (spot_at g b).home d l in
          inr (omega (
            arith,
            p.later,
            home_point p.block p.result (spot_at g b).home p.terms p.back p.there
                p.exit,
            ap (λ m. (spot_at h m).home) p.place,
          ))
      by_called false l = absurd l
  plain_goes b d lt x is quiet l = grind (arith, no_both, has_tick_turns, tick_at, turn_left)

  goes : (s : Spot) → Sort s → (d : ℕ) → has_turn s.block.ops ≡ false → Leads s.block.exit d → Goes s d
  unfolding no_spot
  goes _ (is_door f lt) d quiet l = stays (entry_of g f) (F.first f lt).0 l (F.first f lt).1
  goes _ (is_plain b lt) d quiet l = elim (plain_goes b d lt (block_at g b).exit refl quiet l)
      [ inl p ↦ stays p.0 p.1 p.2 p.3 | inr up ↦ rises up ]
  goes _ (is_point b r f ts back lt e) d quiet l = let i = exit_in g live G F b (Call r f ts back) e in
      stays back i.4.0 l i.4.1
  goes _ is_none d quiet l = absurd l

  edge : (a d : ℕ) → has_turn (block_at h a).ops ≡ false → Leads (block_at h a).exit d → Goes (spot_at h a) d
  edge a d quiet l = goes (spot_at h a) (sort_at a) d quiet l

  up : (s : Spot) (d : ℕ) → Goes s d → s.home ≤ (spot_at h d).home
  up s d x = grind (arith, home_moved)

  path_up : (a d : ℕ) → Quiet h a d → (spot_at h a).home ≤ (spot_at h d).home
  path_up a d (one _ _ q l) = up (spot_at h a) d (edge a d q l)
  path_up a d (more _ c _ path q l) = omega (arith, path_up a c path, up (spot_at h c) d (edge c d q l))

  target : (a d : ℕ) → Quiet h a d → ((c : ℕ) × (c < n) × (d ≡ moved g c))
      ⊎ ((spot_at h a).home < (spot_at h d).home)
  target a d (one _ _ q l) = grind (arith, h, edge, n)
  target a d (more _ c _ path q l) = grind (arith, h, edge, path_up, n)

  -- from a block of the given graph, in its procedure: a path there
  plain_edge : (b a d : ℕ) → b < n → a ≡ moved g b → has_turn (block_at h a).ops ≡ false
      → Leads (block_at h a).exit d
      → ((c : ℕ) × (c < n) × (d ≡ moved g c) × ((spot_at g c).home ≡ (spot_at g b).home) × Quiet g b c)
      ⊎ ((spot_at g b).home < (spot_at h d).home)
  plain_edge b a d lt e q l = grind (arith, plain_of, plain_goes)

  quiet_both : (a c d : ℕ) → Quiet g a c → Quiet g c d → Quiet g a d
  quiet_both a c d p (one _ _ q l) = more a c d p q l
  quiet_both a c d p (more _ e _ path q l) = more a e d (quiet_both a c e p path) q l

  within : (b a d : ℕ) → b < n → a ≡ moved g b → Quiet h a d
      → ((c : ℕ) × (c < n) × (d ≡ moved g c) × ((spot_at g c).home ≡ (spot_at g b).home) × Quiet g b c)
      ⊎ ((spot_at g b).home < (spot_at h d).home)
  within b a d lt e (one _ _ q l) = plain_edge b a d lt e q l
  within b a d lt e (more _ c _ path q l) = elim (within b a c lt e path) [
    | inl p ↦ elim (plain_edge p.0 c d p.1 p.2 q l) [
      | inl r ↦ inl (r.0, r.1, r.2, r.3 ∙ p.3, quiet_both b p.0 r.0 p.4 r.4)
      | inr lt' ↦ inr (omega arith)
    ]
    | inr lt' ↦ inr (omega (arith, lt', up (spot_at h c) d (edge c d q l)))
  ]

  count_more : (p : Spot → Bool) (xs : List Spot) (i j : ℕ) → i ≤ j → count_of p (take i xs) ≤ count_of p
      (take j xs)
  count_more p xs zero j le = omega arith
  count_more p [] (suc i) (suc j) le = omega arith
  count_more p (x ∷ xs) (suc i) (suc j) le = omega (arith, count_more p xs i j (omega arith))
  count_more p xs (suc i) zero le = absurd (omega arith)

  home_more : (f : ℕ) (ps : List GraphProc) (i j : ℕ) (s t : Spot) → nth (spots_from f ps) i ≡ Some s
      → nth (spots_from f ps) j ≡ Some t → i ≤ j → s.home ≤ t.home
  home_more f [] i j s t es et le = absurd (cc)
  home_more f (p ∷ ps) i j s t es et le = elim (cases_lt i (length (spots_in f p.vars p.blocks))) [
    | inl lt ↦
        omega (
          arith,
          front f p.vars p.blocks i s (grind (arith, nth_append_left)),
          (home_is g live f (p ∷ ps) j t et).home,
        )
    | inr ge ↦
        let m = length (spots_in f p.vars p.blocks) in
        home_more (suc f) ps (i - m) (j - m) s t
        (grind (arith, nth_right))
        (grind (arith, nth_right)) (omega arith)
  ]
    where
      front : (home vars : ℕ) (xs : List Block) (i : ℕ) (s : Spot) → nth (spots_in home vars xs) i ≡ Some s
          → s.home ≡ home
      front home vars (x ∷ xs) (suc i) s e = front home vars xs i s e
      front home vars xs i s e = grind arith

  pub moved_less : (b c : ℕ) → b < n → c < n → b < c → moved g b < moved g c
  unfolding moved
  moved_less b c lb lc lt =
      grind (arith, count_more is_call (spots g) b c (omega arith), home_more, spot_is b lb, spot_is c lc)

  pub moved_apart : (b c : ℕ) → b < n → c < n → moved g b ≡ moved g c → b ≡ c
  moved_apart b c lb lc e = elim (cases_lt b c) [
    | inl lt ↦ absurd (omega (arith, e, moved_less b c lb lc lt))
    | inr ge ↦ elim (cases_lt c b) [
      | inl lt ↦ absurd (omega (arith, e, moved_less c b lc lb lt))
      | inr le ↦
          omega (arith, ge, le)
    ]
  ]

  pub no_cycle : (a : ℕ) → Quiet h a a → ⊥
  no_cycle a path = elim (target a a path) [
    | inr lt ↦ omega arith
    | inl t ↦ grind (arith, within, home_moved, moved_apart)
  ]
