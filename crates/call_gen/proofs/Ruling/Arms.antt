-- Each branch of the spelled graph is one of the given graph, and its arms are entered by it alone.
use Rattle.std.proofs.Common.{ℕ, zero, suc, ◌+◌, ◌-◌, ◌≡◌, ◌<◌, ◌≤◌, Bool, true, if◌then◌else◌, List, [], ◌∷◌}
use Rattle.std.proofs.Common.{◌++◌, length, take, refl, sym, ap, ◌∙◌, subst, inl, inr, Option, Some, arith}
use Rattle.std.proofs.lemmas.Bool.{cases_lt}
use Rattle.std.proofs.lemmas.List.{length_push}
use Rattle.cfg_core.specs.Graph.{Term, Exit, Goto, Branch, Call, Return, Send, Stop, Block, GraphProc, Graph}
use Rattle.cfg_core.specs.Graph.{Spot, spots, spots_in, spots_from, no_spot, spot_at, block_at, proc_at}
use Rattle.cfg_core.specs.Graph.{entry_of, entry_from}
use Rattle.cfg_core.specs.Rules.{calls, Leads}
use Rattle.cfg_core.specs.Edges.{Edge}
use Rattle.cfg_core.specs.Shape.{OnlyFrom, IsShaped, ArmsAlone}
use Rattle.call_gen.specs.Spelled.{count_of, is_call, is_called, moved, door, landings, left, after, below}
use Rattle.call_gen.specs.Spelled.{spelled_blocks, spelled_procs, spelled}
use Rattle.call_gen.specs.Keeps.{NoSend}
use Rattle.call_gen.proofs.Spelled.Facts.{Given, Placed}
use Rattle.call_gen.proofs.Spelled.Placing.{take_left, take_right, count_both, in_blocks, door_in, door_later}
use Rattle.call_gen.proofs.Spelled.Placing.{head_count, after_count}
use Rattle.call_gen.proofs.Spelled.Places.{all_placed}
use Rattle.call_gen.proofs.Parted.PartWalk.{spot_is, exit_in}
use Rattle.call_gen.proofs.Parted.PartRules.{none_past}
use Rattle.call_gen.proofs.Ruling.Cycles.{lands_at, moved_less, moved_apart}
use Rattle.cfg_core.proofs.Spots.{nth_right, spots_in_both}
use Rattle.cfg_core.proofs.Weighing.{count_in as spots_in_count}
use Rattle.ws_words.specs.Items.{nth, or_else, In}
use Rattle.ws_words.proofs.Places.{nth_short, nth_append_left}

-- P holds of the place of each, where the first has this place
abbrev AllFrom : {A : Type 0} → (ℕ → Type 0) → ℕ → List A → Type 0
AllFrom P k [] = Unit {0}
AllFrom P k (x ∷ xs) = P k × AllFrom P (suc k) xs

all_at : {A : Type 0} (P : ℕ → Type 0) (k : ℕ) (xs : List A) → AllFrom P k xs → (j n : ℕ) → j < length xs
    → n ≡ k + j → P n
all_at P k (x ∷ xs) h (suc j) n lt e = all_at P (suc k) xs h.1 j n (omega arith) (omega arith)
all_at P k xs h j n lt e = grind arith

all_both : {A : Type 0} (P : ℕ → Type 0) (k n : ℕ) (xs ys : List A) → n ≡ k + length xs → AllFrom P k xs
    → AllFrom P n ys → AllFrom P k (xs ++ ys)
all_both P k n [] ys e h i = let z : n ≡ k = omega arith in rw z at i
all_both P k n (x ∷ xs) ys e h i = (h.0, all_both P (suc k) n xs ys (omega arith) h.1 i)

module _ (g : Graph) (live : List (List ℕ)) (P : ℕ → Type 0) where
  all_after : (home vars k : ℕ) (x : Exit) → (calls x ≡ true → P k)
      → AllFrom P k (spots_in home (suc vars) (after g live home vars x))
  all_after home vars k x h = grind arith

  all_blocks : (home vars b k : ℕ) (xs : List Block)
      → ((i m : ℕ) (s : Spot) → nth (spots_in home vars xs) i ≡ Some s
      → m ≡ k + (i + count_of is_call (take i (spots_in home vars xs))) → P m)
      → ((i m : ℕ) (s : Spot) → nth (spots_in home vars xs) i ≡ Some s → calls s.block.exit ≡ true
      → m ≡ k + (i + count_of is_call (take i (spots_in home vars xs))) → P (suc m))
      → AllFrom P k (spots_in home (suc vars) (spelled_blocks g live home vars b xs))
  all_blocks home vars b k [] plain point = tt
  all_blocks home vars b k (x ∷ xs) plain point =
      let here : Spot = record { home = home; vars = vars; block = x } in
      let n = suc k + (if calls x.exit then 1 else 0) in
      let count : n ≡ suc k + length (spots_in home (suc vars) (after g live home vars x.exit)) =
      grind (arith, spots_in_count, after_count) in (
        plain 0 k here refl (omega arith),
        rw (spots_in_both home (suc vars) (after g live home vars x.exit) (spelled_blocks g live home vars
            (suc b) xs)) (all_both P (suc k) n (spots_in home (suc vars) (after g live home vars x.exit))
            (spots_in home (suc vars) (spelled_blocks g live home vars (suc b) xs)) count (all_after home
            vars (suc k) x.exit (λ c. point 0 k here refl c (omega arith))) (all_blocks home vars (suc b)
            n xs (λ i m s e em. plain (suc i) m s e (omega arith)) (λ i m s e c em. point (suc i) m s e c
            (omega arith)))),
      )

  all_spots : (f b k : ℕ) (ps : List GraphProc)
      → ((e m : ℕ) → e < length ps → m ≡ k + door_in g live f ps e → P m)
      → ((i m : ℕ) (s : Spot) → nth (spots_from f ps) i ≡ Some s
      → m + f ≡ k + (i + count_of is_call (take i (spots_from f ps)) + suc s.home) → P m)
      → ((i m : ℕ) (s : Spot) → nth (spots_from f ps) i ≡ Some s → calls s.block.exit ≡ true
      → m + f ≡ k + (i + count_of is_call (take i (spots_from f ps)) + suc s.home) → P (suc m))
      → AllFrom P k (spots_from f (spelled_procs g live f b ps))
  all_spots f b k [] doors plain point = tt
  all_spots f b k (p ∷ ps) doors plain point =
      let old = spots_in f p.vars p.blocks in
      let rest = spots_from (suc f) ps in
      let n = k + suc (length p.blocks + count_of is_call old) in
      let oc = spots_in_count f p.vars p.blocks in
      let inner : (i : ℕ) (s : Spot) → nth old i ≡ Some s → (nth (old ++ rest) i ≡ Some s) × (count_of is_call
      (take i (old ++ rest)) ≡ count_of is_call (take i old)) × (s.home ≡ f) =
      grind (arith, nth_short, nth_append_left, take_left, in_blocks) in
      let outer : (i : ℕ) (s : Spot) → nth rest i ≡ Some s → (nth (old ++ rest) (length old + i) ≡ Some s) ×
      (count_of is_call (take (length old + i) (old ++ rest)) ≡ count_of is_call old + count_of is_call (take
      i rest)) = λ i s e. (
        nth_right old rest (length old) i (length old + i) refl refl ∙ e,
        ap (count_of is_call) (grind (arith, take_right)) ∙ count_both is_call old (take i rest),
      )
      in (
        doors 0 k (omega arith) (let z : k ≡ k + (0 + 0 + 0) = omega arith in z),
        all_both P (suc k) n (spots_in f (suc p.vars) (spelled_blocks g live f p.vars b p.blocks)) (spots_from
            (suc f) (spelled_procs g live (suc f) (b + length p.blocks) ps))
            (omega (arith, head_count g live f b p)) (all_blocks f p.vars b (suc k) p.blocks (λ i m s e em.
            let r = inner i s e in plain i m s r.0 (omega arith)) (λ i m s e c em. let r = inner i s e in
            point i m s r.0 c (omega arith))) (all_spots (suc f) (b + length p.blocks) n ps (λ e m lt em.
            doors (suc e) m (omega arith) (omega (arith, em, door_later g live f p ps e lt))) (grind arith)
            (grind arith)),
      )

-- the blocks before a procedure's first one belong to earlier procedures
home_before : (f : ℕ) (ps : List GraphProc) (e i : ℕ) (s : Spot) → e < length ps
    → nth (spots_from f ps) i ≡ Some s → i < entry_from 0 ps e → s.home < f + e
home_before f [] e i s lt es up = absurd (omega arith)
home_before f (p ∷ ps) zero i s lt es up = absurd (omega arith)
home_before f (p ∷ ps) (suc e) i s lt es up = elim (cases_lt i (length (spots_in f p.vars p.blocks))) [
  | inl low ↦ omega (arith, first f p.vars p.blocks i s (grind (arith, nth_append_left)))
  | inr ge ↦
      let n = length (spots_in f p.vars p.blocks) in
      let c = spots_in_count f p.vars p.blocks in
      let at : nth (spots_from (suc f) ps) (i - n) ≡ Some s =
      grind (arith, nth_right) in
      omega (
        arith,
        home_before (suc f) ps e (i - n) s (omega arith) at
            (omega (arith, ge, c, up, shift (0 + length p.blocks) ps e (omega arith))),
      )
]
  where
    first : (f vars : ℕ) (xs : List Block) (i : ℕ) (s : Spot) → nth (spots_in f vars xs) i ≡ Some s
        → s.home ≡ f
    first f vars (x ∷ xs) (suc i) s e = first f vars xs i s e
    first f vars xs i s e = grind arith

    shift : (n : ℕ) (ps : List GraphProc) (e : ℕ) → e < length ps → entry_from n ps e ≡ n + entry_from 0 ps e
    shift n (p ∷ ps) (suc e) lt = omega (
      arith,
      shift (n + length p.blocks) ps e (omega arith),
      shift (0 + length p.blocks) ps e (omega arith),
    )
    shift n ps e lt = grind arith

-- a block that an earlier block of its procedure leads to isn't a first one
not_first : (g : Graph) (a b : ℕ) → a < length (spots g) → b < length (spots g) → a < b
    → (spot_at g b).home ≡ (spot_at g a).home → (f : ℕ) → f < length g.procs
    → (spot_at g (entry_of g f)).home ≡ f → b ≡ entry_of g f → ⊥
unfolding entry_of
not_first g a b la lb lt home f lf first e = grind (arith, home_before, spot_is g a la)

-- branches of a graph of the lowered shape lead forward, to blocks of their own
pub shaped_alone : (g : Graph) → IsShaped g → ArmsAlone g
shaped_alone g s = record { apart = s.branches; ahead = grind arith }

module _ (g : Graph) (live : List (List ℕ)) (G : Given g live) (S : ArmsAlone g) where
  abbrev F : Placed g live
  F = all_placed g live G.rules

  abbrev h : Graph
  h = spelled g live

  -- where a block of the spelled graph stands
  data Where (k : ℕ) : Type 0 where
    at_door : (f : ℕ) → f < length g.procs → k ≡ door g f → Where k
    at_plain : (b : ℕ) → b < length (spots g) → k ≡ moved g b → Where k
    at_point : (b : ℕ) → b < length (spots g) → calls (block_at g b).exit ≡ true → k ≡ suc (moved g b)
        → Where k

  spot_of : (i : ℕ) (s : Spot) → nth (spots g) i ≡ Some s → (i < length (spots g)) × (spot_at g i ≡ s)
  unfolding spot_at
  spot_of i s e = (nth_short (spots g) i s e, ap (λ (o : Option Spot). or_else o no_spot) e)

  everywhere : AllFrom Where 0 (spots h)
  unfolding door moved entry_of
  everywhere = all_spots g live Where 0 0 0 g.procs (λ e m lt em. at_door e lt (omega arith)) (λ i m s e em.
      let r = spot_of i s e in at_plain i r.0 (omega (arith, em, ap (λ (t : Spot). t.home) r.1))) (λ i m s e c
      em. let r = spot_of i s e in at_point i r.0 (grind arith)
      (omega (arith, em, ap (λ (t : Spot). t.home) r.1)))

  -- the arms of a branch of the given graph
  ahead : (b : ℕ) (t : Term) (c d n : ℕ) → (block_at g b).exit ≡ Branch t c d → Edge g b n → b < n
  ahead b t c d n e l = grind arith

  in_arm : (b : ℕ) (t : Term) (c d : ℕ) → (block_at g b).exit ≡ Branch t c d
      → ((c < length (spots g)) × ((spot_at g c).home ≡ (spot_at g b).home))
      × ((d < length (spots g)) × ((spot_at g d).home ≡ (spot_at g b).home))
  in_arm b t c d e = let i = exit_in g G.rules b (Branch t c d) e in (i.1, i.2)

  goes_first : (b : ℕ) (t : Term) (c d : ℕ) → (block_at g b).exit ≡ Branch t c d → Edge g b c
  goes_first b t c d e = rw e (inl refl)

  goes_second : (b : ℕ) (t : Term) (c d : ℕ) → (block_at g b).exit ≡ Branch t c d → Edge g b d
  goes_second b t c d e = rw e (inr refl)

  -- An arm: the block that it belongs to, and itself.
  module _ (b : ℕ) (t : Term) (c0 d0 c : ℕ) (lb : b < length (spots g)) (lc : c < length (spots g))
      (is : (block_at g b).exit ≡ Branch t c0 d0) (l : Edge g b c)
      (home : (spot_at g c).home ≡ (spot_at g b).home) (only : OnlyFrom g b c) where
    bare : (block_at h (moved g c)).named ≡ []
    bare = ap (λ (s : Spot). s.block.named) (F.plain c lc)

    none_named : (n : ℕ) → moved g c ≡ n → 1 ≤ length (block_at h n).named → ⊥
    none_named n e some = omega (arith, some, ap (λ m. length (block_at h m).named) e, ap length bare)

    not_door : (a : ℕ) (r : Option ℕ) (f : ℕ) (ts : List Term) (back : ℕ) → a < length (spots g)
        → (block_at g a).exit ≡ Call r f ts back → moved g c ≡ door g f → ⊥
    not_door a r f ts back la e same =
        let there = (exit_in g G.rules a (Call r f ts back) e).1 in
        let named : length (block_at h (door g f)).named ≡ length (if is_called g f then below (proc_at g
        f).params ++ (proc_at g f).vars ∷ [] else []) = ap (λ (s : Spot). length s.block.named) (F.entry f
        there) in
        let some : length (if is_called g f then below (proc_at g f).params ++ (proc_at g f).vars ∷ [] else
        []) ≡ suc (length (below (proc_at g f).params)) = ap (λ (v : Bool). length (if v then below (proc_at g
        f).params ++ (proc_at g f).vars ∷ [] else [])) (F.called a r f ts back la e).0 ∙ length_push (below
        (proc_at g f).params) (proc_at g f).vars ∙ (omega arith) in
        grind (arith, none_named)

    not_point : (f : ℕ) → In (moved g c) (landings g f) → ⊥
    not_point f i =
        let p = lands_at g live G F f (moved g c) i in
        none_named (suc (moved g p.block)) p.place
        (omega (
          arith,
          ap (λ (s : Spot). length s.block.named) (F.point p.block p.result f p.terms p.back p.there p.exit),
        ))

    to_plain : (a n : ℕ) → a < length (spots g) → n < length (spots g) → Edge g a n → moved g c ≡ moved g n
        → moved g a ≡ moved g b
    to_plain a n la ln e same = grind (arith, moved_apart g live G F c n lc ln same)

    from_plain : (a : ℕ) (x : Exit) → a < length (spots g) → (block_at g a).exit ≡ x
        → Leads (left g (spot_at g a).home (spot_at g a).vars a x) (moved g c) → moved g a ≡ moved g b
    from_plain a (Goto n) la e m = to_plain a n la (exit_in g G.rules a (Goto n) e).0 (grind arith) m
    from_plain a (Branch u n o) la e (inl m) = to_plain a n la (exit_in g G.rules a (Branch u n o) e).1.0
        (subst (λ (y : Exit). Leads y n) (sym e) (inl refl)) m
    from_plain a (Branch u n o) la e (inr m) = to_plain a o la (exit_in g G.rules a (Branch u n o) e).2.0
        (subst (λ (y : Exit). Leads y o) (sym e) (inr refl)) m
    from_plain a (Call r f ts back) la e (inl m) = absurd (not_door a r f ts back la e m)
    from_plain a (Call r f ts back) la e (inr m) = absurd m
    from_plain a (Return u) la e m = grind (arith, not_point)
    from_plain a (Send u ts ls) la e m = absurd (subst NoSend e (G.no_send a))
    from_plain a Stop la e m = absurd m

    from_point : (a : ℕ) (x : Exit) → a < length (spots g) → (block_at g a).exit ≡ x → calls x ≡ true
        → (r : Option ℕ) (f : ℕ) (ts : List Term) (back : ℕ) → x ≡ Call r f ts back → moved g c ≡ moved g back
        → ⊥
    from_point a x la e k r f ts back ex same =
        let ea : (block_at g a).exit ≡ Call r f ts back = e ∙ ex in
        let i = exit_in g G.rules a (Call r f ts back) ea in
        let z : c ≡ back = moved_apart g live G F c back lc i.4.0 same in
        grind arith

    call_is : (x : Exit) → calls x ≡ true → (r : Option ℕ) × (f : ℕ) × (ts : List Term) × (back : ℕ)
        × (x ≡ Call r f ts back)
    call_is x k = grind arith

    from_where : (other : ℕ) → Where other → Edge h other (moved g c) → other ≡ moved g b
    from_where other (at_door f lf e) m =
        let goes : moved g c ≡ moved g (entry_of g f) = subst (λ (s : Spot). Leads s.block.exit (moved g c))
        (ap (spot_at h) e ∙ F.entry f lf) m in
        let z : c ≡ entry_of g f = moved_apart g live G F c (entry_of g f) lc (F.first f lf).0 goes in
        absurd (not_first g b c lb lc (ahead b t c0 d0 c is l) home f lf (F.first f lf).1 z)
    from_where other (at_plain a la e) m = e ∙ from_plain a (block_at g a).exit la refl
        (subst (λ (s : Spot). Leads s.block.exit (moved g c)) (ap (spot_at h) e ∙ F.plain a la) m)
    from_where other (at_point a la k e) m =
        let r = call_is (block_at g a).exit k in
        absurd (from_point a (block_at g a).exit la refl k r.0 r.1 r.2 r.3 r.4
        (subst (λ (s : Spot). Leads s.block.exit (moved g c)) (ap (spot_at h) e
        ∙ F.point a r.0 r.1 r.2 r.3 la r.4) m))

    no_edge : (n : ℕ) → Leads no_spot.block.exit n → ⊥
    unfolding no_spot
    no_edge n m = m

    only_from : OnlyFrom h (moved g b) (moved g c)
    only_from other m = elim (cases_lt other (length (spots h))) [
      | inr ge ↦ grind (arith, no_edge, none_past)
      | inl lt ↦ from_where other (all_at Where 0 (spots h) everywhere other other lt (omega arith)) m
    ]

  -- a branch is one of the given graph
  record From (a : ℕ) (t : Term) (b c : ℕ) : Type 0 where
    pub block : ℕ
    pub first : ℕ
    pub second : ℕ
    pub there : block < length (spots g)
    pub place : a ≡ moved g block
    pub exit : (block_at g block).exit ≡ Branch t first second
    pub place_first : b ≡ moved g first
    pub place_second : c ≡ moved g second

  from_left : (a : ℕ) (x : Exit) → a < length (spots g) → (block_at g a).exit ≡ x → (t : Term) (b c : ℕ)
      → left g (spot_at g a).home (spot_at g a).vars a x ≡ Branch t b c → From (moved g a) t b c
  from_left a x la ex t b c h' = grind arith

  calls_at : (x : Exit) → calls x ≡ true → (r : Option ℕ) × (f : ℕ) × (ts : List Term) × (back : ℕ)
      × (x ≡ Call r f ts back)
  calls_at x k = grind arith

  none_branches : (t : Term) (b c : ℕ) → no_spot.block.exit ≡ Branch t b c → ⊥
  unfolding no_spot
  none_branches t b c q = cc

  from_at : (a : ℕ) (t : Term) (b c : ℕ) → (block_at h a).exit ≡ Branch t b c → From a t b c
  from_at a t b c q = elim (cases_lt a (length (spots h))) [
    | inr ge ↦ absurd (none_branches t b c (sym (ap (λ (s : Spot). s.block.exit) (none_past h a ge)) ∙ q))
    | inl lt ↦ at (all_at Where 0 (spots h) everywhere a a lt (omega arith))
  ]
    where
      at : Where a → From a t b c
      at (at_door f lf e) = absurd (let z : Goto (moved g (entry_of g f)) ≡ Branch t b c =
          sym (ap (λ (s : Spot). s.block.exit) (ap (spot_at h) e ∙ F.entry f lf)) ∙ q in cc)
      at (at_plain n ln e) = subst (λ m. From m t b c) (sym e)
          (from_left n (block_at g n).exit ln refl t b c
          (sym (ap (λ (s : Spot). s.block.exit) (ap (spot_at h) e ∙ F.plain n ln)) ∙ q))
      at (at_point n ln k e) =
          let r = calls_at (block_at g n).exit k in
          absurd (let z : Goto (moved g r.3) ≡ Branch t b c =
          sym (ap (λ (s : Spot). s.block.exit) (ap (spot_at h) e ∙ F.point n r.0 r.1 r.2 r.3 ln r.4))
          ∙ q in cc)

  pub arms_alone : ArmsAlone h
  arms_alone = record {
    apart = λ a t b c q.
        let f = from_at a t b c q in
        let i = in_arm f.block t f.first f.second f.exit in
        let s = S.apart f.block t f.first f.second f.exit in
        record {
          differ = λ same. s.differ (moved_apart g live G F f.first f.second i.0.0 i.1.0 (grind arith));
          first = grind (arith, only_from, goes_first);
          second = grind (arith, only_from, goes_second);
        };
    ahead = λ a t b c q.
        let f = from_at a t b c q in
        let i = in_arm f.block t f.first f.second f.exit in (
          omega (
            arith,
            f.place,
            f.place_first,
            moved_less g live G F f.block f.first f.there i.0.0
                (grind (arith, ahead, goes_first)),
          ),
          omega (
            arith,
            f.place,
            f.place_second,
            moved_less g live G F f.block f.second f.there i.1.0
                (grind (arith, ahead, goes_second)),
          ),
        );
  }
