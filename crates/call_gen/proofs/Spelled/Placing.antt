-- Where the blocks of the spelled graph stand.
use Rattle.std.proofs.Common.{ℕ, zero, suc, ◌+◌, ◌-◌, ◌||◌, ◌≡◌, ◌<◌, ◌≤◌, Bool, true, false, if◌then◌else◌}
use Rattle.std.proofs.Common.{List, [], ◌∷◌, ◌++◌, length, take, get_or, refl, sym, ap, ◌∙◌, subst, inl, inr}
use Rattle.std.proofs.Common.{Option, Some, arith}
use Rattle.std.specs.List.{AllByRecursion}
use Rattle.std.proofs.lemmas.Bool.{cases_lt}
use Rattle.std.proofs.lemmas.List.{length-append}
use Rattle.cfg_core.specs.Graph.{Term, Exit, Call, Block, GraphProc, Graph, Spot, spots_in, spots_from}
use Rattle.cfg_core.specs.Graph.{no_proc, entry_from}
use Rattle.cfg_core.specs.Rules.{calls, ProcNumbers}
use Rattle.call_gen.specs.Spelled.{callee_is, some_of, count_of, is_call, landings_from, after, spelled_block}
use Rattle.call_gen.specs.Spelled.{return_block, spelled_blocks, door_block, spelled_procs}
use Rattle.cfg_core.proofs.Spots.{nth_right, spots_in_both}
use Rattle.cfg_core.proofs.Weighing.{count_in as spots_in_count}
use Rattle.ws_words.specs.Items.{nth, or_else}
use Rattle.ws_words.proofs.Places.{nth_append_left}

-- Lists by place.

pub take_left : {A : Type 0} (xs ys : List A) (k : ℕ) → k ≤ length xs → take k (xs ++ ys) ≡ take k xs
take_left (x ∷ xs) ys (suc k) le = ap (λ (zs : List _). x ∷ zs) (take_left xs ys k (omega arith))
take_left xs ys k le = grind arith

pub take_right : {A : Type 0} (xs ys : List A) (n k m : ℕ) → length xs ≡ n → m ≡ n + k
    → take m (xs ++ ys) ≡ xs ++ take k ys
take_right [] ys n k m e em = ap (λ j. take j ys) (omega arith)
take_right (x ∷ xs) ys (suc n) k (suc m) e em =
    grind (arith, take_right xs ys n k m (omega arith) (omega arith))
take_right (x ∷ xs) ys n k m e em = absurd (omega arith)

pub count_both : (p : Spot → Bool) (xs ys : List Spot) → count_of p (xs ++ ys) ≡ count_of p xs + count_of p ys
count_both p [] ys = omega arith
count_both p (x ∷ xs) ys = omega (arith, count_both p xs ys)

module _ (g : Graph) (live : List (List ℕ)) where
  abbrev pub plain_of : Spot → ℕ → Spot
  plain_of s b = record {
    home = s.home;
    vars = suc s.vars;
    block = spelled_block g live s.home s.vars b
        s.block;
  }

  abbrev pub point_of : Spot → Option ℕ → ℕ → Spot
  point_of s r back = record {
    home = s.home;
    vars = suc s.vars;
    block = return_block g live s.home s.vars r
        back;
  }

  -- block b is spelled at this place, and a call's return point stands after it
  pub record AtPlace (new : List Spot) (k : ℕ) (s : Spot) (b : ℕ) : Type 0 where
    pub plain : nth new k ≡ Some (plain_of s b)
    pub point : (r : Option ℕ) (f : ℕ) (ts : List Term) (back : ℕ) → s.block.exit ≡ Call r f ts back
        → nth new (suc k) ≡ Some (point_of s r back)

  at_later : (new more : List Spot) (k m n : ℕ) (s : Spot) (b : ℕ) → length more ≡ n → m ≡ n + k
      → AtPlace new k s b → AtPlace (more ++ new) m s b
  at_later new more k m n s b e em h = grind (arith, nth_right)

  nth_bound : {A : Type 0} (xs : List A) (k : ℕ) (x : A) → nth xs k ≡ Some x → k < length xs
  nth_bound (y ∷ xs) (suc k) x e = omega (arith, nth_bound xs k x e)
  nth_bound xs k x e = grind arith

  at_front : (new more : List Spot) (k : ℕ) (s : Spot) (b : ℕ) → AtPlace new k s b
      → AtPlace (new ++ more) k s b
  at_front new more k s b h = grind (arith, nth_append_left, nth_bound, plain_of, point_of)

  module _ (home vars : ℕ) where
    abbrev spelled_spots : ℕ → List Block → List Spot
    spelled_spots b xs = spots_in home (suc vars) (spelled_blocks g live home vars b xs)

    pub after_count : (x : Exit) → length (after g live home vars x) ≡ (if calls x then 1 else 0)
    after_count x = grind arith

    blocks_count : (b : ℕ) (xs : List Block) → length (spelled_blocks g live home vars b xs) ≡ length xs
        + count_of is_call (spots_in home vars xs)
    blocks_count b [] = refl
    blocks_count b (x ∷ xs) = grind (arith, length-append, after_count, blocks_count (suc b) xs)

    blocks_placed : (b : ℕ) (xs : List Block) (i k : ℕ) (s : Spot) → nth (spots_in home vars xs) i ≡ Some s
        → k ≡ i + count_of is_call (take i (spots_in home vars xs)) → AtPlace (spelled_spots b xs) k s (b + i)
    blocks_placed b (x ∷ xs) (suc i) k s e ek =
        let front = spelled_block g live home vars b x ∷ after g live home vars x.exit in
        let count = length (spots_in home (suc vars) front) in
        let n : count ≡ suc (if calls x.exit then 1 else 0) =
        omega (arith, spots_in_count home (suc vars) front, after_count x.exit) in
        let rest = i + count_of is_call (take i (spots_in home vars xs)) in
        let later = blocks_placed (suc b) xs i rest s e refl in
        let z : suc b + i ≡ b + suc i = omega arith in
        subst (λ m. AtPlace (spelled_spots b (x ∷ xs)) k s m) z
        (rw (spots_in_both home (suc vars) front (spelled_blocks g live home vars (suc b) xs))
        (at_later (spelled_spots (suc b) xs) (spots_in home (suc vars) front) rest k count s (suc b + i) refl
        (omega arith) later))
    blocks_placed b xs i k s e ek = grind arith

  -- the door of procedure f
  abbrev pub door_of : ℕ → GraphProc → Spot
  door_of f p = record { home = f; vars = suc p.vars; block = door_block g live f p }

  abbrev new_spots : ℕ → ℕ → List GraphProc → List Spot
  new_spots f b ps = spots_from f (spelled_procs g live f b ps)

  -- a procedure's door and blocks
  abbrev pub head_spots : ℕ → ℕ → GraphProc → List Spot
  head_spots f b p = door_of f p ∷ spelled_spots f p.vars b p.blocks

  pub head_count : (f b : ℕ) (p : GraphProc) → length (head_spots f b p)
      ≡ suc (length p.blocks + count_of is_call (spots_in f p.vars p.blocks))
  head_count f b p = grind (arith, spots_in_count, blocks_count)

  -- a door for each procedure and a return point for each call
  pub new_count : (f b : ℕ) (ps : List GraphProc) → length (new_spots f b ps) ≡ length (spots_from f ps)
      + count_of is_call (spots_from f ps) + length ps
  new_count f b [] = refl
  new_count f b (p ∷ ps) =
      grind (
        arith,
        length-append,
        head_count,
        count_both,
        spots_in_count,
        new_count (suc f) (b + length p.blocks) ps,
      )

  -- Of a block: the home and the variables.
  pub record HomeIs (f : ℕ) (ps : List GraphProc) (s : Spot) : Type 0 where
    pub place : ℕ
    pub home : s.home ≡ f + place
    pub there : place < length ps
    pub vars : s.vars ≡ (or_else (nth ps place) no_proc).vars

  pub in_blocks : (home vars : ℕ) (xs : List Block) (i : ℕ) (s : Spot) → nth (spots_in home vars xs) i
      ≡ Some s → (s.home ≡ home) × (s.vars ≡ vars)
  in_blocks home vars (x ∷ xs) (suc i) s e = in_blocks home vars xs i s e
  in_blocks home vars xs i s e = grind arith

  pub home_is : (f : ℕ) (ps : List GraphProc) (i : ℕ) (s : Spot) → nth (spots_from f ps) i ≡ Some s
      → HomeIs f ps s
  home_is f [] i s e = absurd (cc)
  home_is f (p ∷ ps) i s e = elim (cases_lt i (length (spots_in f p.vars p.blocks))) [
    | inl lt ↦ grind (arith, in_blocks, nth_append_left)
    | inr ge ↦
        let n = length (spots_in f p.vars p.blocks) in
        let k = i - n in
        let r = home_is (suc f) ps k s
        (grind (arith, nth_right)) in
        record {
          place = suc r.place;
          home = omega arith;
          there = omega arith;
          vars = r.vars;
        }
  ]

  pub placed : (f b : ℕ) (ps : List GraphProc) (i k : ℕ) (s : Spot) → nth (spots_from f ps) i ≡ Some s
      → k + f ≡ i + count_of is_call (take i (spots_from f ps)) + suc s.home
      → AtPlace (new_spots f b ps) k s (b + i)
  placed f b [] i k s e ek = absurd (cc)
  placed f b (p ∷ ps) i k s e ek = elim (cases_lt i (length (spots_in f p.vars p.blocks))) [
    | inl lt ↦
        let old = spots_in f p.vars p.blocks in
        let es : nth old i ≡ Some s = sym (nth_append_left old (spots_from (suc f) ps) i lt) ∙ e in
        let home = (in_blocks f p.vars p.blocks i s es).0 in
        let same : count_of is_call (take i (old ++ spots_from (suc f) ps)) ≡ count_of is_call (take i old) =
        ap (count_of is_call) (take_left old (spots_from (suc f) ps) i (omega arith)) in
        let rest = i + count_of is_call (take i old) in
        let a = blocks_placed f p.vars b p.blocks i rest s es refl in
        at_front (head_spots f b p) (new_spots (suc f) (b + length p.blocks) ps) k s (b + i)
        (at_later (spelled_spots f p.vars b p.blocks) (door_of f p ∷ []) rest k 1 s (b + i) refl
        (omega arith) a)
    | inr ge ↦
        let old = spots_in f p.vars p.blocks in
        let n = length old in
        let j = i - n in
        let split : i ≡ n + j = omega arith in
        let es : nth (spots_from (suc f) ps) j ≡ Some s =
        sym (nth_right old (spots_from (suc f) ps) n j i refl split) ∙ e in
        let counts : count_of is_call (take i (old ++ spots_from (suc f) ps)) ≡ count_of is_call old
        + count_of is_call (take j (spots_from (suc f) ps)) =
        ap (count_of is_call) (take_right old (spots_from (suc f) ps) n j i refl split)
        ∙ count_both is_call old (take j (spots_from (suc f) ps)) in
        let h = home_is (suc f) ps j s es in
        let m = length (head_spots f b p) in
        let hc = head_count f b p in
        let oc : n ≡ length p.blocks = spots_in_count f p.vars p.blocks in
        let l = k - m in
        let big : k ≡ m + l = omega arith in
        let a = placed (suc f) (b + length p.blocks) ps j l s es
        (omega arith) in
        let z : (b + length p.blocks) + j ≡ b + i = omega arith in
        rw z at (at_later (new_spots (suc f) (b + length p.blocks) ps) (head_spots f b p) l k m s
        ((b + length p.blocks) + j) refl big a)
  ]

  entry_shift : (n : ℕ) (ps : List GraphProc) (e : ℕ) → e < length ps → entry_from n ps e ≡ n + entry_from 0
      ps e
  entry_shift n (p ∷ ps) (suc e) lt = omega (
    arith,
    entry_shift (n + length p.blocks) ps e (omega arith),
    entry_shift (0 + length p.blocks) ps e (omega arith),
  )
  entry_shift n ps e lt = grind arith

  -- the number of a door among these procedures, the first of which has number f
  abbrev pub door_in : ℕ → List GraphProc → ℕ → ℕ
  door_in f ps e = entry_from 0 ps e + count_of is_call (take (entry_from 0 ps e) (spots_from f ps)) + e

  -- after the first procedure
  pub door_later : (f : ℕ) (p : GraphProc) (ps : List GraphProc) (e : ℕ) → e < length ps
      → door_in f (p ∷ ps) (suc e) ≡ suc (length p.blocks + count_of is_call (spots_in f p.vars p.blocks))
      + door_in (suc f) ps e
  door_later f p ps e lt =
      let old = spots_in f p.vars p.blocks in
      let later = entry_from 0 ps e in
      let z : 0 + length p.blocks ≡ length p.blocks = omega arith in
      let s : entry_from (0 + length p.blocks) ps e ≡ length p.blocks + later = grind (arith, entry_shift) in
      let counts : count_of is_call (take (entry_from (0 + length p.blocks) ps e) (old ++ spots_from (suc f)
      ps)) ≡ count_of is_call old + count_of is_call (take later (spots_from (suc f) ps)) = ap (count_of
      is_call) (grind (arith, take_right, spots_in_count)) ∙ count_both is_call old (take later (spots_from
      (suc f) ps)) in
      omega arith

  pub doors_placed : (f b : ℕ) (ps : List GraphProc) (e : ℕ) → e < length ps
      → nth (new_spots f b ps) (door_in f ps e) ≡ Some (door_of (f + e) (or_else (nth ps e) no_proc))
  doors_placed f b (p ∷ ps) (suc e) lt = nth_right (head_spots f b p) (new_spots (suc f) (b + length p.blocks)
      ps) (length (head_spots f b p)) (door_in (suc f) ps e) (door_in f (p ∷ ps) (suc e)) refl (door_later f p
      ps e (omega arith) ∙ ap (λ n. n + door_in (suc f) ps e) (sym (head_count f b p))) ∙ doors_placed (suc f)
      (b + length p.blocks) ps e (omega arith) ∙ ap (λ n. Some (door_of n (or_else (nth ps e) no_proc))) (let
      z : suc f + e ≡ f + suc e = omega arith in z)
  doors_placed f b ps e lt = grind arith

  pub entries_are : (f b : ℕ) (ps : List GraphProc) (e : ℕ) → e < length ps
      → entry_from 0 (spelled_procs g live f b ps) e ≡ door_in f ps e
  entries_are f b (p ∷ ps) (suc e) lt =
      let n = suc (length (spelled_blocks g live f p.vars b p.blocks)) in
      let c : n ≡ suc (length p.blocks + count_of is_call (spots_in f p.vars p.blocks)) =
      ap suc (blocks_count f p.vars b p.blocks) in
      omega (
        arith,
        entry_shift' (0 + n) (suc f) (b + length p.blocks) ps e (omega arith),
        entries_are (suc f) (b + length p.blocks) ps e (omega arith),
        door_later f p ps e (omega arith),
        c,
      )
    where
      entry_shift' : (n f b : ℕ) (ps : List GraphProc) (e : ℕ) → e < length ps
          → entry_from n (spelled_procs g live f b ps) e ≡ n + entry_from 0 (spelled_procs g live f b ps) e
      entry_shift' n f b ps e lt = entry_shift n (spelled_procs g live f b ps) e
          (subst (λ m. e < m) (sym (procs_count f b ps)) lt)
        where
          procs_count : (f b : ℕ) (ps : List GraphProc) → length (spelled_procs g live f b ps) ≡ length ps
          procs_count f b [] = refl
          procs_count f b (p ∷ ps) = ap suc (procs_count (suc f) (b + length p.blocks) ps)
  entries_are f b ps e lt = grind arith

  pub procs_count : (f b : ℕ) (ps : List GraphProc) → length (spelled_procs g live f b ps) ≡ length ps
  procs_count f b [] = refl
  procs_count f b (p ∷ ps) = ap suc (procs_count (suc f) (b + length p.blocks) ps)

  pub vars_are : (f b : ℕ) (ps : List GraphProc) (e : ℕ) → e < length ps
      → (or_else (nth (spelled_procs g live f b ps) e) no_proc).vars ≡ suc (or_else (nth ps e) no_proc).vars
  vars_are f b (p ∷ ps) (suc e) lt = vars_are (suc f) (b + length p.blocks) ps e (omega arith)
  vars_are f b ps e lt = grind arith

-- the first block of a procedure
pub first_is : (f : ℕ) (ps : List GraphProc) (e : ℕ) → AllByRecursion ProcNumbers ps → e < length ps
    → (s : Spot) × (nth (spots_from f ps) (entry_from 0 ps e) ≡ Some s) × (s.home ≡ f + e)
first_is f [] e h lt = absurd (omega arith)
first_is f (p ∷ ps) zero h lt = some p.blocks h.0.some_block
  where
    some : (xs : List Block) → 1 ≤ length xs
        → (s : Spot) × (nth (spots_in f p.vars xs ++ spots_from (suc f) ps) 0 ≡ Some s) × (s.home ≡ f + 0)
    some [] le = absurd (omega arith)
    some (x ∷ xs) le = (record { home = f; vars = p.vars; block = x }, refl, omega arith)
first_is f (p ∷ ps) (suc e) h lt =
    let r = first_is (suc f) ps e h.1 (omega arith) in
    let old = spots_in f p.vars p.blocks in
    let s : entry_from (0 + length p.blocks) ps e ≡ length p.blocks + entry_from 0 ps e = shift (0 + length
    p.blocks) ps e (omega arith) ∙ (omega arith) in
    grind (arith, nth_right, spots_in_count)
  where
    shift : (n : ℕ) (ps : List GraphProc) (e : ℕ) → e < length ps → entry_from n ps e ≡ n + entry_from 0 ps e
    shift n (p ∷ ps) (suc e) lt = omega (
      arith,
      shift (n + length p.blocks) ps e (omega arith),
      shift (0 + length p.blocks) ps e (omega arith),
    )
    shift n ps e lt = grind arith

-- the return points of a procedure's calls
pub landing_in : (f b k : ℕ) (ss : List Spot) (i : ℕ) (s : Spot) → nth ss i ≡ Some s
    → callee_is s.block.exit f ≡ true
    → (get_or (landings_from f b k ss) (count_of (λ s. callee_is s.block.exit f) (take i ss)) 0
    ≡ suc ((b + i) + (k + count_of is_call (take i ss)) + suc s.home))
    × (count_of (λ s. callee_is s.block.exit f) (take i ss) < length (landings_from f b k ss))
landing_in f b k (x ∷ ss) (suc i) s e h =
    grind (arith, landing_in f (suc b) ((if is_call x then 1 else 0) + k) ss i s e h)
landing_in f b k ss i s e h = grind arith

pub some_in : (p : Spot → Bool) (ss : List Spot) (i : ℕ) (s : Spot) → nth ss i ≡ Some s → p s ≡ true
    → some_of p ss ≡ true
some_in p [] i s e h = absurd (cc)
some_in p (x ∷ ss) zero s e h = let same : x ≡ s = cc in ap (λ v. v || some_of p ss) (ap p same ∙ h)
some_in p (x ∷ ss) (suc i) s e h = grind (arith, some_in p ss i s e h)

pub in_some : (p : Spot → Bool) (ss : List Spot) → some_of p ss ≡ true → (i : ℕ) × (s : Spot)
    × (nth ss i ≡ Some s) × (p s ≡ true)
in_some p [] h = absurd (cc)
in_some p (x ∷ ss) h = by_test (p x) refl h (λ r. in_some p ss r)
  where
    by_test : (b : Bool) → p x ≡ b → (b || some_of p ss) ≡ true
        → (some_of p ss ≡ true → (i : ℕ) × (s : Spot) × (nth ss i ≡ Some s) × (p s ≡ true))
        → (i : ℕ) × (s : Spot) × (nth (x ∷ ss) i ≡ Some s) × (p s ≡ true)
    by_test true e h rest = (0, x, refl, e)
    by_test false e h rest = let r = rest h in (suc r.0, r.1, r.2, r.3)
