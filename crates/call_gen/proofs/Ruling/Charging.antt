-- What stands for the blocks of the given graph, and what its walks weigh.
use Rattle.std.proofs.Common.{ℕ, zero, suc, ◌+◌, ◌-◌, ◌*◌, ◌≡◌, ◌<◌, ◌≤◌, ◌⊎◌, Bool, true, false}
use Rattle.std.proofs.Common.{if◌then◌else◌, List, [], ◌∷◌, ◌++◌, length, map, refl, sym, ap, ◌∙◌, subst, inl}
use Rattle.std.proofs.Common.{inr, Option, arith}
use Rattle.std.specs.List.{AllByRecursion, filter, sum_by}
use Rattle.std.proofs.lemmas.Bool.{cases_lt}
use Rattle.std.proofs.lemmas.List.{length-map, length_push}
use Rattle.std.proofs.lemmas.List.Sums.{sum_by-cons, sum_by-append}
use Rattle.cfg_core.specs.Graph.{Term, Number, Op, Exit, Call, Graph, Spot, spots, spot_at, block_at, proc_at}
use Rattle.cfg_core.specs.Graph.{entry_of}
use Rattle.cfg_core.specs.Rules.{calls}
use Rattle.cfg_core.specs.Weights.{term_nodes, first_block}
use Rattle.live_vars.specs.Live.{Live}
use Rattle.live_vars.specs.Marks.{has}
use Rattle.call_gen.specs.Spelled.{is_called, is_unset, moved, door, below, saved, save, load, saves, left}
use Rattle.call_gen.specs.Spelled.{clear, spelled}
use Rattle.call_gen.specs.Charged.{IsSave, IsLoad, IsClear, LiveBelow, live_count, most_saved, StandsForExit}
use Rattle.call_gen.specs.Charged.{StandsFor, GoesOnAfter, CallsCharged}
use Rattle.call_gen.proofs.Spelled.Counting.{one_at_most}
use Rattle.call_gen.proofs.Spelled.Facts.{Given, Placed}
use Rattle.call_gen.proofs.Spelled.Slots.{below_count}
use Rattle.call_gen.proofs.Along.Standing.{places}
use Rattle.call_gen.proofs.Spelled.Covering.{each_is_placed}
use Rattle.call_gen.proofs.Along.Alongside.{first_is, weighs}
use Rattle.call_gen.proofs.Spelled.Places.{all_placed, all_celled}
use Rattle.call_gen.proofs.Ruling.Crossing.{Known, live_there, door_live, point_live, named_door}
use Rattle.ws_words.proofs.Bools.{and_parts as and_true}
use Rattle.ws_words.specs.Items.{or_else, In}

filter_push : (p : ℕ → Bool) (xs : List ℕ) (y : ℕ) → length (filter p (xs ++ y ∷ [])) ≡ length (filter p xs)
    + (if p y then 1 else 0)
filter_push p [] y = grind arith
filter_push p (x ∷ xs) y = grind (arith, filter_push p xs y)

-- a filter of numbers from m on
filter_from : (p : ℕ → Bool) (m n : ℕ) → ((x : ℕ) → p x ≡ true → m ≤ x) → length (filter p (below n)) ≤ n - m
filter_from p m zero h = omega arith
filter_from p m (suc n) h = grind (arith, filter_push, filter_from p m n h)

-- a filter of numbers from m on and below k
filter_between : (p : ℕ → Bool) (m k n : ℕ) → ((x : ℕ) → p x ≡ true → m ≤ x)
    → ((x : ℕ) → x < n → p x ≡ true → x < k) → length (filter p (below n)) ≤ k - m
filter_between p m k zero h i = omega arith
filter_between p m k (suc n) h i = elim (cases_lt n k) [
  | inl low ↦ let f = filter_from p m (suc n) h in omega arith
  | inr high ↦ by_test high (p n) refl (filter_between p m k n h (grind arith)) (filter_push p (below n) n)
]
  where
    by_test : k ≤ n → (v : Bool) → p n ≡ v → length (filter p (below n)) ≤ k - m
        → length (filter p (below n ++ n ∷ [])) ≡ length (filter p (below n)) + (if p n then 1 else 0)
        → length (filter p (below n ++ n ∷ [])) ≤ k - m
    by_test high v e r q = grind arith

-- values with an address after them
pub terms_push : (ts : List Term) (n : ℕ) → sum_by term_nodes (ts ++ Number n ∷ []) ≡ sum_by term_nodes ts + 1
terms_push ts n = sum_by-append term_nodes ts (Number n ∷ [])

-- operations of so much each
pub each_sum : (f : Op → ℕ) (op : ℕ → Op) (k : ℕ) (xs : List ℕ) → ((x : ℕ) → f (op x) ≡ k)
    → sum_by f (map op xs) ≡ length xs * k
each_sum f op k [] h = omega arith
each_sum f op k (x ∷ xs) h = grind (arith, sum_by-cons, each_sum f op k xs h)

map_all : (P : Op → Type 0) (op : ℕ → Op) (xs : List ℕ) → ((x : ℕ) → P (op x)) → AllByRecursion P (map op xs)
map_all P op [] h = tt
map_all P op (x ∷ xs) h = (h x, map_all P op xs h)

module _ (g : Graph) (live : List (List ℕ)) where
  counted : (p : ℕ → Bool) (b n : ℕ) → ((x : ℕ) → x < n → p x ≡ true → has live b x ≡ true)
      → length (filter p (below n)) ≤ live_count live b n
  counted p b zero h = omega arith
  counted p b (suc n) h = grind (arith, filter_push, counted p b n (λ x lt e. h x (omega arith) e))

  -- what is saved is live where the call goes on, or the address
  pub saved_few : (home v : ℕ) (r : Option ℕ) (back : ℕ) → length (saved g live home v r back)
      ≤ suc (live_count live back v)
  saved_few home v r back = grind (arith, filter_push, counted, one_at_most, and_true)

  saves_all : (home v : ℕ) (x : Exit) → AllByRecursion IsSave (saves g live home v x)
  saves_all home v (Call r f ts back) = map_all IsSave (save g home) (saved g live home v r back) (λ x. tt)
  saves_all home v x = tt

  saves_few : (home v : ℕ) (x : Exit) → length (saves g live home v x) ≤ most_saved live v x
  saves_few home v x = grind (arith, length-map, saved_few)

  left_stands : (home v b : ℕ) (x : Exit) → StandsForExit (places g live) x (left g home v b x)
  left_stands home v b x = grind (arith, places)

module _ (g : Graph) (live : List (List ℕ)) (G : Given g live) where
  abbrev h : Graph
  h = spelled g live

  F : Placed g live
  F = all_placed g live G.rules

  block_stands : (b : ℕ) → b < length (spots g) → StandsFor g live h (places g live) b (moved g b)
  block_stands b lt =
      let home = (spot_at g b).home in
      let v = (spot_at g b).vars in
      let x = (block_at g b).exit in
      record {
        exit = subst (λ (s : Spot). StandsForExit (places g live) x s.block.exit) (sym (F.plain b lt))
            (left_stands g live home v b x);
        saves = saves g live home v x;
        are_saves = saves_all g live home v x;
        few = saves_few g live home v x;
        ops = ap (λ (s : Spot). s.block.ops) (F.plain b lt);
        held = λ y l. known y (live_there g live G (moved g b) y l b lt refl);
      }
    where
      known : (y : ℕ) → Known g live G b y → Live g b y ⊎ (y ≡ (spot_at g b).vars)
      known y x = grind arith

  module _ (f : ℕ) (lt : f < length g.procs) where
    abbrev params : ℕ
    params = (proc_at g f).params

    abbrev vf : ℕ
    vf = (proc_at g f).vars

    abbrev unset : List ℕ
    unset = filter (is_unset g live f params) (below vf)

    abbrev names : Bool → List ℕ
    names c = if c then below params ++ vf ∷ [] else []

    names_few : (c : Bool) → length (names c) ≤ suc params
    names_few c = grind (arith, length_push, below_count)

    -- the variables that are named, and those that are live and aren't given
    both_few : (n : ℕ) → params ≤ n → LiveBelow live (entry_of g f) vf n → (c : Bool) → is_called g f ≡ c
        → length (names c) + length unset ≤ suc n
    both_few n most low true e =
        let from = filter_between (is_unset g live f params) params n vf (grind (arith, and_true))
        (grind (arith, and_true)) in
        omega (arith, length_push (below params) vf, below_count params, most, from)
    both_few n most low false e =
        let from = filter_between (is_unset g live f params) 0 n vf (λ x h. omega arith)
        (λ x lt h. low x lt (and_true (has live _ x) _ h).0) in
        omega arith

    door_stands : GoesOnAfter IsClear (suc params) h (door g f)
    door_stands =
        let same = F.entry f lt in
        let n = named_door g live G f lt in
        record {
          ops = subst (λ (s : Spot). AllByRecursion IsClear s.block.ops) (sym same) (map_all IsClear clear
              unset (λ x. tt));
          named = grind (arith, names_few);
          goes = (_, ap (λ (s : Spot). s.block.exit) same);
          held = grind (arith, door_live);
        }

    door_clears : (n : ℕ) → params ≤ n → LiveBelow live (entry_of g f) vf n
        → length (block_at h (door g f)).named + length (block_at h (door g f)).ops ≤ suc n
    door_clears n most low =
        let ops : length (block_at h (door g f)).ops ≡ length unset = ap (λ (s : Spot). length s.block.ops)
        (F.entry f lt) ∙ length-map unset clear in
        let count : length (block_at h (door g f)).named ≡ length (names (is_called g f)) =
        ap length (named_door g live G f lt) in
        omega (arith, ops, count, both_few n most low (is_called g f) refl)

  module _ (b : ℕ) (lt : b < length (spots g)) where
    point_at : (x : Exit) → (block_at g b).exit ≡ x → calls x ≡ true
        → GoesOnAfter IsLoad 1 h (suc (moved g b))
    point_at (Call r f ts back) e c =
        let home = (spot_at g b).home in
        let v = (spot_at g b).vars in
        let same = F.point b r f ts back lt e in
        let n : (block_at h (suc (moved g b))).named ≡ or_else r v ∷ [] =
        ap (λ (s : Spot). s.block.named) same in
        record {
          ops = subst (λ (s : Spot). AllByRecursion IsLoad s.block.ops) (sym same)
              (map_all IsLoad (load g home) (saved g live home v r back) (λ x. tt));
          named = let one : length (block_at h (suc (moved g b))).named ≡ 1 = ap length n in
              omega arith;
          goes = (_, ap (λ (s : Spot). s.block.exit) same);
          held = λ x l. subst (λ (ys : List ℕ). In x ys) (sym n)
              (inl (point_live g live G b r f ts back lt e (suc (moved g b)) refl x l));
        }
    point_at x e no_call = absurd (cc)

    loads_at : (x : Exit) → (block_at g b).exit ≡ x → calls x ≡ true
        → length (block_at h (suc (moved g b))).ops ≤ most_saved live (spot_at g b).vars x
    loads_at (Call r f ts back) e c =
        let home = (spot_at g b).home in
        let v = (spot_at g b).vars in
        let xs = saved g live home v r back in
        let ops : length (block_at h (suc (moved g b))).ops ≡ length xs =
        ap (λ (s : Spot). length s.block.ops) (F.point b r f ts back lt e)
        ∙ length-map xs (load g home) in
        omega (arith, ops, saved_few g live home v r back)
    loads_at x e no_call = absurd (cc)

  -- where the walk begins what is live is cleared
  opens_few : (n : ℕ) → LiveBelow live (first_block g) (proc_at g (length g.procs - 1)).vars n
      → length (block_at h (first_block h)).ops ≤ n
  opens_few n low =
      let main = length g.procs - 1 in
      let lt : main < length g.procs = omega arith in
      let at : first_block h ≡ door g main = first_is g live G F (all_celled g live G.rules) (λ b. 0) in
      let same : length (block_at h (first_block h)).ops ≡ length (unset main lt) =
      ap (λ m. length (block_at h m).ops) at ∙ ap (λ (s : Spot). length s.block.ops) (F.entry main lt)
      ∙ length-map (unset main lt) clear in
      let from = filter_between (is_unset g live main (proc_at g main).params) 0 n (proc_at g main).vars
      (λ x h. omega arith) (λ x lx h. low x lx (and_true (has live _ x) _ h).0) in
      omega arith

  -- the blocks of the given graph pay for all blocks
  pub calls_charged : CallsCharged g live h
  calls_charged = record {
    places = places g live;
    each = each_is_placed g live;
    blocks = block_stands;
    doors = door_stands;
    clears = λ f n lt most low. door_clears f lt n most low;
    points = λ b lt c. point_at b lt (block_at g b).exit refl c;
    loads = λ b lt c. loads_at b lt (block_at g b).exit refl c;
    begins = first_is g live G F (all_celled g live G.rules) (λ b. 0);
    opens = opens_few;
    walks = λ w base pay. weighs g live G F (all_celled g live G.rules) w base pay;
  }
