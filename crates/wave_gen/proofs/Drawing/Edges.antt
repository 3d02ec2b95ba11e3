-- What is open behind an edge of a draft is what the target wants.
use Rattle.std.proofs.Common.{ℕ, zero, suc, ◌+◌, ◌≡◌, ◌<◌, ◌≤◌, ◌⊎◌, ◌||◌, eqb, Bool, true, false, cond, List}
use Rattle.std.proofs.Common.{[], ◌∷◌, ◌++◌, length, Some, None, refl, sym, ap, ◌∙◌, subst, inl, inr, arith}
use Rattle.std.proofs.Common.{eq-eqb, ne_eqb}
use Rattle.std.proofs.lemmas.Bool.{cases_Bool, cases_eq, both_ways}
use Rattle.ws_isa.specs.declared.instr.Op.{Op}
use Rattle.ws_isa.specs.declared.instr.Op.TheVariants.{Send}
use Rattle.ws_isa.specs.declared.instr.Dest.{Dest}
use Rattle.ws_isa.specs.Image as image
use Rattle.ws_isa.specs.Image.{Image, Instr, Array, instr_at, block_at, first_number, edge_of, edge_dests}
use Rattle.ws_isa.specs.Image.{pad_of, leave_to, landing_of, target, IsIn}
use Rattle.ws_isa.specs.Sound.{HasDest, edge_all, opens_at}
use Rattle.wave_gen.specs.Waits.{DistinctDests, Code, starts, Arrives, went_past, was_sent}
use Rattle.wave_gen.specs.Wire.{Target, dests_of, WiredInstr, Wants}
use Rattle.wave_gen.specs.Plans.{HowLeft, Onto, Either, Lands, Plan, same_spot, same_spots, differing}
use Rattle.wave_gen.specs.Plans.{steered, is_among, past, Tail, TailAt, steer_of, steers, sends, fronts}
use Rattle.wave_gen.specs.Plans.{plan_at, starts_at, begins, tails_of, end_wants, pads_of, draft_of, code_of}
use Rattle.wave_gen.specs.Plans.{exit_of, source_of, filled, next_of, instr_of}
use Rattle.wave_gen.proofs.Planning.SteeredNames.{or_apart, in_or}
use Rattle.wave_gen.proofs.Waits.Turns.{none_of}
use Rattle.wave_gen.proofs.Planning.Planned.{Apart, AllIn, PadsFit, PlansAre, Outer}
use Rattle.wave_gen.proofs.Waits.Ends.{Clean, owner_has, owner_from}
use Rattle.wave_gen.proofs.Waits.Fronts.{in_nth, nth_in, in_or_not, FrontIs, front_is}
use Rattle.wave_gen.proofs.Drawing.Blocks.{Facts, facts, Fine, end_clean, starts_outer}
use Rattle.wave_gen.proofs.Waits.Flow.{Wanted}
use Rattle.wave_gen.proofs.Drawing.Starts.{starts_has, starts_all}
use Rattle.wave_gen.proofs.Drawing.TailLines.{is_tail_op, TailInstr, tail_instr, tail_at, IsTail, is_tail}
use Rattle.wave_gen.proofs.Drawing.Number.{block_at_is}
use Rattle.ws_words.proofs.Numbers.{eqb_is}
use Rattle.ws_words.proofs.Bools.{and_parts as and_both, or_comes as or_cases}
use Rattle.ws_isa.proofs.Slots.{has_append_cases}
use Rattle.ws_isa.proofs.Steps.{first_up as next_first}
use Rattle.ws_words.specs.Items.{nth, In}
use Rattle.ws_words.proofs.Places.{nth_short}

edge_none : (image : Image) (b r : ℕ) (i : Instr) (op : Op) → is_tail_op op ≡ false
    → edge_of image b r i op ≡ []
edge_none image b r i op e = grind (arith, both_ways)

pub empty_distinct : (ds : List Dest) → ((j q : ℕ) → HasDest ds j q → ⊥) → DistinctDests ds
empty_distinct [] n = tt
empty_distinct (d ∷ ds) n = absurd (n d.instr d.port (inl (refl, refl)))

distinct_append : (ds es : List Dest) → DistinctDests ds → DistinctDests es
    → ((j q : ℕ) → HasDest ds j q → HasDest es j q → ⊥) → DistinctDests (ds ++ es)
distinct_append [] es a b n = b
distinct_append (d ∷ ds) es a b n =
    grind (arith, has_append_cases, distinct_append ds es a.1 b (λ j q g. n j q (inr g)))

-- lists of the instructions of a block that have nothing in common
edges_distinct : (image : Image) (b r k n : ℕ)
    → ((m : ℕ) → k ≤ m → m < k + n → DistinctDests (edge_dests image b r m)) →
    ((m l j q : ℕ) → k ≤ m → m < k + n → k ≤ l → l < k + n → HasDest (edge_dests image b r m) j q
    → HasDest (edge_dests image b r l) j q → m ≡ l) → DistinctDests (edge_all image b r k n)
edges_distinct image b r k zero d s = tt
edges_distinct image b r k (suc n) d s = distinct_append (edge_dests image b r k)
    (edge_all image b r (suc k) n) (d k (omega arith) (omega arith))
    (edges_distinct image b r (suc k) n (λ m l u. d m (omega arith) (omega arith))
    (λ m l j q a c e f g h. s m l j q (omega arith) (omega arith) (omega arith) (omega arith) g h))
    (λ j q g h. apart j q g h)
  where
    apart : (j q : ℕ) → HasDest (edge_dests image b r k) j q → HasDest (edge_all image b r (suc k) n) j q → ⊥
    apart j q g h = let f = Rattle.ws_isa.proofs.Slots.edge_all_from image b r (suc k) n j q h in
        grind (arith, f.source)

-- lists of spots that are told apart
spot_eq : (p q : Target) → same_spot p q ≡ true → p ≡ q
spot_eq p q e = grind (arith, and_both, eqb_is, both_ways)

spots_eq : (l m : List Target) → same_spots l m ≡ true → l ≡ m
spots_eq (p ∷ l) (q ∷ m) e = let a = and_both (same_spot p q) (same_spots l m) e in
    ap (λ (x : Target). x ∷ l) (spot_eq p q a.0) ∙ ap (λ (r : List Target). q ∷ r) (spots_eq l m a.1)
spots_eq l m e = grind (arith, both_ways)

pub among_in : (x : ℕ) (xs : List ℕ) → is_among x xs ≡ true → In x xs
among_in x [] e = absurd (both_ways false refl e)
among_in x (y ∷ xs) e = elim (or_cases (eqb x y) (is_among x xs) e) [
  | inl h ↦ inl (eqb_is x y h)
  | inr h ↦
      inr (among_in x xs h)
]

pub in_among : (x : ℕ) (xs : List ℕ) → In x xs → is_among x xs ≡ true
in_among x [] h = absurd h
in_among x (y ∷ xs) (inl e) = rw (eq-eqb x y e) refl
in_among x (y ∷ xs) (inr h) = right (eqb x y) (is_among x xs) (in_among x xs h)
  where
    right : (f g : Bool) → g ≡ true → (f || g) ≡ true
    right f g e = grind arith

-- names that differ, each once
differing_has : (w v : Wants) (x n y : ℕ) → x ≤ y → y < x + n → same_spots (w y) (v y) ≡ false
    → In y (differing w v x n)
differing_has w v x zero y l u e = absurd (omega arith)
differing_has w v x (suc n) y l u e = go (cases_Bool (same_spots (w x) (v x))) (cases_eq y x)
    (λ m. differing_has w v (suc x) n y (omega arith) (omega arith) e)
  where
    go : (same_spots (w x) (v x) ≡ true) ⊎ (same_spots (w x) (v x) ≡ false) → (y ≡ x) ⊎ (y ≡ x → ⊥)
        → ((y ≡ x → ⊥) → In y (differing w v (suc x) n)) → In y (differing w v x (suc n))
    go h p ih = grind (arith, both_ways)

differing_low : (w v : Wants) (x n y : ℕ) → In y (differing w v x n) → x ≤ y
differing_low w v x zero y h = absurd h
differing_low w v x (suc n) y h = go (cases_Bool (same_spots (w x) (v x))) (differing_low w v (suc x) n y)
  where
    go : (same_spots (w x) (v x) ≡ true) ⊎ (same_spots (w x) (v x) ≡ false)
        → (In y (differing w v (suc x) n) → suc x ≤ y) → x ≤ y
    go (inl f) ih = let l : suc x ≤ y = ih (rw f at h) in omega arith
    go (inr f) ih = elim (rw f at h) [
      | inl e ↦ omega arith
      | inr g ↦
          (let l : suc x ≤ y = ih g in omega arith)
    ]

differing_apart : (w v : Wants) (x n : ℕ) → Apart (differing w v x n)
differing_apart w v x zero = tt
differing_apart w v x (suc n) = go (cases_Bool (same_spots (w x) (v x))) (differing_apart w v (suc x) n)
  where
    go : (same_spots (w x) (v x) ≡ true) ⊎ (same_spots (w x) (v x) ≡ false) → Apart (differing w v (suc x) n)
        → Apart (differing w v x (suc n))
    go h ih = grind (arith, differing_low)

pub steered_apart : (width : ℕ) (w v : Wants) → Apart (steered width w v)
steered_apart width w v = or_apart (differing w v 0 width) (differing_apart w v 0 width)

steers_nth : (w v : Wants) (xs : List ℕ) (i x : ℕ) → nth xs i ≡ Some x
    → nth (steers w v xs) i ≡ Some (steer_of w v x)
steers_nth w v (y ∷ xs) (suc i) x e = steers_nth w v xs i x e
steers_nth w v xs i x e = grind arith

steers_from : (w v : Wants) (xs : List ℕ) (i : ℕ) (t : Tail) → nth (steers w v xs) i ≡ Some t
    → (x : ℕ) × (nth xs i ≡ Some x) × (steer_of w v x ≡ t)
steers_from w v [] i t e = absurd (let a : None ≡ Some t = e in cc)
steers_from w v (y ∷ xs) zero t e = (y, refl, (let g : steer_of w v y ≡ t = cc in g))
steers_from w v (y ∷ xs) (suc i) t e = steers_from w v xs i t e

pub nth_apart : (xs : List ℕ) (i j x : ℕ) → Apart xs → nth xs i ≡ Some x → nth xs j ≡ Some x → i ≡ j
nth_apart (y ∷ xs) (suc i) (suc j) x a e f = ap suc (nth_apart xs i j x a.1 e f)
nth_apart xs i j x a e f = grind (arith, in_nth)

module _ (arrays : List Array) (width : ℕ) (ps : List Plan) (Live : ℕ → ℕ → Type 0)
    (plans : PlansAre ps width Live) where
  abbrev I : Image
  I = draft_of arrays width ps

  abbrev C : Code
  C = code_of width ps

  abbrev Is : ℕ → Type 0
  Is b = (1 ≤ b) × (b ≤ length ps)

  abbrev F : ℕ → ℕ
  F = begins width ps

  abbrev S : ℕ → Wants
  S = starts_at width ps

  has : (b : ℕ) → Is b → (x j q : ℕ) → HasDest (dests_of F (S b x)) j q → starts I C b j q ≡ Some x
  has = starts_has arrays width ps Live plans

  all : (b : ℕ) → Is b → (x j q : ℕ) → starts I C b j q ≡ Some x → HasDest (dests_of F (S b x)) j q
  all = starts_all arrays width ps Live plans

  -- a slot waits for one name
  one_name : (b : ℕ) → Is b → (x y j q : ℕ) → HasDest (dests_of F (S b x)) j q
      → HasDest (dests_of F (S b y)) j q → x ≡ y
  one_name b h x y j q d e = let a : Some x ≡ Some y = sym (has b h x j q d) ∙ has b h y j q e in cc

  module _ (b : ℕ) (h : Is b) where
    later : (c : ℕ) → b < c → c ≤ length ps → Facts width ps Live plans.each c
    later c m k = facts width ps Live plans.each c (omega (arith, h.0), k)

    clean : Clean F (Fine width ps) (F (suc b)) width (end_wants width S (plan_at ps b).exit)
    clean = end_clean width ps Live plans.each b h later

    ends_has : (x j q : ℕ) → HasDest (dests_of F (end_wants width S (plan_at ps b).exit x)) j q
        → C.ends b j q ≡ Some x
    unfolding code_of
    ends_has x j q d = grind (arith, owner_has, Fine, clean)

    ends_all : (x j q : ℕ) → C.ends b j q ≡ Some x
        → HasDest (dests_of F (end_wants width S (plan_at ps b).exit x)) j q
    unfolding code_of
    ends_all x j q e = owner_from F width (end_wants width S (plan_at ps b).exit) j q x e

    pub ends_none : (j q : ℕ) → ((x : ℕ) → HasDest (dests_of F (end_wants width S (plan_at ps b).exit x)) j q
        → ⊥) → C.ends b j q ≡ None
    ends_none j q n = none_of (C.ends b j q) (λ x e. n x (ends_all x j q e))

    pub exit_is : (block_at I b).exit ≡ exit_of (source_of width ps b) (plan_at ps b).exit
    exit_is = ap (λ (k : image.Block). k.exit) (block_at_is arrays width ps b h)

    pub target_is : (e : HowLeft) → (plan_at ps b).exit ≡ e → (r : ℕ)
        → target I b r ≡ leave_to (exit_of (source_of width ps b) e) r
    unfolding target
    target_is e q r = ap (λ (x : image.Exit). leave_to x r) (exit_is ∙ ap (exit_of (source_of width ps b)) q)

    pub next_is : (e : HowLeft) → (plan_at ps b).exit ≡ e → (r x : ℕ) (env : ℕ → ℕ)
        → C.next b r env x ≡ next_of ps e r env x
    unfolding code_of
    next_is e q r x env = ap (λ (l : HowLeft). next_of ps l r env x) q

    kept_tail : (m x : ℕ) → TailAt (F (suc b)) m x (tails_of width S (plan_at ps b).exit) → C.Kept b m x
    unfolding code_of
    kept_tail m x t = inr t

    -- what is sent along an edge is a tail's
    edge_tail : (r m j q : ℕ) → IsIn I b m → HasDest (edge_dests I b r m) j q
        → IsTail arrays width ps Live plans.each b h m
    unfolding edge_dests
    edge_tail r m j q i d = grind (arith, cases_Bool, is_tail_op, is_tail, edge_none)

    tail_edge : (r m : ℕ) (line : WiredInstr) → instr_at I m ≡ instr_of F line
        → edge_dests I b r m ≡ edge_of I b r (instr_of F line) line.op
    unfolding edge_dests
    tail_edge r m line e = ap (λ (i : Instr). edge_of I b r i i.op) e

    pub block_size : (m : ℕ) → first_number I b ≤ m → m < first_number I b + image.size_of I b
        → m < first_number I (suc b)
    unfolding image.size_of
    block_size m l u = let a : first_number I b ≤ first_number I (suc b) = next_first I b in omega arith

    -- a list of an edge has no repeats
    one_distinct : (r m : ℕ) → ((j q : ℕ) → HasDest (edge_dests I b r m) j q
        → DistinctDests (edge_dests I b r m)) → DistinctDests (edge_dests I b r m)
    one_distinct r m f = go (edge_dests I b r m) refl
      where
        go : (l : List Dest) → edge_dests I b r m ≡ l → DistinctDests (edge_dests I b r m)
        go [] e = rw e tt
        go (d ∷ ds) e = f d.instr d.port (rw e (inl (refl, refl)))

    -- one edge, which all wants go past
    module _ (c : ℕ) (q0 : (plan_at ps b).exit ≡ Onto c) (hc : Is c) where
      pub onto_target : (r : ℕ) → target I b r ≡ c
      onto_target r = target_is (Onto c) q0 r

      end_is : (x : ℕ) → end_wants width S (plan_at ps b).exit x ≡ S c x
      end_is x = ap (λ (l : HowLeft). end_wants width S l x) q0

      no_tail : (m : ℕ) → IsTail arrays width ps Live plans.each b h m → ⊥
      no_tail m t = grind arith

      pub onto_arrives : (r j q x : ℕ) → starts I C (target I b r) j q ≡ Some x → Arrives I C b r j q x
      onto_arrives r j q x e =
          went_past
          (ends_has x j q (subst (λ (l : List Target). HasDest (dests_of F l) j q) (sym (end_is x))
          (all c hc x j q (subst (λ (t : ℕ). starts I C t j q ≡ Some x) (onto_target r) e))))
          (λ env. next_is (Onto c) q0 r x env)

      pub onto_past : (r j q x : ℕ) → C.ends b j q ≡ Some x
          → (y : ℕ) × (starts I C (target I b r) j q ≡ Some y)
      onto_past r j q x e = (
        x,
        subst (λ (t : ℕ). starts I C t j q ≡ Some x) (sym (onto_target r))
            (has c hc x j q (subst (λ (l : List Target). HasDest (dests_of F l) j q) (end_is x)
            (ends_all x j q e))),
      )

      pub onto_sent : (r m j q : ℕ) → IsIn I b m → HasDest (edge_dests I b r m) j q → ⊥
      onto_sent r m j q i d = no_tail m (edge_tail r m j q i d)

    -- two edges
    module _ (op : Op) (from : List ℕ) (c d : ℕ) (q0 : (plan_at ps b).exit ≡ Either op from c d) (hc : Is c)
        (hd : Is d) where
      arm_is : (r : ℕ) → Is (cond (eqb r 0) d c)
      arm_is r = grind arith

      pub either_target : (r : ℕ) → target I b r ≡ cond (eqb r 0) d c
      either_target r = target_is (Either op from c d) q0 r

      xs : List ℕ
      xs = steered width (S c) (S d)

      tails_are : tails_of width S (plan_at ps b).exit ≡ steers (S c) (S d) (steered width (S c) (S d))
      tails_are = ap (tails_of width S) q0

      past_end_is : (x : ℕ) → end_wants width S (plan_at ps b).exit x ≡ past (steered width (S c) (S d)) (S c)
          x
      past_end_is x = ap (λ (l : HowLeft). end_wants width S l x) q0

      -- a steer sends to what its arm wants
      steer_sends : (r m x : ℕ) → instr_at I m ≡ instr_of F (steer_of (S c) (S d) x).line
          → edge_dests I b r m ≡ dests_of F (S (cond (eqb r 0) d c) x)
      steer_sends r m x e = tail_edge r m (steer_of (S c) (S d) x).line e ∙ go (eqb r 0)
        where
          go : (f : Bool) → cond f (dests_of F (S d x)) (dests_of F (S c x)) ≡ dests_of F (S (cond f d c) x)
          go f = grind arith

      -- names that aren't steered are wanted alike
      alike : (x : ℕ) → (In x (steered width (S c) (S d)) → ⊥) → Wanted (S c) x ⊎ Wanted (S d) x
          → S c x ≡ S d x
      alike x n w = elim (cases_Bool (same_spots (S c x) (S d x))) [
        | inl e ↦ spots_eq (S c x) (S d x) e
        | inr e ↦
            absurd (n
            (in_or (differing (S c) (S d) 0 width) x (differing_has (S c) (S d) 0 width x (omega arith)
            (few x w) e)))
      ]
        where
          few : (x : ℕ) → Wanted (S c) x ⊎ Wanted (S d) x → x < 0 + width
          few x (inl w) = let l : x < width =
              ((facts width ps Live plans.each c hc).clean 0 (omega arith)).few x w in omega arith
          few x (inr w) = let l : x < width =
              ((facts width ps Live plans.each d hd).clean 0 (omega arith)).few x w in omega arith

      wanted_by : (t x j q : ℕ) → HasDest (dests_of F (S t x)) j q → Wanted (S t) x
      wanted_by t x j q g e = rw e at g

      arm_wants : (r x j q : ℕ) → (In x (steered width (S c) (S d)) → ⊥)
          → HasDest (dests_of F (S (cond (eqb r 0) d c) x)) j q → HasDest (dests_of F (S c x)) j q
      arm_wants r x j q n g = grind (arith, alike, wanted_by)

      wants_arm : (r x j q : ℕ) → (In x (steered width (S c) (S d)) → ⊥) → HasDest (dests_of F (S c x)) j q
          → HasDest (dests_of F (S (cond (eqb r 0) d c) x)) j q
      wants_arm r x j q n g = grind (arith, alike, wanted_by)

      not_among : (x : ℕ) → (In x (steered width (S c) (S d)) → ⊥) → past (steered width (S c) (S d)) (S c) x
          ≡ S c x
      not_among x n = go (cases_Bool (is_among x (steered width (S c) (S d))))
        where
          go : (is_among x (steered width (S c) (S d)) ≡ true)
              ⊎ (is_among x (steered width (S c) (S d)) ≡ false) → past (steered width (S c) (S d)) (S c) x
              ≡ S c x
          go (inl e) = absurd (n (among_in x (steered width (S c) (S d)) e))
          go (inr e) = rw e refl

      pub either_arrives : (r j q x : ℕ) → starts I C (target I b r) j q ≡ Some x → Arrives I C b r j q x
      either_arrives r j q x e = elim (in_or_not (steered width (S c) (S d)) x) [
        | inr n ↦
            went_past
            (ends_has x j q (rw (past_end_is x ∙ not_among x n) (arm_wants r x j q n at_arm)))
            (λ env. next_is (Either op from c d) q0 r x env)
        | inl i ↦ (let k = nth_in (steered width (S c) (S d)) x i in
            let a : nth (tails_of width S (plan_at ps b).exit) k.0 ≡ Some (steer_of (S c) (S d) x) =
            rw tails_are (steers_nth (S c) (S d) (steered width (S c) (S d)) k.0 x k.1) in
            let t = tail_instr arrays width ps Live plans.each b h k.0 (steer_of (S c) (S d) x) a in
            was_sent t.instr x t.inside (rw (steer_sends r t.instr x t.is) at_arm)
            (kept_tail t.instr x (tail_at arrays width ps Live plans.each b h k.0 (steer_of (S c) (S d) x) a))
            (λ env. next_is (Either op from c d) q0 r x env))
      ]
        where
          at_arm : HasDest (dests_of F (S (cond (eqb r 0) d c) x)) j q
          at_arm = grind (arith, all, arm_is, either_target)

      past_not : (x j q : ℕ) → HasDest (dests_of F (past (steered width (S c) (S d)) (S c) x)) j q
          → (In x (steered width (S c) (S d)) → ⊥) × HasDest (dests_of F (S c x)) j q
      past_not x j q g = grind (arith, cases_Bool, both_ways, in_among)

      end_past : (j q x : ℕ) → C.ends b j q ≡ Some x → (In x (steered width (S c) (S d)) → ⊥)
          × HasDest (dests_of F (S c x)) j q
      end_past j q x e =
          past_not x j q (subst (λ (l : List Target). HasDest (dests_of F l) j q) (past_end_is x)
          (ends_all x j q e))

      pub either_past : (r j q x : ℕ) → C.ends b j q ≡ Some x → (y : ℕ)
          × (starts I C (target I b r) j q ≡ Some y)
      either_past r j q x e = let p = end_past j q x e in (
        x,
        subst (λ (t : ℕ). starts I C t j q ≡ Some x) (sym (either_target r))
            (has (cond (eqb r 0) d c) (arm_is r) x j q (wants_arm r x j q p.0 p.1)),
      )

      record Steers (r m j q : ℕ) : Type 0 where
        pub name : ℕ
        pub place : ℕ
        pub at : nth (steered width (S c) (S d)) place ≡ Some name
        pub wants : HasDest (dests_of F (S (cond (eqb r 0) d c) name)) j q
        pub list : edge_dests I b r m ≡ dests_of F (S (cond (eqb r 0) d c) name)
        pub number : m + length (tails_of width S (plan_at ps b).exit) ≡ F (suc b) + place

      steers_it : (r m j q : ℕ) → IsIn I b m → HasDest (edge_dests I b r m) j q → Steers r m j q
      steers_it r m j q i g = grind (arith, edge_tail, steers_from, tails_are, steer_sends)

      pub either_sent : (r m j q : ℕ) → IsIn I b m → HasDest (edge_dests I b r m) j q
          → (C.ends b j q ≡ None) × ((y : ℕ) × (starts I C (target I b r) j q ≡ Some y))
      either_sent r m j q i g =
          let s = steers_it r m j q i g in (
            ends_none j q
                (λ x f. (let p = past_not x j q (rw (past_end_is x) at f) in
                let e : x ≡ s.name = one_name (cond (eqb r 0) d c) (arm_is r) x s.name j q
                (wants_arm r x j q p.0 p.1) s.wants in
                p.0 (rw e (in_nth (steered width (S c) (S d)) s.place s.name s.at)))),
            (
              s.name,
              rw (either_target r) (has (cond (eqb r 0) d c) (arm_is r) s.name j q s.wants),
            ),
          )

      pub either_once : (r : ℕ) → DistinctDests (opens_at I b r)
      unfolding opens_at
      either_once r = edges_distinct I b r (first_number I b) (image.size_of I b) one two
        where
          in_block : (m : ℕ) → first_number I b ≤ m → m < first_number I b + image.size_of I b → IsIn I b m
          in_block m l u = (l, size_in m l u)
            where
              size_in : (m : ℕ) → first_number I b ≤ m → m < first_number I b + image.size_of I b
                  → m < first_number I (suc b)
              size_in m l u = block_size m l u

          one : (m : ℕ) → first_number I b ≤ m → m < first_number I b + image.size_of I b
              → DistinctDests (edge_dests I b r m)
          one m l u = one_distinct r m (λ j q g. (let s = steers_it r m j q (in_block m l u) g in
              rw s.list
              (((facts width ps Live plans.each (cond (eqb r 0) d c) (arm_is r)).clean 0
              (omega arith)).once s.name)))

          two : (m k j q : ℕ) → first_number I b ≤ m → m < first_number I b + image.size_of I b
              → first_number I b ≤ k → k < first_number I b + image.size_of I b
              → HasDest (edge_dests I b r m) j q → HasDest (edge_dests I b r k) j q → m ≡ k
          two m k j q l u l' u' g g' =
              let s = steers_it r m j q (in_block m l u) g in let t = steers_it r k j q (in_block k l' u')
              g' in
              let e : s.name ≡ t.name = one_name (cond (eqb r 0) d c) (arm_is r) s.name t.name j q s.wants
              t.wants in
              let f : s.place ≡ t.place = nth_apart (steered width (S c) (S d)) s.place t.place t.name
              (steered_apart width (S c) (S d)) (s.at ∙ ap Some e) t.at in
              let n : m + length (tails_of width S (plan_at ps b).exit) ≡ F (suc b) + s.place = s.number in
              let n' : k + length (tails_of width S (plan_at ps b).exit) ≡ F (suc b) + t.place = t.number in
              omega arith

    -- landings
    module _ (op : Op) (from values landings : List ℕ) (q0 : (plan_at ps b).exit ≡ Lands op from values
        landings) (some : 1 ≤ length landings)
        (ok : AllIn landings (λ c. Outer ps c × PadsFit ps values c)) where
      landing_in : (ls : List ℕ) (r : ℕ) → 1 ≤ length ls → AllIn ls (λ c. Outer ps c × PadsFit ps values c)
          → Outer ps (landing_of ls r) × PadsFit ps values (landing_of ls r)
      landing_in (c ∷ d ∷ ls) (suc r) l a = landing_in (d ∷ ls) r (omega arith) a.1
      landing_in ls r l a = grind arith

      pub lands_target : (r : ℕ) → target I b r ≡ landing_of landings r
      lands_target r = target_is (Lands op from values landings) q0 r

      outer : (r : ℕ) → Outer ps (landing_of landings r)
      outer r = (landing_in landings r some ok).0

      fit : (r : ℕ) → PadsFit ps values (landing_of landings r)
      fit r = (landing_in landings r some ok).1

      land_is : (r : ℕ) → Is (landing_of landings r)
      land_is r = ((outer r).some, (outer r).there)

      pub lands_none : (j q : ℕ) → C.ends b j q ≡ None
      lands_none j q = grind (arith, ends_none)

      pads_nth : (c i k : ℕ) (entries xs : List ℕ) (x : ℕ) → nth xs i ≡ Some x
          → pad_of (pads_of F c k entries xs) (k + i) ≡ dests_of F (fronts c 0 entries x)
      pads_nth c i k entries [] x e = absurd (let a : None ≡ Some x = e in cc)
      pads_nth c zero k entries (y ∷ xs) x e = grind arith
      pads_nth c (suc i) k entries (y ∷ xs) x e = grind (arith, pads_nth c i (suc k) entries xs x e)

      sends_nth : (p : ℕ) (vs : List ℕ) (i v : ℕ) → nth vs i ≡ Some v
          → nth (sends p vs) i ≡ Some
          (record { held = v; line = record { op = Send (p + i); dests = []; others = [] } })
      sends_nth p [] i v e = absurd (let a : None ≡ Some v = e in cc)
      sends_nth p (u ∷ vs) zero v e = grind arith
      sends_nth p (u ∷ vs) (suc i) v e = grind (arith, sends_nth (suc p) vs i v e)

      sends_from : (p : ℕ) (vs : List ℕ) (i : ℕ) (t : Tail) → nth (sends p vs) i ≡ Some t
          → (v : ℕ) × (nth vs i ≡ Some v)
          × (record { held = v; line = record { op = Send (p + i); dests = []; others = [] } } ≡ t)
      sends_from p [] i t e = absurd (let a : None ≡ Some t = e in cc)
      sends_from p (u ∷ vs) zero t e = let z : p + 0 ≡ p = omega arith in (
        u,
        refl,
        rw z (let g : record { held = u; line = record { op = Send p; dests = []; others = [] } }
            ≡ t = cc in g),
      )
      sends_from p (u ∷ vs) (suc i) t e = grind (arith, sends_from (suc p) vs i t e)

      -- a send sends to the entry that its pad fills
      send_list : (r m i v x : ℕ)
          → instr_at I m ≡ instr_of F (record { op = Send (0 + i); dests = []; others = [] })
          → nth (plan_at ps (landing_of landings r)).pads i ≡ Some x
          → edge_dests I b r m ≡ dests_of F (S (landing_of landings r) x)
      send_list r m i v x e p = tail_edge r m (record { op = Send (0 + i); dests = []; others = [] }) e
          ∙ ap (λ (k : ℕ). pad_of (block_at I k).pads (0 + i)) (lands_target r)
          ∙ ap (λ (k : image.Block). pad_of k.pads (0 + i))
          (block_at_is arrays width ps (landing_of landings r) (land_is r))
          ∙ pads_nth (landing_of landings r) i 0 (plan_at ps (landing_of landings r)).entries
          (plan_at ps (landing_of landings r)).pads x p
          ∙ sym (ap (dests_of F)
          (ap (λ (w : Wants). w x) (starts_outer width ps (landing_of landings r) (outer r).first)))

      tails_are' : tails_of width S (plan_at ps b).exit ≡ sends 0 values
      tails_are' = ap (tails_of width S) q0

      some_value : (xs : List ℕ) (i : ℕ) → i < length xs → (x : ℕ) × (nth xs i ≡ Some x)
      some_value [] i l = absurd (omega arith)
      some_value (x ∷ xs) zero l = (x, refl)
      some_value (x ∷ xs) (suc i) l = some_value xs i (omega arith)

      filled_at : (ys vs : List ℕ) (env : ℕ → ℕ) (i x v : ℕ) → Apart ys → nth ys i ≡ Some x
          → nth vs i ≡ Some v → filled ys vs env x ≡ env v
      filled_at (y ∷ ys) (u ∷ vs) env (suc i) x v a e f =
          rw (ne_eqb x y (λ g. a.0 (rw (sym g) (in_nth ys i x e)))) (filled_at ys vs env i x v a.1 e f)
      filled_at ys vs env i x v a e f = grind arith

      pub lands_arrives : (r j q x : ℕ) → starts I C (target I b r) j q ≡ Some x → Arrives I C b r j q x
      lands_arrives r j q x e = was_sent t.instr v.0 t.inside
          (subst (λ (l : List Dest). HasDest l j q) (sym (send_list r t.instr k.0 v.0 x t.is k.1)) at_land)
          (kept_tail t.instr v.0 (tail_at arrays width ps Live plans.each b h k.0
          (record { held = v.0; line = record { op = Send (0 + k.0); dests = []; others = [] } }) a))
          (λ env. next_is (Lands op from values landings) q0 r x env ∙ filled_at (plan_at ps c).pads values
          env k.0 x v.0 (fit r).apart k.1 v.1)
        where
          c : ℕ
          c = landing_of landings r

          at_land : HasDest (dests_of F (S (landing_of landings r) x)) j q
          at_land = all (landing_of landings r) (land_is r) x j q (grind (arith, lands_target))

          front : FrontIs F (landing_of landings r) (plan_at ps (landing_of landings r)).entries x j q
          front = front_is F (landing_of landings r) (plan_at ps (landing_of landings r)).entries x j q
              (plans.each (landing_of landings r) (land_is r)).entries_apart
              (subst (λ (l : List Target). HasDest (dests_of F l) j q)
              (ap (λ (w : Wants). w x) (starts_outer width ps (landing_of landings r) (outer r).first))
              at_land)

          k : (i : ℕ) × (nth (plan_at ps (landing_of landings r)).pads i ≡ Some x)
          k = nth_in (plan_at ps (landing_of landings r)).pads x
              ((fit r).filled x (in_nth (plan_at ps (landing_of landings r)).entries front.place x front.is))

          v : (v : ℕ) × (nth values k.0 ≡ Some v)
          v = some_value values k.0 (let l : k.0 < length (plan_at ps (landing_of landings r)).pads =
              nth_short (plan_at ps (landing_of landings r)).pads k.0 x k.1 in
              let n : length (plan_at ps (landing_of landings r)).pads ≡ length values = (fit r).as_many in
              omega arith)

          a : nth (tails_of width S (plan_at ps b).exit) k.0 ≡ Some
              (record { held = v.0; line = record { op = Send (0 + k.0); dests = []; others = [] } })
          a = subst
              (λ (ts : List Tail). nth ts k.0 ≡ Some
              (record { held = v.0; line = record { op = Send (0 + k.0); dests = []; others = [] } }))
              (sym tails_are') (sends_nth 0 values k.0 v.0 v.1)

          t : TailInstr arrays width ps Live plans.each b h k.0
              (record { held = v.0; line = record { op = Send (0 + k.0); dests = []; others = [] } })
          t = tail_instr arrays width ps Live plans.each b h k.0
              (record { held = v.0; line = record { op = Send (0 + k.0); dests = []; others = [] } }) a

      record SendsIt (r m j q : ℕ) : Type 0 where
        pub name : ℕ
        pub place : ℕ
        pub at : nth (plan_at ps (landing_of landings r)).pads place ≡ Some name
        pub wants : HasDest (dests_of F (S (landing_of landings r) name)) j q
        pub list : edge_dests I b r m ≡ dests_of F (S (landing_of landings r) name)
        pub number : m + length (tails_of width S (plan_at ps b).exit) ≡ F (suc b) + place

      sends_it : (r m j q : ℕ) → IsIn I b m → HasDest (edge_dests I b r m) j q → SendsIt r m j q
      sends_it r m j q i g =
          let t = edge_tail r m j q i g in
          let k = sends_from 0 values t.place t.tail (subst (λ (ts : List Tail). nth ts t.place ≡ Some t.tail)
          tails_are' t.at) in
          let n : length (plan_at ps (landing_of landings r)).pads ≡ length values = (fit r).as_many in
          let u : t.place < length values = nth_short values t.place k.0 k.1 in
          let x = some_value (plan_at ps (landing_of landings r)).pads t.place (omega arith) in
          let l : edge_dests I b r m ≡ dests_of F (S (landing_of landings r) x.0) =
          send_list r m t.place k.0 x.0 (t.is ∙ ap (λ (u : Tail). instr_of F u.line) (sym k.2)) x.1 in
          record {
            name = x.0;
            place = t.place;
            at = x.1;
            wants = subst (λ (ds : List Dest). HasDest ds j q) l
                g;
            list = l;
            number = t.number;
          }

      pub lands_sent : (r m j q : ℕ) → IsIn I b m → HasDest (edge_dests I b r m) j q
          → (y : ℕ) × (starts I C (target I b r) j q ≡ Some y)
      lands_sent r m j q i g = let s = sends_it r m j q i g in (
        s.name,
        subst (λ (t : ℕ). starts I C t j q ≡ Some s.name) (sym (lands_target r))
            (has (landing_of landings r) (land_is r) s.name j q s.wants),
      )

      pub lands_once : (r : ℕ) → DistinctDests (opens_at I b r)
      unfolding opens_at
      lands_once r = edges_distinct I b r (first_number I b) (image.size_of I b) one two
        where
          one : (m : ℕ) → first_number I b ≤ m → m < first_number I b + image.size_of I b
              → DistinctDests (edge_dests I b r m)
          one m l u = one_distinct r m (λ j q g. (let s = sends_it r m j q (l, block_size m l u) g in
              rw s.list
              (((facts width ps Live plans.each (landing_of landings r) (land_is r)).clean 0
              (omega arith)).once s.name)))

          two : (m k j q : ℕ) → first_number I b ≤ m → m < first_number I b + image.size_of I b
              → first_number I b ≤ k → k < first_number I b + image.size_of I b
              → HasDest (edge_dests I b r m) j q → HasDest (edge_dests I b r k) j q → m ≡ k
          two m k j q l u l' u' g g' =
              let s = sends_it r m j q (l, block_size m l u) g in let t =
              sends_it r k j q (l', block_size k l' u') g' in
              let e : s.name ≡ t.name = one_name (landing_of landings r) (land_is r) s.name t.name j q s.wants
              t.wants in
              let f : s.place ≡ t.place = nth_apart (plan_at ps (landing_of landings r)).pads s.place t.place
              t.name (fit r).apart (s.at ∙ ap Some e) t.at in
              let n : m + length (tails_of width S (plan_at ps b).exit) ≡ F (suc b) + s.place = s.number in
              let n' : k + length (tails_of width S (plan_at ps b).exit) ≡ F (suc b) + t.place = t.number in
              omega arith
