-- Code that waits keeps the slot rules on all paths.
use Rattle.std.proofs.Common.{ℕ, suc, ◌+◌, ◌≡◌, ◌<◌, ◌≤◌, ◌⊎◌, Bool, true, false, cond, ltb, List, [], ◌∷◌}
use Rattle.std.proofs.Common.{length, Option, Some, None, refl, sym, ap, ◌∙◌, inl, inr, arith, eq-eqb, ne_eqb}
use Rattle.std.proofs.Common.{is_some}
use Rattle.std.proofs.lemmas.Bool.{cases_Bool, cases_eq, cases_lt, both_ways, cond-true, cond-false, lt-ltb}
use Rattle.std.proofs.lemmas.Bool.{le-ltb}
use Rattle.ws_isa.specs.declared.instr.Op.{Op}
use Rattle.ws_isa.specs.Image.{Image, ports, ports_of, is_first, first_number, size_of, stops, target}
use Rattle.ws_isa.specs.Image.{now_dests, edge_dests, start_dests, IsIn, IsBlock}
use Rattle.ws_isa.specs.Sound.{OpenSlots, HasDest, none_open, all_opened, Fresh, closed, opens_at}
use Rattle.ws_isa.specs.Sound.{AdvancesOpen, SlotRules}
use Rattle.ws_isa.proofs.SlotCert.{Alike, SlotCert}
use Rattle.wave_gen.specs.Waits.{DistinctDests, Owner, Step, Fires, Rests, Skips, Copies, is_name, without}
use Rattle.wave_gen.specs.Waits.{with_ports, renamed, own, count, FiresAt, RestsAt, Stands, Code, starts}
use Rattle.wave_gen.specs.Waits.{Waits}
use Rattle.wave_gen.proofs.Waits.Slots.{has_or_not, distinct_fresh}
use Rattle.ws_isa.proofs.Certified.{slot_rules}
use Rattle.wave_gen.proofs.Waits.WalkShape.{WalkShape}
use Rattle.ws_isa.proofs.Slots.{all_opened_from, all_opened_has, all_opened_keeps, closed_cases}
use Rattle.ws_isa.proofs.Slots.{edge_all_from, edge_all_has}
use Rattle.ws_isa.proofs.Steps.{first_up}
use Rattle.ws_words.specs.Items.{nth}
use Rattle.ws_words.proofs.Places.{nth_there}

pub some_of : {A : Type 0} (o : Option A) → is_some o ≡ true → (x : A) × (o ≡ Some x)
some_of o e = grind (arith, both_ways)

pub none_of : {A : Type 0} (o : Option A) → ((x : A) → o ≡ Some x → ⊥) → o ≡ None
none_of o n = grind arith

-- owners
pub name_is : (x : ℕ) (o : Option ℕ) → is_name x o ≡ true → o ≡ Some x
name_is x o e = grind (arith, both_ways, cases_eq)

pub name_of : (x : ℕ) (o : Option ℕ) → o ≡ Some x → is_name x o ≡ true
name_of x o e = rw e (eq-eqb x x refl)

pub without_is : (x : ℕ) (o : Owner) (j q y : ℕ) → without x o j q ≡ Some y → (o j q ≡ Some y) × (x ≡ y → ⊥)
without_is x o j q y e = grind (arith, cases_Bool, cond-true, cond-false, both_ways, name_of)

pub without_keeps : (x : ℕ) (o : Owner) (j q y : ℕ) → o j q ≡ Some y → (x ≡ y → ⊥) → without x o j q ≡ Some y
without_keeps x o j q y e n = rw e (rw (ne_eqb x y n) refl)

pub without_drops : (x : ℕ) (o : Owner) (j q : ℕ) → o j q ≡ Some x → without x o j q ≡ None
without_drops x o j q e = rw e (rw (eq-eqb x x refl) refl)

pub ports_here : (k : ℕ) (from : List ℕ) (o : Owner) (q : ℕ) → with_ports k from o k q ≡ nth from q
ports_here k from o q = rw (eq-eqb k k refl) refl

pub ports_other : (k : ℕ) (from : List ℕ) (o : Owner) (j q : ℕ) → (j ≡ k → ⊥)
    → with_ports k from o j q ≡ o j q
ports_other k from o j q n = rw (ne_eqb j k n) refl

renamed_some : (x y : ℕ) (o : Owner) (j q : ℕ) → is_some (renamed x y o j q) ≡ is_some (o j q)
renamed_some x y o j q = grind (arith, cases_Bool, cond-true, name_is, cond-false)

-- what instruction k does to the open slots
pub record Turn (image : Image) (o p : Owner) (k : ℕ) : Type 0 where
  pub has : (q : ℕ) → q < ports image k → is_some (o k q) ≡ true
  pub lists : (j q : ℕ) → HasDest (now_dests image k) j q → is_some (p j q) ≡ true
  pub before : (j q : ℕ) → HasDest (now_dests image k) j q → (k ≡ j → ⊥) → is_some (o j q) ≡ false
  pub other : (j q : ℕ) → (HasDest (now_dests image k) j q → ⊥) → (k ≡ j → ⊥)
      → is_some (p j q) ≡ is_some (o j q)
  pub fresh : (q : ℕ) → is_some (p k q) ≡ false
  pub once : DistinctDests (now_dests image k)

-- the open slots before instruction k, where the first of these has number n
abbrev pub at : ℕ → List Step → Owner → ℕ → Owner
at n [] o k = o
at n (Fires x op from ∷ ss) o k = cond (ltb n k) (at (suc n) ss o k) (own n (Fires x op from ∷ ss) o)
at n (Rests op from ∷ ss) o k = cond (ltb n k) (at (suc n) ss o k) (own n (Rests op from ∷ ss) o)
at n (Skips x op from ∷ ss) o k = cond (ltb n k) (at n ss o k) (own n (Skips x op from ∷ ss) o)
at n (Copies x y ∷ ss) o k = cond (ltb n k) (at n ss o k) (own n (Copies x y ∷ ss) o)

pub at_here : (n : ℕ) (ss : List Step) (o : Owner) (k : ℕ) → k ≤ n → at n ss o k ≡ own n ss o
at_here n [] o k l = refl
at_here n (Fires x op from ∷ ss) o k l = grind (arith, cond-false, le-ltb)
at_here n (Rests op from ∷ ss) o k l = grind (arith, cond-false, le-ltb)
at_here n (Skips x op from ∷ ss) o k l = grind (arith, cond-false, le-ltb)
at_here n (Copies x y ∷ ss) o k l = grind (arith, cond-false, le-ltb)

abbrev pub Alike' : Owner → Owner → Type 0
Alike' o p = (j q : ℕ) → is_some (o j q) ≡ is_some (p j q)

module _ (image : Image) (b : ℕ) (Kept : ℕ → ℕ → Type 0) where
  -- the end
  pub stands_end : (n : ℕ) (ss : List Step) (o : Owner) → Stands image b Kept n ss o
      → n + count ss ≡ first_number image (suc b)
  stands_end n [] o s = let e : n ≡ first_number image (suc b) = s in omega arith
  stands_end n (Fires x op from ∷ ss) o s = grind (arith, stands_end (suc n) ss o s.1)
  stands_end n (Rests op from ∷ ss) o s = grind (arith, stands_end (suc n) ss o s.1)
  stands_end n (Skips x op from ∷ ss) o s = stands_end n ss o s.2
  stands_end n (Copies x y ∷ ss) o s = stands_end n ss o s.1

  pub at_end : (n : ℕ) (ss : List Step) (o : Owner) → Stands image b Kept n ss o
      → Alike' (at n ss o (first_number image (suc b))) o
  at_end n [] o s j q = refl
  at_end n (Fires x op from ∷ ss) o s j q = grind (arith, stands_end, lt-ltb, at_end (suc n) ss o s.1 j q)
  at_end n (Rests op from ∷ ss) o s j q = grind (arith, stands_end, lt-ltb, at_end (suc n) ss o s.1 j q)
  at_end n (Skips x op from ∷ ss) o s j q = grind (
    arith,
    cases_lt,
    lt-ltb,
    le-ltb,
    is_some,
    at_here,
    at_end n ss o s.2 j q,
  )
  at_end n (Copies x y ∷ ss) o s j q = grind (
    arith,
    cases_lt,
    lt-ltb,
    le-ltb,
    renamed_some,
    is_some,
    at_here,
    at_end n ss o s.1 j q,
  )

  -- how the open slots change at an instruction
  fires_turn : (n x : ℕ) (op : Op) (from : List ℕ) (p : Owner) → FiresAt image b Kept n x op from p
      → Turn image (with_ports n from (without x p)) p n
  unfolding ports
  fires_turn n x op from p f = record {
    has = λ q l. ap is_some (ports_here n from (without x p) q
        ∙ (nth_there from q (let e : length from ≡ ports_of op = f.ports in
        let e' : ports image n ≡ ports_of op = ap ports_of f.op_is in omega arith)).1);
    lists = λ j q h. ap is_some (f.lists j q h);
    before = grind (arith, is_some, ports_other, without_drops, f.lists);
    other = other;
    fresh = λ q. ap is_some (f.fresh q);
    once = f.once;
  }
    where
      other : (j q : ℕ) → (HasDest (now_dests image n) j q → ⊥) → (n ≡ j → ⊥)
          → is_some (p j q) ≡ is_some (with_ports n from (without x p) j q)
      other j q no' nj = go (cases_Bool (is_name x (p j q)))
        where
          here : with_ports n from (without x p) j q ≡ without x p j q
          here = ports_other n from (without x p) j q (λ e. nj (sym e))

          go : (is_name x (p j q) ≡ true) ⊎ (is_name x (p j q) ≡ false)
              → is_some (p j q) ≡ is_some (with_ports n from (without x p) j q)
          go h = grind (arith, name_is, here, cond-false)

  rests_turn : (n : ℕ) (op : Op) (from : List ℕ) (p : Owner) → RestsAt image Kept n op from p
      → Turn image (with_ports n from p) p n
  unfolding ports
  rests_turn n op from p f = record {
    has = λ q l.
        ap is_some
        (ports_here n from p q
        ∙ (nth_there from q (let e : length from ≡ ports_of op = f.ports in
        let e' : ports image n ≡ ports_of op = ap ports_of f.op_is in omega arith)).1);
    lists = λ j q h. absurd (rw f.none at h);
    before = λ j q h n'. absurd (rw f.none at h);
    other = grind (arith, is_some, ports_other);
    fresh = λ q. ap is_some (f.fresh q);
    once = rw f.none tt;
  }

  alike_turn : (o o' p : Owner) (k : ℕ) → Alike' o o' → Turn image o' p k → Turn image o p k
  alike_turn o o' p k a t = grind arith

  owner_alike : (f g : Owner) → f ≡ g → Alike' f g
  owner_alike f g e j q = ap (λ (h : Owner). is_some (h j q)) e

  -- one instruction of the block
  pub turn_at : (n : ℕ) (ss : List Step) (o : Owner) → Stands image b Kept n ss o → (k : ℕ) → n ≤ k
      → k < n + count ss → Turn image (at n ss o k) (at n ss o (suc k)) k
  turn_at n [] o s k l u = absurd (omega arith)
  turn_at n (Fires x op from ∷ ss) o s k l u = elim (cases_lt n k) [
    | inl m ↦ rw (lt-ltb n k m, lt-ltb n (suc k) (omega arith)) (turn_at (suc n) ss o s.1 k m (omega arith))
    | inr m ↦ (let e : n ≡ k = omega arith in rw (sym e) (here refl))
  ]
    where
      here : n ≡ n → Turn image (at n (Fires x op from ∷ ss) o n) (at n (Fires x op from ∷ ss) o (suc n)) n
      here e = rw (
        le-ltb n n (omega arith),
        lt-ltb n (suc n) (omega arith),
        at_here (suc n) ss o (suc n) (omega arith),
      ) (fires_turn n x op from (own (suc n) ss o) s.0)
  turn_at n (Rests op from ∷ ss) o s k l u = elim (cases_lt n k) [
    | inl m ↦ rw (lt-ltb n k m, lt-ltb n (suc k) (omega arith)) (turn_at (suc n) ss o s.1 k m (omega arith))
    | inr m ↦ (let e : n ≡ k = omega arith in rw (sym e) (here refl))
  ]
    where
      here : n ≡ n → Turn image (at n (Rests op from ∷ ss) o n) (at n (Rests op from ∷ ss) o (suc n)) n
      here e = rw (
        le-ltb n n (omega arith),
        lt-ltb n (suc n) (omega arith),
        at_here (suc n) ss o (suc n) (omega arith),
      ) (rests_turn n op from (own (suc n) ss o) s.0)
  turn_at n (Skips x op from ∷ ss) o s k l u = elim (cases_lt n k) [
    | inl m ↦ grind (arith, lt-ltb, turn_at n ss o s.2 k l u)
    | inr m ↦ grind (arith, le-ltb, lt-ltb, alike_turn, owner_alike, at_here, turn_at n ss o s.2 k l u)
  ]
  turn_at n (Copies x y ∷ ss) o s k l u = elim (cases_lt n k) [
    | inl m ↦ grind (arith, lt-ltb, turn_at n ss o s.1 k l u)
    | inr m ↦ (let e : n ≡ k = omega arith in rw (le-ltb n k m, lt-ltb n (suc k) (omega arith))
        (alike_turn (renamed x y (own n ss o)) (at n ss o k) (at n ss o (suc k)) k
        (λ j q. renamed_some x y (own n ss o) j q ∙ owner_alike (own n ss o) (at n ss o k)
        (sym (at_here n ss o k m)) j q) (turn_at n ss o s.1 k l u)))
  ]

-- a Boolean is decided by when it is true
same_bool : (x y : Bool) → (x ≡ true → y ≡ true) → (y ≡ true → x ≡ true) → x ≡ y
same_bool x y f g = grind arith

module _ (image : Image) (c : Code) (shape : WalkShape image) (waits : Waits image c) where
  is_block : ℕ → Bool
  is_block b = cond (ltb 0 b) (ltb b (suc (length image.blocks))) false

  block_to : (b : ℕ) → IsBlock image b → is_block b ≡ true
  unfolding is_block
  block_to b h = rw (lt-ltb 0 b h.0, lt-ltb b (suc (length image.blocks)) (omega (arith, h.1))) refl

  block_from : (b : ℕ) → is_block b ≡ true → IsBlock image b
  unfolding is_block
  block_from b e = grind (arith, cases_lt, both_ways, cond-false, le-ltb, cond-true, lt-ltb)

  open_at : ℕ → ℕ → OpenSlots
  open_at b k j q = is_some (at (first_number image b) (c.steps b) (c.ends b) k j q)

  open_start : (b j q : ℕ) → open_at b (first_number image b) j q ≡ is_some (starts image c b j q)
  unfolding open_at
  open_start b j q = grind (arith, at_here)

  open_end : (b j q : ℕ) → IsBlock image b → open_at b (first_number image (suc b)) j q
      ≡ is_some (c.ends b j q)
  unfolding open_at
  open_end b j q h = grind (arith, at_end, c.ends, waits.stands)

  turn : (b k : ℕ) → IsBlock image b → IsIn image b k
      → Turn image (at (first_number image b) (c.steps b) (c.ends b) k)
      (at (first_number image b) (c.steps b) (c.ends b) (suc k)) k
  turn b k h i =
      let e : first_number image b + count (c.steps b) ≡ first_number image (suc b) =
      grind (arith, stands_end, c.ends, waits.stands) in
      turn_at image b (c.Kept b) (first_number image b) (c.steps b) (c.ends b) (waits.stands b h) k i.0
      (omega (arith, i.1))

  turn_open : (b k : ℕ) → IsBlock image b → IsIn image b k
      → Alike (all_opened (now_dests image k) (closed k (open_at b k))) (open_at b (suc k))
  unfolding open_at
  turn_open b k h i j q = grind (
    arith,
    has_or_not,
    closed_cases,
    turn,
    same_bool,
    all_opened_from,
    all_opened_keeps,
    all_opened_has,
  )

  fresh : (b k : ℕ) → IsBlock image b → IsIn image b k → Fresh (now_dests image k) (closed k (open_at b k))
  unfolding open_at
  fresh b k h i = grind (arith, distinct_fresh, open_at, closed_cases, turn)

  -- edges
  pub record Opener (b r j q : ℕ) : Type 0 where
    pub source : ℕ
    pub inside : IsIn image b source
    pub has : HasDest (edge_dests image b r source) j q

  pub opener : (b r j q : ℕ) → HasDest (opens_at image b r) j q → Opener b r j q
  unfolding opens_at size_of
  opener b r j q h = grind (arith, edge_all_from, first_up)

  pub opens : (b r m j q : ℕ) → IsIn image b m → HasDest (edge_dests image b r m) j q
      → HasDest (opens_at image b r) j q
  unfolding opens_at size_of
  opens b r m j q i h = grind (arith, first_up, edge_all_has)

  pub edge_fresh : (b r : ℕ) (o : OpenSlots) → IsBlock image b → stops image b ≡ false
      → ((j q : ℕ) → o j q ≡ is_some (c.ends b j q)) → Fresh (opens_at image b r) o
  edge_fresh b r o h s a = grind (arith, distinct_fresh, opener)

  edge_open : (b r : ℕ) → IsBlock image b → stops image b ≡ false →
      Alike (all_opened (opens_at image b r) (open_at b (first_number image (suc b))))
      (open_at (target image b r) (first_number image (target image b r)))
  edge_open b r h s j q = grind (arith, same_bool, into, back)
    where
      into : all_opened (opens_at image b r) (open_at b (first_number image (suc b))) j q ≡ true
          → open_at (target image b r) (first_number image (target image b r)) j q ≡ true
      into a = elim (all_opened_from (opens_at image b r) (open_at b (first_number image (suc b))) j q a) [
        | inl f ↦ (let x = some_of (c.ends b j q) (sym (open_end b j q h) ∙ f) in
            open_start (target image b r) j q ∙ ap is_some (waits.past_on b r j q x.0 h s x.1).1)
        | inr f ↦ (let e = opener b r j q f in open_start (target image b r) j q
            ∙ ap is_some (waits.sent_on b r e.source j q h s e.inside e.has).1.1)
      ]

      back : open_at (target image b r) (first_number image (target image b r)) j q ≡ true
          → all_opened (opens_at image b r) (open_at b (first_number image (suc b))) j q ≡ true
      back a = go (some_of (starts image c (target image b r) j q) (sym (open_start (target image b r) j q)
          ∙ a))
        where
          go : (x : ℕ) × (starts image c (target image b r) j q ≡ Some x)
              → all_opened (opens_at image b r) (open_at b (first_number image (suc b))) j q ≡ true
          go x = grind (arith, all_opened_keeps, open_at, open_end, all_opened_has, opens)

  first_open : (b : ℕ) → IsBlock image b → is_first image b ≡ true
      → AdvancesOpen image b (open_at b (first_number image b))
  first_open b h f j q = grind (arith, open_at, some_of, open_start)

  start_open : Alike (all_opened (start_dests image) none_open) (open_at 1 (first_number image 1))
  start_open j q = grind (
    arith,
    same_bool,
    all_opened_from,
    both_ways,
    open_start,
    is_some,
    waits.start,
    some_of,
    all_opened_has,
    waits.start_back,
  )

  has_all : (b k : ℕ) → IsBlock image b → IsIn image b k → (q : ℕ) → q < ports image k
      → open_at b k k q ≡ true
  unfolding open_at
  has_all b k h i q l = (turn b k h i).has q l

  certificate : SlotCert image is_block open_at
  certificate = record {
    start = block_to 1 shape.has_block;
    start_open = start_open;
    turn_open = λ b k h i. turn_open b k (block_from b h) i;
    edge_reached = λ b r h s. block_to (target image b r) ((shape.edges b (block_from b h)).there r s);
    edge_open = λ b r h s. edge_open b r (block_from b h) s;
    start_fresh = grind (arith, distinct_fresh);
    has_all = λ b k h i. has_all b k (block_from b h) i;
    fresh = λ b k h i. fresh b k (block_from b h) i;
    edges = grind (arith, edge_fresh, block_from, open_end);
    first_open = λ b h f. first_open b (block_from b h) f;
    stop = grind (arith, open_end, block_from, is_some, waits.stop);
  }

  -- the slot rules, on all paths
  pub waits_slots : SlotRules image
  waits_slots = slot_rules image is_block open_at certificate
