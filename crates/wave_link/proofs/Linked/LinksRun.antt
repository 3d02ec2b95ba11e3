-- What the tables say of the paths inside a wave: who was last before each block, and who comes next.
use Rattle.std.proofs.Common.{ℕ, zero, suc, ◌+◌, ◌≡◌, ◌<◌, ◌≤◌, ◌⊎◌, ◌&&◌, Bool, true, false, cond, not, List}
use Rattle.std.proofs.Common.{length, get_or, Option, Some, None, refl, sym, ap, ◌∙◌, inl, inr, subst, arith}
use Rattle.std.proofs.Common.{eqb, eq-eqb, ne_eqb}
use Rattle.std.proofs.lemmas.Bool.{cases_eq, cases_Bool, cases_lt, lt-ltb, le-ltb}
use Rattle.ws_isa.specs.declared.instr.Link.{Link}
use Rattle.ws_isa.specs.declared.instr.Link.TheVariants.{Unknown, Nothing, Is}
use Rattle.wave_link.specs.declared.outline.Way.{Way}
use Rattle.wave_link.specs.declared.outline.Way.TheVariants.{Out, On, Fork}
use Rattle.wave_link.specs.declared.outline.Outline.{Outline}
use Rattle.wave_link.specs.declared.links.Behind.{Behind}
use Rattle.wave_link.specs.declared.states.Ways.{Ways}
use Rattle.wave_link.specs.declared.states.Ways.TheVariants.{Zero, One, Several}
use Rattle.wave_link.specs.declared.states.LastOps.{LastOps}
use Rattle.wave_link.specs.declared.states.LastOps.TheVariants.{Shared, Many}
use Rattle.wave_link.specs.States.{more, has_way, is_several, reached, ways_step, is_shared}
use Rattle.wave_link.specs.States.{is_many, state_in, is_vain, spread_state}
use Rattle.wave_link.specs.Notes.{low_at, head_at, out_link, head_link, larger, joined, begin, behind_in}
use Rattle.wave_link.specs.Notes.{behind_out, hand_all}
use Rattle.wave_link.proofs.Linked.LinksTables.{Leads, leads, Parts, handed, hit_ways, miss_ways, ways_length}
use Rattle.wave_link.proofs.Linked.LinksTables.{hit_states, miss_states, states_length, hit_behind}
use Rattle.wave_link.proofs.Linked.LinksTables.{miss_behind, behind_length, exact, both_says}
use Rattle.ws_words.proofs.Bools.{or_none, plain_of as or_right}

-- the tables before each of n blocks, and after the last one
pub record Run (n : ℕ) (x : ℕ → Outline) (low : ℕ → ℕ) (heads : List Link) (ways : ℕ → List Ways)
    (states : ℕ → List LastOps) (behind : ℕ → List (Option Behind)) : Type 0 where
  pub later : (b c : ℕ) → 1 ≤ b → b ≤ n → Leads (x b).way c → (b < c) × (c ≤ n)
  pub inner : (b c m : ℕ) → 1 ≤ b → b ≤ n → Leads (x b).way c → b < m → m ≤ c → (x m).first ≡ false
  pub parts : (b : ℕ) → 1 ≤ b → b ≤ n → Parts (x b).way
  pub alone : (b p q a c : ℕ) → 1 ≤ b → b ≤ n → (x b).way ≡ Fork p q → Leads (x b).way c → 1 ≤ a → a ≤ n
      → Leads (x a).way c → a ≡ b
  pub writer_in : (b : ℕ) → 1 ≤ b → b ≤ n → (x b).writer ≤ (x b).ops
  pub low_next : (b : ℕ) → 1 ≤ b → b < n → low (suc b) ≡ low_at (x (suc b)) (low b + (x b).ops)
  pub head_is : (b : ℕ) → 1 ≤ b → b ≤ n → head_at heads b ≡ head_link (x b) (low b) heads
  pub ways_size : length (ways 1) ≡ suc n
  pub states_size : length (states 1) ≡ suc n
  pub behind_size : length (behind 1) ≡ suc n
  pub ways_start : (c : ℕ) → get_or (ways 1) c Zero ≡ Zero
  pub behind_start : (c : ℕ) → get_or (behind 1) c None ≡ None
  pub ways_next : (b : ℕ) → 1 ≤ b → b ≤ n → ways (suc b) ≡ ways_step (x b) b (ways b)
  pub states_next : (b : ℕ) → 1 ≤ b → b ≤ n → states (suc b) ≡ cond (reached (x b) b (ways (suc n)))
      (spread_state (x b).way (not (eqb (x b).ops 0)) (state_in (x b) b (ways (suc n)) (states b)) (states b))
      (states b)
  pub behind_next : (b : ℕ) → 1 ≤ b → b ≤ n → behind (suc b) ≡ hand_all (x b) (low b)
      (behind_in (x b) b (behind b)) (behind b)
  -- what is left without an operation needs none
  pub none_vain : (b : ℕ) → 1 ≤ b → b ≤ n → reached (x b) b (ways (suc n)) ≡ true → (x b).ops ≡ 0
      → is_vain (x b).way (ways (suc n)) (state_in (x b) b (ways (suc n)) (states b)) ≡ true

-- z says no more than y
pub record Under (y z : Behind) : Type 0 where
  pub pred : (z.pred ≡ Unknown) ⊎ (z.pred ≡ y.pred)
  pub writer : y.writer ≤ z.writer

larger_left : (n m : ℕ) → n ≤ larger n m
larger_left n m = grind (arith, cases_lt, lt-ltb, le-ltb)

larger_right : (n m : ℕ) → m ≤ larger n m
larger_right n m = grind (arith, cases_lt, lt-ltb, le-ltb)

larger_is : (n m : ℕ) → (larger n m ≡ n) ⊎ (larger n m ≡ m)
larger_is n m = grind (arith, cases_lt, lt-ltb, le-ltb)

under_self : (y : Behind) → Under y y
under_self y = record { pred = inr refl; writer = omega arith }

under_on : (u z v : Behind) → Under u z → Under u (joined (Some z) v)
under_on u z v h = grind (arith, both_says, larger_left)

under_new : (z v : Behind) → Under v (joined (Some z) v)
under_new z v = grind (arith, both_says, larger_right)

pub on_or_fork : (w : Way) (c : ℕ) → Leads w c → (w ≡ On c) ⊎ ((p : ℕ) × (q : ℕ) × (w ≡ Fork p q))
on_or_fork w c h = grind arith

module _ (n : ℕ) (x : ℕ → Outline) (low : ℕ → ℕ) (heads : List Link) (ways : ℕ → List Ways)
    (states : ℕ → List LastOps) (behind : ℕ → List (Option Behind))
    (run : Run n x low heads ways states behind) where
  abbrev pub seen : ℕ → ℕ → Ways
  seen m c = get_or (ways m) c Zero

  abbrev pub reach : ℕ → Bool
  reach b = reached (x b) b (ways b)

  abbrev pub here : ℕ → Option Behind
  here b = behind_in (x b) b (behind b)

  abbrev pub state : ℕ → LastOps
  state b = state_in (x b) b (ways (suc n)) (states b)

  abbrev pub full : ℕ → Bool
  full b = not (eqb (x b).ops 0)

  abbrev pub out : ℕ → Behind → Behind
  out b y = behind_out (x b) (low b) y

  step_length : (b : ℕ) (v : Bool) → reach b ≡ v → length (ways_step (x b) b (ways b)) ≡ length (ways b)
  step_length b v e = grind (arith, ways_length)

  ways_len : (b : ℕ) → 1 ≤ b → b ≤ suc n → length (ways b) ≡ suc n
  ways_len (suc (suc k)) l h = grind (arith, step_length, reach, ways_len (suc k) (omega arith) (omega arith))
  ways_len b l h = grind arith

  spread_length : (b : ℕ) (v : Bool)
      → length (cond v (spread_state (x b).way (full b) (state b) (states b)) (states b)) ≡ length (states b)
  spread_length b v = grind (arith, states_length, full, state)

  states_len : (b : ℕ) → 1 ≤ b → b ≤ suc n → length (states b) ≡ suc n
  states_len (suc (suc k)) l h = grind (arith, spread_length, states_len (suc k) (omega arith) (omega arith))
  states_len b l h = grind arith

  hand_length : (b : ℕ) (y : Option Behind) → length (hand_all (x b) (low b) y (behind b)) ≡ length (behind b)
  hand_length b y = grind (arith, behind_length, out)

  behind_len : (b : ℕ) → 1 ≤ b → b ≤ suc n → length (behind b) ≡ suc n
  behind_len (suc (suc k)) l h = grind (arith, hand_length, behind_len (suc k) (omega arith) (omega arith))
  behind_len b l h = grind arith

  -- one step at one place

  ways_hit : (m c : ℕ) → 1 ≤ m → m ≤ n → c ≤ n → reach m ≡ true → Leads (x m).way c
      → seen (suc m) c ≡ more (seen m c)
  ways_hit m c l h k r e = grind (arith, run.ways_next, hit_ways, run.parts, ways_len)

  ways_miss : (m c : ℕ) → 1 ≤ m → m ≤ n → (reach m ≡ false) ⊎ (Leads (x m).way c → ⊥)
      → seen (suc m) c ≡ seen m c
  ways_miss m c l h i = grind (arith, run.ways_next, miss_ways)

  -- nothing is added to the ways into a block from itself on
  pub settle : (b m : ℕ) → 1 ≤ b → b ≤ n → b ≤ m → m ≤ suc n → seen m b ≡ seen b b
  settle b zero l h k w = absurd (omega arith)
  settle b (suc m) l h k w = go (cases_eq b (suc m)) (λ q. settle b m l h q (omega arith))
    where
      go : (b ≡ suc m) ⊎ (b ≡ suc m → ⊥) → (b ≤ m → seen m b ≡ seen b b) → seen (suc m) b ≡ seen b b
      go h rec = grind (arith, ways_miss, run.later)

  pub reach_same : (b : ℕ) → 1 ≤ b → b ≤ n → reached (x b) b (ways (suc n)) ≡ reach b
  reach_same b l h = grind (arith, settle)

  states_hit : (m c : ℕ) → 1 ≤ m → m ≤ n → c ≤ n → reach m ≡ true → Leads (x m).way c
      → get_or (states (suc m)) c Shared ≡ handed (x m).way (full m) (state m)
  states_hit m c l h k r e = grind (arith, reach_same, full, state, hit_states, states_len)

  states_miss : (m c : ℕ) → 1 ≤ m → m ≤ n → (reach m ≡ false) ⊎ (Leads (x m).way c → ⊥)
      → get_or (states (suc m)) c Shared ≡ get_or (states m) c Shared
  states_miss m c l h k = grind (arith, run.states_next, reach_same, miss_states)

  behind_hit : (m c : ℕ) (y : Behind) → 1 ≤ m → m ≤ n → c ≤ n → here m ≡ Some y → Leads (x m).way c
      → get_or (behind (suc m)) c None ≡ Some (joined (get_or (behind m) c None) (out m y))
  behind_hit m c y l h k r e = grind (arith, run.behind_next, hit_behind, run.parts, behind_len)

  behind_miss : (m c : ℕ) → 1 ≤ m → m ≤ n → (here m ≡ None) ⊎ (Leads (x m).way c → ⊥)
      → get_or (behind (suc m)) c None ≡ get_or (behind m) c None
  behind_miss m c l h k = grind (arith, run.behind_next, miss_behind)

  -- an edge leads to block c from a block before m that is reached
  pub record Came (a c m : ℕ) : Type 0 where
    pub one : 1 ≤ a
    pub before : a < m
    pub most : a ≤ n
    pub reaches : reach a ≡ true
    pub edge : Leads (x a).way c

  -- what an edge brings
  pub record Brings (a c : ℕ) (z : Behind) : Type 0 where
    pub way : (x a).way ≡ On c
    pub y : Behind
    pub here_is : here a ≡ Some y
    pub under : Under (out a y) z

  -- two edges lead to block c
  pub record TwoCame (c m : ℕ) : Type 0 where
    pub one : ℕ
    pub other : ℕ
    pub one_came : Came one c m
    pub other_came : Came other c m
    pub differ : one ≡ other → ⊥

  pub data Inv (m c : ℕ) : Type 0 where
    zero_in : seen m c ≡ Zero → get_or (behind m) c None ≡ None → ((a : ℕ) → Came a c m → ⊥) → Inv m c
    one_in : (a : ℕ) (y : Behind) → seen m c ≡ One → Came a c m → here a ≡ Some y
        → get_or (states m) c Shared ≡ handed (x a).way (full a) (state a) →
        get_or (behind m) c None ≡ Some (out a y) → ((d : ℕ) → Came d c m → d ≡ a) → Inv m c
    many_in : (a : ℕ) (y z : Behind) → seen m c ≡ Several → Came a c m → here a ≡ Some y
        → z.writer ≡ (out a y).writer → get_or (behind m) c None ≡ Some z →
        ((d : ℕ) → Came d c m → Brings d c z) → TwoCame c m → Inv m c

  has_here : (b : ℕ) → reach b ≡ true → Inv b b → (y : Behind) × (here b ≡ Some y)
  has_here b r i = go (cases_Bool (x b).first) i
    where
      later : (o : Option Behind) (y : Behind) → (x b).first ≡ false → get_or (behind b) b None ≡ Some y
          → here b ≡ Some y
      later o y f e = rw f e

      go : ((x b).first ≡ true) ⊎ ((x b).first ≡ false) → Inv b b → (y : Behind) × (here b ≡ Some y)
      go (inl f) i = (begin, rw f refl)
      go (inr f) (zero_in e g u) = grind (arith, or_right, seen)
      go (inr f) (one_in a y e k h s g u) = (out a y, later None (out a y) f g)
      go (inr f) (many_in a y z e k h w g u v) = (z, later None z f g)

  not_here : (b : ℕ) → reach b ≡ false → Inv b b → here b ≡ None
  not_here b r i = grind (arith, or_none)

  keep_came : (a c m : ℕ) → Came a c m → Came a c (suc m)
  keep_came a c m k = grind arith

  keep_two : (c m : ℕ) → TwoCame c m → TwoCame c (suc m)
  keep_two c m v = record {
    one = v.one;
    other = v.other;
    one_came = keep_came v.one c m v.one_came;
    other_came = keep_came v.other c m v.other_came;
    differ = v.differ;
  }

  was_came : (a c m : ℕ) → Came a c (suc m) → (a ≡ m) ⊎ Came a c m
  was_came a c m k = grind (arith, cases_eq)

  -- no edge of block m leads to c
  missed : (m c : ℕ) → 1 ≤ m → m ≤ n → (reach m ≡ false) ⊎ (Leads (x m).way c → ⊥) → Inv m m → Inv m c
      → Inv (suc m) c
  missed m c l h q own i = go i
    where
      old : (a : ℕ) → Came a c (suc m) → Came a c m
      old a k = elim (was_came a c m k) [
        | inr p ↦ p
        | inl e ↦ grind arith
      ]

      away : (here m ≡ None) ⊎ (Leads (x m).way c → ⊥)
      away = elim q [ inl r ↦ inl (not_here m r own) | inr w ↦ inr w ]

      sw : seen (suc m) c ≡ seen m c
      sw = ways_miss m c l h q

      ss : get_or (states (suc m)) c Shared ≡ get_or (states m) c Shared
      ss = states_miss m c l h q

      sb : get_or (behind (suc m)) c None ≡ get_or (behind m) c None
      sb = behind_miss m c l h away

      go : Inv m c → Inv (suc m) c
      go (zero_in e g u) = zero_in (sw ∙ e) (sb ∙ g) (λ a k. u a (old a k))
      go (one_in a y e k f s g u) = one_in a y (sw ∙ e) (keep_came a c m k) f (ss ∙ s) (sb ∙ g)
          (λ d p. u d (old d p))
      go (many_in a y z e k f w g u v) = many_in a y z (sw ∙ e) (keep_came a c m k) f w (sb ∙ g)
          (λ d p. u d (old d p)) (keep_two c m v)

  -- one does
  met : (m c : ℕ) → 1 ≤ m → m ≤ n → c ≤ n → reach m ≡ true → Leads (x m).way c → Inv m m → Inv m c
      → Inv (suc m) c
  met m c l h k r e own i = go i
    where
      mine : (y : Behind) × (here m ≡ Some y)
      mine = has_here m r own

      v : Behind
      v = out m mine.0

      now : Came m c (suc m)
      now = record { one = l; before = omega arith; most = h; reaches = r; edge = e }

      sw : seen (suc m) c ≡ more (seen m c)
      sw = ways_hit m c l h k r e

      sb : get_or (behind (suc m)) c None ≡ Some (joined (get_or (behind m) c None) v)
      sb = behind_hit m c mine.0 l h k mine.1 e

      -- beside another, an edge is no arm
      straight : (a : ℕ) → Came a c m → (x m).way ≡ On c
      straight a p = elim (on_or_fork (x m).way c e) [
        | inl f ↦ f
        | inr f ↦
            absurd (let s : a ≡ m = run.alone m f.0 f.1 a c l h f.2 e p.one p.most p.edge in
            let b : a < m = p.before in omega arith)
      ]

      straight_too : (a : ℕ) → Came a c m → (x a).way ≡ On c
      straight_too a p = elim (on_or_fork (x a).way c p.edge) [
        | inl f ↦ f
        | inr f ↦
            absurd (let s : m ≡ a = run.alone a f.0 f.1 m c p.one p.most f.2 p.edge l h e in
            let b : a < m = p.before in omega arith)
      ]

      brings : (a : ℕ) → Came a c m → (z : Behind) → Brings m c (joined (Some z) v)
      brings a p z = record { way = straight a p; y = mine.0; here_is = mine.1; under = under_new z v }

      still : (d : ℕ) (z : Behind) → Brings d c z → Brings d c (joined (Some z) v)
      still d z b = record {
        way = b.way;
        y = b.y;
        here_is = b.here_is;
        under = under_on (out d b.y) z v b.under;
      }

      first_brings : (a : ℕ) (y : Behind) → Came a c m → here a ≡ Some y → Brings a c (out a y)
      first_brings a y p f = record {
        way = straight_too a p;
        y = y;
        here_is = f;
        under = under_self (out a y);
      }

      all : (a : ℕ) (z : Behind) → Came a c m → ((d : ℕ) → Came d c m → Brings d c z) → (d : ℕ)
          → Came d c (suc m) → Brings d c (joined (Some z) v)
      all a z p u d q = elim (was_came d c m q) [
        | inl s ↦ subst (λ (j : ℕ). Brings j c (joined (Some z) v)) (sym s) (brings a p z)
        | inr o ↦ still d z (u d o)
      ]

      several_by : (a : ℕ) (y z : Behind) → seen (suc m) c ≡ Several → Came a c m → here a ≡ Some y
          → z.writer ≡ (out a y).writer → get_or (behind m) c None ≡ Some z →
          ((d : ℕ) → Came d c m → Brings d c z) → TwoCame c (suc m) → Inv (suc m) c
      several_by a y z w p f t g u two =
          let b : get_or (behind (suc m)) c None ≡ Some (joined (Some z) v) =
          sb ∙ ap (λ (o : Option Behind). Some (joined o v)) g in
          elim (larger_is z.writer v.writer) [
            | inl s ↦ many_in a y (joined (Some z) v) w (keep_came a c m p) f (s ∙ t) b (all a z p u) two
            | inr s ↦ many_in m mine.0 (joined (Some z) v) w now mine.1 s b (all a z p u) two
          ]

      several : (a : ℕ) (y z : Behind) → seen (suc m) c ≡ Several → Came a c m → here a ≡ Some y
          → z.writer ≡ (out a y).writer → get_or (behind m) c None ≡ Some z →
          ((d : ℕ) → Came d c m → Brings d c z) → Inv (suc m) c
      several a y z w p f t g u =
          several_by a y z w p f t g u (record {
            one = a;
            other = m;
            one_came = keep_came a c m p;
            other_came = now;
            differ = λ e. (let b : a < m = p.before in omega (arith, e));
          })

      go : Inv m c → Inv (suc m) c
      go (zero_in w g u) = one_in m mine.0 (sw ∙ ap more w) now mine.1 (states_hit m c l h k r e)
          (sb ∙ ap (λ (o : Option Behind). Some (joined o v)) g)
          (λ d p. elim (was_came d c m p) [ inl s ↦ s | inr q ↦ absurd (u d q) ])
      go (one_in a y w p f s g u) = several a y (out a y) (sw ∙ ap more w) p f refl g
          (λ d q. subst (λ (j : ℕ). Brings j c (out a y)) (sym (u d q)) (first_brings a y p f))
      go (many_in a y z w p f t g u v) = several a y z (sw ∙ ap more w) p f t g u

  pub inv : (m c : ℕ) → 1 ≤ m → m ≤ suc n → c ≤ n → Inv m c
  inv (suc (suc j)) c l h k = go (cases_Bool (reach (suc j))) (leads (x (suc j)).way c)
      (inv (suc j) (suc j) (omega arith) (omega arith) (omega arith))
      (inv (suc j) c (omega arith) (omega arith) k)
    where
      go : (reach (suc j) ≡ true) ⊎ (reach (suc j) ≡ false) → Leads (x (suc j)).way c
          ⊎ (Leads (x (suc j)).way c → ⊥) → Inv (suc j) (suc j) → Inv (suc j) c → Inv (suc (suc j)) c
      go (inl r) (inl e) own i = met (suc j) c (omega arith) (omega arith) k r e own i
      go (inl r) (inr e) own i = missed (suc j) c (omega arith) (omega arith) (inr e) own i
      go (inr r) e own i = missed (suc j) c (omega arith) (omega arith) (inl r) own i
  inv m c l h k = grind arith

  -- a path inside a wave leads to block b, and a is the last block with an operation before it, or 0
  abbrev pub last_of : ℕ → ℕ → ℕ
  last_of b a = cond (eqb (x b).ops 0) a b

  pub data Before : ℕ → ℕ → Type 0 where
    starts : {b : ℕ} → 1 ≤ b → b ≤ n → (x b).first ≡ true → Before b 0
    goes : {b a c : ℕ} → Before b a → Leads (x b).way c → Before c (last_of b a)

  -- the number of the last operation of block a
  abbrev pub last_number : ℕ → ℕ
  last_number a = cond (eqb a 0) 0 (low a + (x a).ops)

  -- a has an operation, and its successor is what comes next at b
  pub record Owned (b a : ℕ) : Type 0 where
    pub some : 1 ≤ a
    pub head : out_link (x a).way heads ≡ head_at heads b

  -- it is the only one, or one of several
  abbrev pub Kind : ℕ → ℕ → Behind → Behind → Type 0
  Kind b c y z = ((state c ≡ handed (x b).way (full b) (state b)) × (z ≡ out b y)
      × ((d : ℕ) → Came d c c → d ≡ b))
      ⊎ ((state c ≡ Many) × ((x b).way ≡ On c) × (is_several (get_or (ways (suc n)) c Zero) ≡ true))

  -- what an edge to a block brings there
  pub record Into (b c : ℕ) (y : Behind) : Type 0 where
    pub reaches : reach c ≡ true
    pub z : Behind
    pub z_is : here c ≡ Some z
    pub under : Under (out b y) z
    pub kind : Kind b c y z

  pub into : (b c : ℕ) (y : Behind) → 1 ≤ b → b ≤ n → reach b ≡ true → here b ≡ Some y → Leads (x b).way c
      → Into b c y
  into b c y l h r f e = go (inv c c (omega (arith, lt)) (omega (arith, most)) most)
    where
      lt : b < c
      lt = (run.later b c l h e).0

      most : c ≤ n
      most = (run.later b c l h e).1

      inside : (x c).first ≡ false
      inside = run.inner b c c l h e lt (omega arith)

      came : Came b c c
      came = record { one = l; before = lt; most = h; reaches = r; edge = e }

      end : seen (suc n) c ≡ seen c c
      end = settle c (suc n) (omega (arith, lt)) most (omega (arith, most)) (omega arith)

      reached_by : has_way (seen c c) ≡ true → reach c ≡ true
      reached_by w = rw inside w

      here_by : (z : Behind) → get_or (behind c) c None ≡ Some z → here c ≡ Some z
      here_by z g = rw inside g

      one_state : (s : LastOps) → seen c c ≡ One → get_or (states c) c Shared ≡ s → state c ≡ s
      one_state s w g =
          rw inside (ap (λ (v : Bool). cond v Many (get_or (states c) c Shared)) (ap is_several (end ∙ w))
          ∙ g)

      many_state : seen c c ≡ Several → state c ≡ Many
      many_state w =
          rw inside (ap (λ (v : Bool). cond v Many (get_or (states c) c Shared)) (ap is_several (end ∙ w)))

      same : (y v : Behind) → here b ≡ Some y → here b ≡ Some v → v ≡ y
      same y v p q = cc

      go : Inv c c → Into b c y
      go (zero_in w g u) = absurd (u b came)
      go (one_in a v w p q s g u) =
          let eq : b ≡ a = u b came in
          let vy : v ≡ y = same y v f (ap here eq ∙ q) in
          let o : out a v ≡ out b y = ap (λ (k : ℕ). out k v) (sym eq) ∙ ap (out b) vy in
          let st : handed (x a).way (full a) (state a) ≡ handed (x b).way (full b) (state b) =
          ap (λ (k : ℕ). handed (x k).way (full k) (state k)) (sym eq) in
          record {
            reaches = reached_by (ap has_way w);
            z = out a v;
            z_is = here_by (out a v) g;
            under = subst (Under (out b y)) (sym o) (under_self (out b y));
            kind = inl (one_state (handed (x b).way (full b) (state b)) w (s ∙ st), o, λ d k. u d k ∙ sym eq);
          }
      go (many_in a v z w p q t g u two) =
          let k : Brings b c z = u b came in
          record {
            reaches = reached_by (ap has_way w);
            z = z;
            z_is = here_by z g;
            under = subst (λ (i : Behind). Under (out b i) z) (same y k.y f k.here_is) k.under;
            kind = inr (many_state w, k.way, ap is_several (end ∙ w));
          }

  -- what is known where a path comes to block b
  pub record Facts (b a : ℕ) : Type 0 where
    pub low_block : 1 ≤ b
    pub high_block : b ≤ n
    pub reaches : reach b ≡ true
    pub y : Behind
    pub y_is : here b ≡ Some y
    pub agrees : (y.pred ≡ Unknown) ⊎ (y.pred ≡ exact (last_number a))
    pub known : (state b ≡ Many) ⊎ (y.pred ≡ exact (last_number a))
    pub owner : (state b ≡ Shared) ⊎ Owned b a
    pub next : 1 ≤ a → (out_link (x a).way heads ≡ Unknown) ⊎ (out_link (x a).way heads ≡ head_at heads b)
    pub below : last_number a ≤ low b

  pub low_rise : (b c : ℕ) → 1 ≤ b → b < c → c ≤ n → ((m : ℕ) → b < m → m ≤ c → (x m).first ≡ false)
      → low b + (x b).ops ≤ low c
  low_rise b zero l h k f = absurd (omega arith)
  low_rise b (suc c) l h k f =
      go (cases_eq b c) (λ q. low_rise b c l q (omega arith) (λ m u v. f m u (omega arith)))
    where
      next : 1 ≤ c → low (suc c) ≡ low c + (x c).ops
      next o = grind (arith, run.low_next)

      go : (b ≡ c) ⊎ (b ≡ c → ⊥) → (b < c → low b + (x b).ops ≤ low c) → low b + (x b).ops ≤ low (suc c)
      go (inl e) rec = grind (arith, next)
      go (inr d) rec = omega (arith, rec (omega arith), next (omega arith))

  head_empty : (b : ℕ) → 1 ≤ b → b ≤ n → (x b).ops ≡ 0 → head_at heads b ≡ out_link (x b).way heads
  head_empty b l h e = grind arith

  pub head_full : (b : ℕ) → 1 ≤ b → b ≤ n → 1 ≤ (x b).ops → head_at heads b ≡ Is (low b + 1)
  head_full b l h e = run.head_is b l h ∙ rw (ne_eqb (x b).ops 0 (λ d. absurd (omega arith))) refl

  head_on : (w : Way) (c : ℕ) → w ≡ On c → out_link w heads ≡ head_at heads c
  head_on w c e = ap (λ (v : Way). out_link v heads) e

  next_head : (w : Way) (c : ℕ) → Leads w c → (out_link w heads ≡ Unknown)
      ⊎ (out_link w heads ≡ head_at heads c)
  next_head w c h = grind (arith, both_says)

  exact_some : (k : ℕ) → 1 ≤ k → exact k ≡ Is k
  exact_some k l = rw (ne_eqb k 0 (λ d. absurd (omega arith))) refl

  number_some : (a : ℕ) → 1 ≤ a → last_number a ≡ low a + (x a).ops
  number_some a l = rw (ne_eqb a 0 (λ d. absurd (omega arith))) refl

  -- behind an empty block, and behind one with operations
  pub last_empty : (b a : ℕ) → (x b).ops ≡ 0 → last_of b a ≡ a
  last_empty b a e = rw (eq-eqb (x b).ops 0 e) refl

  pub last_full : (b a : ℕ) → 1 ≤ (x b).ops → last_of b a ≡ b
  last_full b a e = rw (ne_eqb (x b).ops 0 (λ d. absurd (omega arith))) refl

  out_empty : (b : ℕ) (y : Behind) → (x b).ops ≡ 0 → (out b y).pred ≡ y.pred
  out_empty b y e = rw (eq-eqb (x b).ops 0 e) refl

  out_full : (b a : ℕ) (y : Behind) → 1 ≤ b → 1 ≤ (x b).ops → (out b y).pred ≡ exact (last_number b)
  out_full b a y l e = grind (arith, exact, number_some, exact_some)

  -- who is last on a path that comes through block b without an operation of it
  through : (b a c : ℕ) (f : Facts b a) → (x b).ops ≡ 0 → Leads (x b).way c → Into b c f.y → Facts c a
  through b a c f e k i = record {
    low_block = omega (arith, lt);
    high_block = most;
    reaches = i.reaches;
    y = i.z;
    y_is = i.z_is;
    agrees = grind (arith, out_empty);
    known = knows i.kind f.known;
    owner = owns i.kind f.owner;
    next = λ o. after o (f.next o);
    below = omega (arith, f.below, rise);
  }
    where
      lt : b < c
      lt = (run.later b c f.low_block f.high_block k).0

      most : c ≤ n
      most = (run.later b c f.low_block f.high_block k).1

      rise : low b + (x b).ops ≤ low c
      rise = low_rise b c f.low_block lt most (λ m u v. run.inner b c m f.low_block f.high_block k u v)

      vain : is_vain (x b).way (ways (suc n)) (state b) ≡ true
      vain = run.none_vain b f.low_block f.high_block (reach_same b f.low_block f.high_block ∙ f.reaches) e

      empty : full b ≡ false
      empty = rw (eq-eqb (x b).ops 0 e) refl

      no_fork : (p q : ℕ) → (x b).way ≡ Fork p q → state b ≡ Many → ⊥
      no_fork p q w s =
          cc (sym vain ∙ (ap (λ (v : Way). is_vain v (ways (suc n)) (state b)) w
          ∙ ap (λ (v : LastOps). not (is_many v)) s))

      hand : (d : ℕ) → (x b).way ≡ On d → handed (x b).way (full b) (state b) ≡ state b
      hand d w = grind (arith, handed)

      hand_fork : (p q : ℕ) → (x b).way ≡ Fork p q → handed (x b).way (full b) (state b) ≡ Shared
      hand_fork p q w = ap (λ (v : Way). handed v (full b) (state b)) w

      owned : (x b).way ≡ On c → Owned b a → Owned c a
      owned w o = grind (arith, head_empty, head_on)

      knows : Kind b c f.y i.z →
          (state b ≡ Many) ⊎ (f.y.pred ≡ exact (last_number a)) → (state c ≡ Many)
          ⊎ (i.z.pred ≡ exact (last_number a))
      knows (inr s) g = inl s.0
      knows (inl s) (inr g) = inr (ap (λ (v : Behind). v.pred) s.1 ∙ (out_empty b f.y e ∙ g))
      knows (inl s) (inl g) = elim (on_or_fork (x b).way c k) [
        | inl w ↦ inl (s.0 ∙ (hand c w ∙ g))
        | inr w ↦ absurd (no_fork w.0 w.1 w.2 g)
      ]

      not_shared : is_several (get_or (ways (suc n)) c Zero) ≡ true → (x b).way ≡ On c → state b ≡ Shared → ⊥
      not_shared v w s =
          cc (sym vain ∙ (ap (λ (u : Way). is_vain u (ways (suc n)) (state b)) w
          ∙ (ap (λ (u : LastOps). not (is_shared u && is_several (get_or (ways (suc n)) c Zero))) s
          ∙ ap not v)))

      owns : Kind b c f.y i.z →
          (state b ≡ Shared) ⊎ Owned b a → (state c ≡ Shared) ⊎ Owned c a
      owns (inr s) (inr o) = inr (owned s.1 o)
      owns (inr s) (inl g) = absurd (not_shared s.2 s.1 g)
      owns (inl s) g = grind (arith, on_or_fork)

      after : 1 ≤ a → (out_link (x a).way heads ≡ Unknown) ⊎ (out_link (x a).way heads ≡ head_at heads b)
          → (out_link (x a).way heads ≡ Unknown) ⊎ (out_link (x a).way heads ≡ head_at heads c)
      after o h = grind (arith, next_head, head_empty)

  -- and through one with operations
  beyond : (b a c : ℕ) (f : Facts b a) → 1 ≤ (x b).ops → Leads (x b).way c → Into b c f.y → Facts c b
  beyond b a c f e k i = record {
    low_block = omega (arith, lt);
    high_block = most;
    reaches = i.reaches;
    y = i.z;
    y_is = i.z_is;
    agrees = elim i.under.pred [ inl u ↦ inl u | inr u ↦ inr (u ∙ out_full b a f.y f.low_block e) ];
    known = grind (arith, out_full);
    owner = owns i.kind;
    next = λ o. next_head (x b).way c k;
    below = omega (arith, number_some b f.low_block, rise);
  }
    where
      lt : b < c
      lt = (run.later b c f.low_block f.high_block k).0

      most : c ≤ n
      most = (run.later b c f.low_block f.high_block k).1

      rise : low b + (x b).ops ≤ low c
      rise = low_rise b c f.low_block lt most (λ m u v. run.inner b c m f.low_block f.high_block k u v)

      owned : (x b).way ≡ On c → Owned c b
      owned w = record { some = f.low_block; head = head_on (x b).way c w }

      owns : Kind b c f.y i.z → (state c ≡ Shared) ⊎ Owned c b
      owns h = grind (arith, owned, on_or_fork, handed, full, state)

  pub facts : {b a : ℕ} → Before b a → Facts b a
  facts {b} {a} (starts l h f) = grind arith
  facts (goes {b = b} {a = a} {c = c} p k) =
      let f : Facts b a = facts p in
      let i : Into b c f.y = into b c f.y f.low_block f.high_block f.reaches f.y_is k in
      elim (cases_eq (x b).ops 0) [
        | inl e ↦ subst (Facts c) (sym (last_empty b a e)) (through b a c f e k i)
        | inr d ↦ subst (Facts c) (sym (last_full b a (omega (arith, d))))
            (beyond b a c f (omega (arith, d)) k i)
      ]

  -- an operation comes first in block b: its predecessor is said there, or by the last one before
  pub first_linked : (b a : ℕ) (f : Facts b a) → 1 ≤ (x b).ops → (f.y.pred ≡ exact (last_number a))
      ⊎ ((1 ≤ a) × (out_link (x a).way heads ≡ Is (low b + 1)))
  first_linked b a f e = grind (arith, f.known, head_full)

  -- with none before it, nothing precedes
  pub first_alone : (b a : ℕ) (f : Facts b a) → a ≡ 0 → f.y.pred ≡ Nothing
  first_alone b a f z = grind (arith, state, exact, last_number)

  -- a wave ends behind an empty block: the last operation says so
  pub end_said : (b a : ℕ) → Facts b a → (x b).ops ≡ 0 → (x b).way ≡ Out
      → (1 ≤ a) × (out_link (x a).way heads ≡ Nothing)
  end_said b a f e w = grind (arith, run.none_vain, reach_same, head_empty)

  -- Writing operations.

  -- a writing operation of this number is the last one of a block on a path to block c
  pub data Wrote : ℕ → ℕ → Type 0 where
    wrote : {b a c : ℕ} → Before b a → 1 ≤ (x b).writer → Leads (x b).way c → Wrote c (low b + (x b).writer)
    further : {b c w : ℕ} → Wrote b w → Leads (x b).way c → Wrote c w

  -- a path comes to block b, and the largest number of a writing operation before it is met on one
  pub record Attained (b : ℕ) : Type 0 where
    pub last : ℕ
    pub path : Before b last
    pub y : Behind
    pub y_is : here b ≡ Some y
    pub writer : (y.writer ≡ 0) ⊎ Wrote b y.writer

  attained_from : (a c : ℕ) (y z : Behind) → here a ≡ Some y → Leads (x a).way c → Attained a
      → here c ≡ Some z → z.writer ≡ (out a y).writer → Attained c
  attained_from a c y z f k t g w = record {
    last = last_of a t.last;
    path = goes t.path k;
    y = z;
    y_is = g;
    writer = go (cases_eq (x a).writer 0) t.writer;
  }
    where
      same : t.y ≡ y
      same = grind (arith, here)

      go : ((x a).writer ≡ 0) ⊎ ((x a).writer ≡ 0 → ⊥) → (t.y.writer ≡ 0) ⊎ Wrote a t.y.writer
          → (z.writer ≡ 0) ⊎ Wrote c z.writer
      go (inr d) o =
          let e : z.writer ≡ low a + (x a).writer = w ∙ rw (ne_eqb (x a).writer 0 d) refl in
          inr (subst (Wrote c) (sym e) (wrote t.path (omega (arith, d)) k))
      go (inl d) o =
          let e : z.writer ≡ t.y.writer = w ∙ (grind arith) in
          elim o [ inl q ↦ inl (e ∙ q) | inr q ↦ inr (subst (Wrote c) (sym e) (further q k)) ]

  attained_next : (b : ℕ) → 1 ≤ b → b ≤ n → reach b ≡ true → ((a : ℕ) → Came a b b → Attained a) → Attained b
  attained_next b l h r before = go (cases_Bool (x b).first) (inv b b l (omega arith) h)
    where
      go : ((x b).first ≡ true) ⊎ ((x b).first ≡ false) → Inv b b → Attained b
      go (inl f) i = record { last = 0; path = starts l h f; y = begin; y_is = rw f refl; writer = inl refl }
      go (inr f) (zero_in e g u) = grind (arith, or_right, seen)
      go (inr f) (one_in a y e p k s g u) = attained_from a b y (out a y) k p.edge (before a p) (rw f g) refl
      go (inr f) (many_in a y z e p k w g u v) = attained_from a b y z k p.edge (before a p) (rw f g) w

  attained_here : (m b : ℕ) → b < m → 1 ≤ b → b ≤ n → reach b ≡ true → Attained b
  attained_here zero b q l h r = absurd (omega arith)
  attained_here (suc m) b q l h r =
      attained_next b l h r (λ a p. attained_here m a (let t : a < b = p.before in omega arith) p.one
      p.most p.reaches)

  pub attained : (b : ℕ) → 1 ≤ b → b ≤ n → reach b ≡ true → Attained b
  attained b l h r = attained_here (suc b) b (omega arith) l h r

  -- these numbers are not above those of the block
  pub wrote_low : {c w : ℕ} → Wrote c w → (1 ≤ c) × (c ≤ n) × (w ≤ low c)
  wrote_low (wrote {b = b} {a = a} {c = c} p l k) =
      let f : Facts b a = facts p in
      let e : (b < c) × (c ≤ n) = run.later b c f.low_block f.high_block k in
      let q : low b + (x b).ops ≤ low c = low_rise b c f.low_block e.0 e.1
      (λ m u v. run.inner b c m f.low_block f.high_block k u v) in
      (omega (arith, e.0), e.1, omega (arith, q, run.writer_in b f.low_block f.high_block))
  wrote_low (further {b = b} {c = c} {w = w} p k) =
      let f : (1 ≤ b) × (b ≤ n) × (w ≤ low b) = wrote_low p in
      let e : (b < c) × (c ≤ n) = run.later b c f.0 f.1 k in
      let q : low b + (x b).ops ≤ low c = low_rise b c f.0 e.0 e.1 (λ m u v. run.inner b c m f.0 f.1 k u v) in
      (omega (arith, e.0), e.1, omega (arith, q, f.2))

  -- the writing operations of a path are counted where an edge leads on
  pub writer_on : (b a c : ℕ) (f : Facts b a) → Leads (x b).way c → (g : Facts c (last_of b a))
      → (out b f.y).writer ≤ g.y.writer
  writer_on b a c f k g = grind (arith, into b c f.y f.low_block f.high_block f.reaches f.y_is k)

  pub writer_low : (b a : ℕ) (f : Facts b a) → f.y.writer ≤ low b
  writer_low b a f = go t.writer
    where
      t : Attained b
      t = attained b f.low_block f.high_block f.reaches

      same : t.y ≡ f.y
      same = grind (arith, t, here)

      go : (t.y.writer ≡ 0) ⊎ Wrote b t.y.writer → f.y.writer ≤ low b
      go (inl e) = omega (arith, e, ap (λ (v : Behind). v.writer) same)
      go (inr p) = omega (arith, (wrote_low p).2, ap (λ (v : Behind). v.writer) same)
