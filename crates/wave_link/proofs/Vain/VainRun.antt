-- Why each no-op is needed, on the blocks of a wave: with it left out, some path, or some paths together,
-- would break a rule on links.
use Rattle.std.proofs.Common.{ℕ, zero, suc, ◌+◌, ◌≡◌, ◌<◌, ◌≤◌, ◌⊎◌, Bool, true, false, List, get_or}
use Rattle.std.proofs.Common.{Option, refl, sym, ap, ◌∙◌, inl, inr, subst, arith, eq-eqb, ne_eqb}
use Rattle.std.proofs.lemmas.Bool.{cases_eq, cases_lt}
use Rattle.ws_isa.specs.declared.instr.Link.{Link}
use Rattle.wave_link.specs.declared.outline.Way.{Way}
use Rattle.wave_link.specs.declared.outline.Way.TheVariants.{Out, On, Fork}
use Rattle.wave_link.specs.declared.outline.Outline.{Outline}
use Rattle.wave_link.specs.declared.links.Behind.{Behind}
use Rattle.wave_link.specs.declared.states.Ways.{Ways}
use Rattle.wave_link.specs.declared.states.Ways.TheVariants.{Zero}
use Rattle.wave_link.specs.declared.states.LastOps.{LastOps}
use Rattle.wave_link.specs.declared.states.LastOps.TheVariants.{Shared, Sole, Many}
use Rattle.wave_link.specs.States.{is_several, is_vain}
use Rattle.wave_link.proofs.Linked.LinksTables.{Leads, Parts, handed}
use Rattle.wave_link.proofs.Linked.LinksRun.{Run, Before, starts, goes, last_of, last_empty, last_full, Facts}
use Rattle.wave_link.proofs.Linked.LinksRun.{facts, Into, into, Came, TwoCame, Inv, zero_in, one_in, many_in}
use Rattle.wave_link.proofs.Linked.LinksRun.{inv, Kind, reach, state, full, attained, on_or_fork, reach_same}
use Rattle.wave_link.proofs.Linked.LinksRun.{settle}

module _ (n : ℕ) (x : ℕ → Outline) (low : ℕ → ℕ) (heads : List Link) (ways : ℕ → List Ways)
    (states : ℕ → List LastOps) (behind : ℕ → List (Option Behind))
    (run : Run n x low heads ways states behind) where
  abbrev Path : ℕ → ℕ → Type 0
  Path b a = Before n x low heads ways states behind run b a

  abbrev Known : ℕ → ℕ → Type 0
  Known b a = Facts n x low heads ways states behind run b a

  abbrev known_at : {b a : ℕ} → Path b a → Known b a
  known_at p = facts n x low heads ways states behind run p

  abbrev after : ℕ → ℕ → ℕ
  after b a = last_of n x low heads ways states behind run b a

  abbrev st : ℕ → LastOps
  st b = state n x low heads ways states behind run b

  abbrev Edge : ℕ → ℕ → ℕ → Type 0
  Edge a c m = Came n x low heads ways states behind run a c m

  abbrev Entry : ℕ → ℕ → Behind → Type 0
  Entry b c y = Into n x low heads ways states behind run b c y

  abbrev many_ways : ℕ → Bool
  many_ways c = is_several (get_or (ways (suc n)) c Zero)

  entry : (b a c : ℕ) (f : Known b a) → Leads (x b).way c → Entry b c f.y
  entry b a c f k = into n x low heads ways states behind run b c f.y f.low_block f.high_block f.reaches
      f.y_is k

  empty_after : (b a : ℕ) → (x b).ops ≡ 0 → after b a ≡ a
  empty_after b a e = last_empty n x low heads ways states behind run b a e

  full_after : (b a : ℕ) → 1 ≤ (x b).ops → after b a ≡ b
  full_after b a e = last_full n x low heads ways states behind run b a e

  -- paths through blocks without and with operations

  go_empty : (b a c : ℕ) → Path b a → (x b).ops ≡ 0 → Leads (x b).way c → Path c a
  go_empty b a c p e k = rw (empty_after b a e) at (goes p k)

  go_full : (b a c : ℕ) → Path b a → 1 ≤ (x b).ops → Leads (x b).way c → Path c b
  go_full b a c p e k = rw (full_after b a e) at (goes p k)

  vain : (b a : ℕ) → Known b a → (x b).ops ≡ 0 → is_vain (x b).way (ways (suc n)) (st b) ≡ true
  vain b a f e = grind (arith, reach_same n x low heads ways states behind run b f.low_block f.high_block)

  -- what the state of an empty block forbids
  no_fork : (b a p q : ℕ) → Known b a → (x b).ops ≡ 0 → (x b).way ≡ Fork p q → st b ≡ Many → ⊥
  no_fork b a p q f e w s = grind (arith, vain b a f e)

  no_out : (b a : ℕ) → Known b a → (x b).ops ≡ 0 → (x b).way ≡ Out → st b ≡ Shared → ⊥
  no_out b a f e w s = grind (arith, vain b a f e)

  no_meet : (b a c : ℕ) → Known b a → (x b).ops ≡ 0 → (x b).way ≡ On c → many_ways c ≡ true → st b ≡ Shared
      → ⊥
  no_meet b a c f e w v s = grind (arith, vain b a f e)

  full_is : (b : ℕ) → 1 ≤ (x b).ops → full n x low heads ways states behind run b ≡ true
  full_is b e = rw (ne_eqb (x b).ops 0 (λ d. absurd (omega arith))) refl

  empty_is : (b : ℕ) → (x b).ops ≡ 0 → full n x low heads ways states behind run b ≡ false
  empty_is b e = rw (eq-eqb (x b).ops 0 e) refl

  abbrev hand : ℕ → LastOps
  hand b = handed (x b).way (full n x low heads ways states behind run b) (st b)

  hand_fork : (b p q : ℕ) → (x b).way ≡ Fork p q → hand b ≡ Shared
  hand_fork b p q w = ap (λ (v : Way). handed v (full n x low heads ways states behind run b) (st b)) w

  hand_full : (b c : ℕ) → (x b).way ≡ On c → 1 ≤ (x b).ops → hand b ≡ Sole
  hand_full b c w e = grind (arith, handed, full, st, full_is)

  hand_empty : (b c : ℕ) → (x b).way ≡ On c → (x b).ops ≡ 0 → hand b ≡ st b
  hand_empty b c w e = grind (arith, handed, full, st, empty_is)

  -- the edge that leads on, and where
  later : (b a c : ℕ) → Known b a → Leads (x b).way c → b < c
  later b a c f k = (run.later b c f.low_block f.high_block k).0

  most : (b a c : ℕ) → Known b a → Leads (x b).way c → c ≤ n
  most b a c f k = (run.later b c f.low_block f.high_block k).1

  came : (b a c : ℕ) → Known b a → Leads (x b).way c → Edge b c c
  came b a c f k = grind (arith, later)

  -- each block that is reached has a path
  pub record Reached (b : ℕ) : Type 0 where
    pub last : ℕ
    pub path : Path b last

  pub path_to : (b : ℕ) → 1 ≤ b → b ≤ n → reach n x low heads ways states behind run b ≡ true → Reached b
  path_to b l h r = grind (arith, attained n x low heads ways states behind run b l h r)

  ops_or : (b : ℕ) → ((x b).ops ≡ 0) ⊎ (1 ≤ (x b).ops)
  ops_or b = elim (cases_eq (x b).ops 0) [ inl e ↦ inl e | inr d ↦ inr (omega arith) ]

  on_leads : (b c : ℕ) → (x b).way ≡ On c → Leads (x b).way c
  on_leads b c w = rw w refl

  one_leads : (b p q : ℕ) → (x b).way ≡ Fork p q → Leads (x b).way p
  one_leads b p q w = rw w (inl refl)

  other_leads : (b p q : ℕ) → (x b).way ≡ Fork p q → Leads (x b).way q
  other_leads b p q w = rw w (inr refl)

  on_same : (b c d : ℕ) → (x b).way ≡ On c → (x b).way ≡ On d → c ≡ d
  on_same b c d e f = cc

  on_eq : (b c d : ℕ) → (x b).way ≡ On c → d ≡ c → (x b).way ≡ On d
  on_eq b c d w e = rw e w

  on_only : (b c d : ℕ) → (x b).way ≡ On c → Leads (x b).way d → d ≡ c
  on_only b c d w k = rw w at k

  not_both : (b c p q : ℕ) → (x b).way ≡ On c → (x b).way ≡ Fork p q → ⊥
  not_both b c p q e f = cc

  -- Blocks that one edge enters, one after the other, without an operation before the last.

  pub data Chain (p : ℕ) : ℕ → Type 0 where
    at : Chain p p
    next : {g h : ℕ} → Chain p g → (x g).ops ≡ 0 → Edge g h h → ((d : ℕ) → Edge d h h → d ≡ g) → Chain p h

  chain_up : {p h : ℕ} → Chain p h → p ≤ h
  chain_up at = omega arith
  chain_up (next {g = g} {h = h} c o v u) = let l : g < h = v.before in omega (arith, chain_up c)

  -- chains from the two arms of a fork don't meet
  arms_apart : (f p q : ℕ) → Edge f p p → Edge f q q → (p ≡ q → ⊥) → {s t : ℕ} → Chain p s → Chain q t → s ≡ t
      → ⊥
  arms_apart f p q ep eq d at at e = d e
  arms_apart f p q ep eq d at (next {g = g} {h = h} c o v u) e = grind (arith, chain_up)
  arms_apart f p q ep eq d (next {g = g} {h = h} c o v u) at e = grind (arith, chain_up)
  arms_apart f p q ep eq d (next {g = g} {h = h} c o v u) (next {g = g2} {h = h2} c2 o2 v2 u2) e =
      grind (arith, arms_apart f p q ep eq d c c2 (sym (u g2 (rw e v2))))

  parts_of : (f p q : ℕ) (a : ℕ) → Known f a → (x f).way ≡ Fork p q → p ≡ q → ⊥
  parts_of f p q a k w = subst Parts w (run.parts f k.low_block k.high_block)

  -- entering a block that is no meeting
  single : (b a c : ℕ) (f : Known b a) (k : Leads (x b).way c) → (st c ≡ Many → ⊥)
      → ((st c ≡ hand b) × ((d : ℕ) → Edge d c c → d ≡ b))
  single b a c f k m = go (entry b a c f k).kind
    where
      go : Kind n x low heads ways states behind run b c f.y (entry b a c f k).z
          → (st c ≡ hand b) × ((d : ℕ) → Edge d c c → d ≡ b)
      go h = grind arith

  -- an arm of a fork is entered from it alone, and shares what came before
  arm_in : (b a c p q : ℕ) (f : Known b a) → (x b).way ≡ Fork p q → Leads (x b).way c
      → (st c ≡ Shared) × ((d : ℕ) → Edge d c c → d ≡ b)
  arm_in b a c p q f w k = go (entry b a c f k).kind
    where
      go : Kind n x low heads ways states behind run b c f.y (entry b a c f k).z
          → (st c ≡ Shared) × ((d : ℕ) → Edge d c c → d ≡ b)
      go h = grind (arith, hand_fork, not_both)

  shared_not_many : (c : ℕ) → st c ≡ Shared → st c ≡ Many → ⊥
  shared_not_many c e f = cc

  -- behind a block that shares what came before, an operation comes before paths meet or end
  pub record Ahead (p a : ℕ) : Type 0 where
    pub block : ℕ
    pub chain : Chain p block
    pub path : Path block a
    pub some : 1 ≤ (x block).ops
    pub shares : st block ≡ Shared

  ahead : (fuel q p a : ℕ) → n < fuel + p → Chain q p → Path p a → st p ≡ Shared → Ahead q a
  ahead zero q p a l c h s = absurd (let m : p ≤ n = (known_at h).high_block in omega arith)
  ahead (suc fuel) q p a l c h s =
      go (ops_or p) (λ r o k w u. ahead fuel q r a (omega (arith, later p a r (known_at h) o))
      (next c k (came p a r (known_at h) o) u) (go_empty p a r h k o) w)
    where
      way_of : (w : Way) → (w ≡ Out) ⊎ ((c : ℕ) × (w ≡ On c)) ⊎ ((p : ℕ) × (q : ℕ) × (w ≡ Fork p q))
      way_of Out = inl refl
      way_of (On c) = inr (inl (c, refl))
      way_of (Fork p q) = inr (inr (p, q, refl))

      go : ((x p).ops ≡ 0) ⊎ (1 ≤ (x p).ops) → ((r : ℕ) → Leads (x p).way r → (x p).ops ≡ 0 → st r ≡ Shared
          → ((d : ℕ) → Edge d r r → d ≡ p) → Ahead q a) → Ahead q a
      go (inr e) rec = record { block = p; chain = c; path = h; some = e; shares = s }
      go (inl e) rec = elim (way_of (x p).way) [
        | inl w ↦ absurd (no_out p a (known_at h) e w s)
        | inr v ↦ elim v [
          | inr w ↦ (let r : (st w.0 ≡ Shared) × ((d : ℕ) → Edge d w.0 w.0 → d ≡ p) = arm_in p a w.0 w.0 w.1
              (known_at h) w.2 (one_leads p w.0 w.1 w.2) in rec w.0 (one_leads p w.0 w.1 w.2) e r.0 r.1)
          | inl w ↦ on w.0 w.1 e
        ]
      ]
        where
          on : (c : ℕ) → (x p).way ≡ On c → (x p).ops ≡ 0 → Ahead q a
          on c w e = onto (entry p a c (known_at h) (on_leads p c w)).kind
            where
              onto : Kind n x low heads ways states behind run p c (known_at h).y
                  (entry p a c (known_at h) (on_leads p c w)).z → Ahead q a
              onto (inl k) = rec c (on_leads p c w) e (k.0 ∙ (hand_empty p c w e ∙ s)) k.2
              onto (inr k) = absurd (no_meet p a c (known_at h) e w k.2 s)

  -- one that isn't met by many has one operation before it
  abbrev Same : ℕ → Type 0
  Same m = (e a c : ℕ) → e < m → Path e a → Path e c → (st e ≡ Many → ⊥) → a ≡ c

  unique_on : (e b a b2 a2 : ℕ) → Same e → Path b a → Leads (x b).way e → Path b2 a2 → Leads (x b2).way e
      → (st e ≡ Many → ⊥) → after b a ≡ after b2 a2
  unique_on e b a b2 a2 rec p k p2 k2 m = go (ops_or b)
    where
      one : (st e ≡ hand b) × ((d : ℕ) → Edge d e e → d ≡ b)
      one = single b a e (known_at p) k m

      same : b2 ≡ b
      same = one.1 b2 (came b2 a2 e (known_at p2) k2)

      not_many : (x b).ops ≡ 0 → st b ≡ Many → ⊥
      not_many z s = elim (on_or_fork (x b).way e k) [
        | inl w ↦ m (one.0 ∙ (hand_empty b e w z ∙ s))
        | inr w ↦
            no_fork b a w.0 w.1 (known_at p) z w.2 s
      ]

      go : ((x b).ops ≡ 0) ⊎ (1 ≤ (x b).ops) → after b a ≡ after b2 a2
      go (inr z) = full_after b a z
          ∙ (sym same ∙ sym (full_after b2 a2 (subst (λ (i : ℕ). 1 ≤ (x i).ops) (sym same) z)))
      go (inl z) = empty_after b a z
          ∙ (rec b a a2 (later b a e (known_at p) k) p (subst (λ (i : ℕ). Path i a2) same p2) (not_many z)
          ∙ sym (empty_after b2 a2 (ap (λ (i : ℕ). (x i).ops) same ∙ z)))

  unique_at : {b d i j : ℕ} → Path b i → Path d j → b ≡ d → Same b → (st b ≡ Many → ⊥) → i ≡ j
  unique_at (starts l1 h1 f1) (starts l2 h2 f2) e rec m = refl
  unique_at (starts l1 h1 f1) (goes {b = b} {a = a} {c = c} p k) e rec m =
      absurd (let i : (x c).first ≡ false = run.inner b c c (known_at p).low_block (known_at p).high_block k
      (later b a c (known_at p) k) (omega arith) in
      cc (sym f1 ∙ (ap (λ (v : ℕ). (x v).first) e ∙ i)))
  unique_at (goes {b = b} {a = a} {c = c} p k) (starts l2 h2 f2) e rec m =
      absurd (let i : (x c).first ≡ false = run.inner b c c (known_at p).low_block (known_at p).high_block k
      (later b a c (known_at p) k) (omega arith) in
      cc (sym f2 ∙ (ap (λ (v : ℕ). (x v).first) (sym e) ∙ i)))
  unique_at (goes {b = b} {a = a} {c = c} p k) (goes {b = b2} {a = a2} {c = c2} p2 k2) e rec m =
      grind (arith, unique_on)

  unique_below : (m : ℕ) → Same m
  unique_below zero e a c l p q k = absurd (omega arith)
  unique_below (suc m) e a c l p q k =
      unique_at p q refl (λ g i j w r s t. unique_below m g i j (omega (arith, w)) r s t) k

  unique : (e a c : ℕ) → Path e a → Path e c → (st e ≡ Many → ⊥) → a ≡ c
  unique e a c p q m = unique_below (suc e) e a c (omega arith) p q m

  last_before : {b a : ℕ} → Path b a → 1 ≤ a → a < b
  last_before (starts l h f) o = absurd (omega (arith, o))
  last_before (goes {b = b} {a = a} {c = c} p k) o = go (ops_or b) (λ q. last_before p q) o
    where
      go : ((x b).ops ≡ 0) ⊎ (1 ≤ (x b).ops) → (1 ≤ a → a < b) → 1 ≤ after b a → after b a < c
      go h rec o = grind (arith, full_after, later, known_at, empty_after)

  -- where paths parted: block e lies behind one arm, and at the other the last operation is the same
  pub record Origin (e a : ℕ) : Type 0 where
    pub fork : ℕ
    pub arm : ℕ
    pub other : ℕ
    pub to_arm : Edge fork arm arm
    pub to_other : Edge fork other other
    pub parted : arm ≡ other → ⊥
    pub chain : Chain arm e
    pub path : Path other a
    pub shares : st other ≡ Shared

  origin_fork : (b a c p q : ℕ) (h : Path b a) → (x b).way ≡ Fork p q → Leads (x b).way c
      → Origin c (after b a)
  origin_fork b a c p q h w k = go (rw w at k)
    where
      f : Known b a
      f = known_at h

      kp : Leads (x b).way p
      kp = one_leads b p q w

      kq : Leads (x b).way q
      kq = other_leads b p q w

      go : (c ≡ p) ⊎ (c ≡ q) → Origin c (after b a)
      go (inl e) = record {
        fork = b;
        arm = p;
        other = q;
        to_arm = came b a p f kp;
        to_other = came b a q f kq;
        parted = parts_of b p q a f w;
        chain = subst (Chain p) (sym e) at;
        path = goes h kq;
        shares = (arm_in b a q p q f w kq).0;
      }
      go (inr e) = record {
        fork = b;
        arm = q;
        other = p;
        to_arm = came b a q f kq;
        to_other = came b a p f kp;
        parted = λ d. parts_of b p q a f w (sym d);
        chain = subst (Chain q) (sym e) at;
        path = goes h kp;
        shares = (arm_in b a p p q f w kp).0;
      }

  origin : {e a : ℕ} → Path e a → 1 ≤ a → st e ≡ Shared → Origin e a
  origin (starts l h f) o s = absurd (omega (arith, o))
  origin (goes {b = b} {a = a} {c = c} p k) o s = go (on_or_fork (x b).way c k) (ops_or b)
      (λ q t. origin p q t)
    where
      one : (st c ≡ hand b) × ((d : ℕ) → Edge d c c → d ≡ b)
      one = single b a c (known_at p) k (shared_not_many c s)

      clash : st c ≡ Sole → ⊥
      clash e = cc

      go : ((x b).way ≡ On c) ⊎ ((p : ℕ) × (q : ℕ) × ((x b).way ≡ Fork p q))
          → ((x b).ops ≡ 0) ⊎ (1 ≤ (x b).ops) → (1 ≤ a → st b ≡ Shared → Origin b a) → Origin c (after b a)
      go (inr w) z rec = origin_fork b a c w.0 w.1 p w.2 k
      go (inl w) (inr z) rec = absurd (clash (one.0 ∙ hand_full b c w z))
      go (inl w) (inl z) rec =
          let e : after b a ≡ a = empty_after b a z in
          let r : Origin b a = rec (omega (arith, e, o)) (sym (hand_empty b c w z) ∙ (sym one.0 ∙ s)) in
          record {
            fork = r.fork;
            arm = r.arm;
            other = r.other;
            to_arm = r.to_arm;
            to_other = r.to_other;
            parted = r.parted;
            chain = next r.chain z (came b a c (known_at p) k) one.1;
            path = subst (Path r.other) (sym e) r.path;
            shares = r.shares;
          }

  -- From a block with operations along single edges, through blocks without; the last edge is from d to c.

  pub data Straight (a : ℕ) : ℕ → ℕ → Type 0 where
    from : {c : ℕ} → 1 ≤ a → 1 ≤ (x a).ops → (x a).way ≡ On c → a < c → Straight a a c
    more : {d c e : ℕ} → Straight a d c → (x c).ops ≡ 0 → (x c).way ≡ On e → c < e → Straight a c e

  straight_one : {a d c : ℕ} → Straight a d c → 1 ≤ a
  straight_one (from l o w k) = l
  straight_one (more s z w k) = straight_one s

  first_step : {a d c : ℕ} → Straight a d c → (g : ℕ) × ((x a).way ≡ On g) × (g ≤ c)
  first_step (from {c = c} l o w k) = (c, w, omega arith)
  first_step (more {c = c} {e = e} s z w k) = let r = first_step s in (r.0, r.1, omega arith)

  ahead_on : (fuel a d c d2 c2 : ℕ) → c + c2 < fuel → Straight a d c → Straight a d2 c2 → c < c2
      → (g : ℕ) × ((x c).way ≡ On g) × (g ≤ c2)
  ahead_on zero a d c d2 c2 l s t k = absurd (omega arith)
  ahead_on (suc fuel) a d c d2 c2 l s t k =
      go t refl k (λ i j i2 j2 m p q r. ahead_on fuel a i j i2 j2 m p q r)
    where
      go : {i j : ℕ} → Straight a i j → j ≡ c2 → c < j → ((i j i2 j2 : ℕ) → j + j2 < fuel → Straight a i j
          → Straight a i2 j2 → j < j2 → (g : ℕ) × ((x j).way ≡ On g) × (g ≤ j2))
          → (g : ℕ) × ((x c).way ≡ On g) × (g ≤ c2)
      go (from {c = j} o z w q) e k rec = grind (arith, first_step, on_same)
      go (more {d = i2} {c = j2} {e = j} t z w q) e k rec = elim (cases_lt c j2) [
        | inl m ↦ grind arith
        | inr m ↦ elim (cases_eq c j2) [
          | inl f ↦ (j, ap (λ (v : ℕ). (x v).way) f ∙ w, omega (arith, e))
          | inr f ↦ absurd (let r = rec i2 j2 d c (omega (arith, l, e, q)) t s (omega (arith, m, f)) in
              let u : r.0 ≡ j = on_same j2 r.0 j r.1 w in omega (arith, r.2, u, k))
        ]
      ]

  goes_on : (a d c d2 c2 : ℕ) → Straight a d c → Straight a d2 c2 → c < c2 → (g : ℕ) × ((x c).way ≡ On g)
      × (g ≤ c2)
  goes_on a d c d2 c2 s t k = ahead_on (suc (c + c2)) a d c d2 c2 (omega arith) s t k

  -- two that end in one block end in one edge
  one_end : {a d c d2 c2 : ℕ} → Straight a d c → Straight a d2 c2 → c ≡ c2 → d ≡ d2
  one_end h g e = grind (arith, first_step, on_same, cases_lt, goes_on, cases_eq)

  -- a path to a block that doesn't share what came before
  straight_to : {e a : ℕ} → Path e a → (st e ≡ Shared → ⊥) → (d : ℕ) × Straight a d e
  straight_to (starts {b = b} l h f) m = absurd (m (rw f refl))
  straight_to (goes {b = b} {a = a} {c = c} p k) m = go (ops_or b) (entry b a c (known_at p) k).kind
      (λ q. straight_to p q)
    where
      lt : b < c
      lt = later b a c (known_at p) k

      through : (x b).ops ≡ 0 → (x b).way ≡ On c → (d : ℕ) × Straight a d b
          → (d : ℕ) × Straight (after b a) d c
      through z w r = (b, rw (empty_after b a z) (more r.1 z w lt))

      begun : 1 ≤ (x b).ops → (x b).way ≡ On c → (d : ℕ) × Straight (after b a) d c
      begun z w =
          (b, subst (λ (i : ℕ). Straight i b c) (sym (full_after b a z)) (from (known_at p).low_block z w lt))

      go : ((x b).ops ≡ 0) ⊎ (1 ≤ (x b).ops) → Kind n x low heads ways states behind run b c (known_at p).y
          (entry b a c (known_at p) k).z → ((st b ≡ Shared → ⊥) → (d : ℕ) × Straight a d b)
          → (d : ℕ) × Straight (after b a) d c
      go (inr z) (inr s) rec = begun z s.1
      go (inl z) (inr s) rec = through z s.1 (rec (λ q. no_meet b a c (known_at p) z s.1 s.2 q))
      go z (inl s) rec = elim (on_or_fork (x b).way c k) [
        | inr w ↦ absurd (m (s.0 ∙ hand_fork b w.0 w.1 w.2))
        | inl w ↦ elim z [
          | inr o ↦ begun o w
          | inl o ↦ through o w (rec (λ q. m (s.0 ∙ (hand_empty b c w o ∙ q))))
        ]
      ]

  -- such a block isn't shared, and a path before its end goes along it
  straight_state : {a d c : ℕ} (r : ℕ) → Path a r → Straight a d c → Path c a × (st c ≡ Shared → ⊥)
  straight_state {a} r p (from {c = c} l o w k) =
      grind (arith, go_full a r c p o (on_leads a c w), entry a r c (known_at p) (on_leads a c w))
  straight_state {a} r p (more {d = d} {c = c} {e = e} t z w k) =
      let g : Path c a × (st c ≡ Shared → ⊥) = straight_state r p t in (
        go_empty c a e g.0 z (on_leads c e w),
        λ s. clash s g.0 g.1 (entry c a e (known_at g.0) (on_leads c e w)).kind,
      )
    where
      clash : st e ≡ Shared → (h : Path c a) → (st c ≡ Shared → ⊥) → Kind n x low heads ways states behind run
          c e (known_at h).y (entry c a e (known_at h) (on_leads c e w)).z → ⊥
      clash s h m p = grind (arith, hand_empty)

  along : {b a : ℕ} → Path b a → 1 ≤ a → (d e : ℕ) → Straight a d e → b < e → (i : ℕ) × Straight a i b
  along (starts l h f) o d e s k = absurd (omega (arith, o))
  along (goes {b = b} {a = a} {c = c} p q) o d e s k = go (ops_or b) (λ l t m. along p l d e t m)
    where
      lt : b < c
      lt = later b a c (known_at p) q

      go : ((x b).ops ≡ 0) ⊎ (1 ≤ (x b).ops) → (1 ≤ a → Straight a d e → b < e → (i : ℕ) × Straight a i b)
          → (i : ℕ) × Straight (after b a) i c
      go (inr z) rec =
          let f : after b a ≡ b = full_after b a z in
          let t : Straight b d e = rw f at s in
          let r = first_step t in
          let w : c ≡ r.0 = on_only b r.0 c r.1 q in (
            b,
            rw f (from (known_at p).low_block z (on_eq b r.0 c r.1 w) lt),
          )
      go (inl z) rec =
          let f : after b a ≡ a = empty_after b a z in
          let t : Straight a d e = subst (λ (i : ℕ). Straight i d e) f s in
          let u = rec (omega (arith, f, o)) t (omega (arith, lt, k)) in
          let r = goes_on a u.0 b d e u.1 t (omega (arith, lt, k)) in
          let w : c ≡ r.0 = on_only b r.0 c r.1 q in
          (b, subst (λ (i : ℕ). Straight i b c) (sym f) (more u.1 z (on_eq b r.0 c r.1 w) lt))

  path_of_last : {b a : ℕ} → Path b a → 1 ≤ a → Reached a
  path_of_last (starts l h f) o = absurd (omega (arith, o))
  path_of_last (goes {b = b} {a = a} {c = c} p k) o = go (ops_or b) (λ q. path_of_last p q)
    where
      go : ((x b).ops ≡ 0) ⊎ (1 ≤ (x b).ops) → (1 ≤ a → Reached a) → Reached (after b a)
      go h rec = grind (arith, full_after, after, empty_after)

  -- a shared block before the end of a straight way isn't behind its operation
  not_straight : (b a d e : ℕ) → Path b a → 1 ≤ a → Straight a d e → b < e → st b ≡ Shared → ⊥
  not_straight b a d e p o s k h = grind (arith, along, path_of_last, straight_state)

  -- Two last operations before a block where many meet.

  pub record TwoLasts (b : ℕ) : Type 0 where
    pub one : ℕ
    pub other : ℕ
    pub one_path : Path b one
    pub other_path : Path b other
    pub one_some : 1 ≤ one
    pub other_some : 1 ≤ other
    pub differ : one ≡ other → ⊥

  -- by an edge into a block where several meet a straight way leads
  pub record Straightly (d c : ℕ) : Type 0 where
    pub last : ℕ
    pub path : Path c last
    pub some : 1 ≤ last
    pub straight : Straight last d c

  straightly : (d c : ℕ) → Edge d c c → (x d).way ≡ On c → many_ways c ≡ true → Straightly d c
  straightly d c e w v = go (ops_or d)
    where
      r : Reached d
      r = path_to d e.one e.most e.reaches

      go : ((x d).ops ≡ 0) ⊎ (1 ≤ (x d).ops) → Straightly d c
      go (inr z) = record {
        last = d;
        path = go_full d r.last c r.path z e.edge;
        some = e.one;
        straight = from e.one z w e.before;
      }
      go (inl z) =
          let s = straight_to r.path (λ q. no_meet d r.last c (known_at r.path) z w v q) in
          record {
            last = r.last;
            path = go_empty d r.last c r.path z e.edge;
            some = straight_one s.1;
            straight = more s.1 z w e.before;
          }

  abbrev Two : ℕ → Type 0
  Two c = TwoCame n x low heads ways states behind run c c

  -- the two edges into a block where several meet
  pub record Meeting (c : ℕ) : Type 0 where
    pub two : Two c
    pub one_way : (x two.one).way ≡ On c
    pub other_way : (x two.other).way ≡ On c

  meeting : (c : ℕ) → 1 ≤ c → c ≤ n → many_ways c ≡ true → Meeting c
  meeting c l h v = go (inv n x low heads ways states behind run c c l (omega arith) h)
    where
      w : is_several (get_or (ways c) c Zero) ≡ true
      w = ap is_several
          (sym (settle n x low heads ways states behind run c (suc n) l h (omega arith) (omega arith))) ∙ v

      go : Inv n x low heads ways states behind run c c → Meeting c
      go (zero_in e g u) = absurd (cc (sym w ∙ ap is_several e))
      go (one_in a y e k p s g u) = absurd (cc (sym w ∙ ap is_several e))
      go (many_in a y z e k p t g u two) = record {
        two = two;
        one_way = (u two.one two.one_came).way;
        other_way = (u two.other two.other_came).way;
      }

  two_meet : (c : ℕ) → 1 ≤ c → c ≤ n → many_ways c ≡ true → TwoLasts c
  two_meet c l h v =
      let m : Meeting c = meeting c l h v in
      let s : Straightly m.two.one c = straightly m.two.one c m.two.one_came m.one_way v in
      let t : Straightly m.two.other c = straightly m.two.other c m.two.other_came m.other_way v in
      grind (arith, one_end)

  two_on : (b c : ℕ) → TwoLasts b → (x b).ops ≡ 0 → Leads (x b).way c → TwoLasts c
  two_on b c t z k = grind (arith, go_empty)

  two_lasts : {b a : ℕ} → Path b a → st b ≡ Many → TwoLasts b
  two_lasts (starts {b = b} l h f) m = grind (arith, st)
  two_lasts (goes {b = b} {a = a} {c = c} p k) m = go (entry b a c (known_at p) k).kind (λ q. two_lasts p q)
    where
      up : b < c
      up = later b a c (known_at p) k

      go : Kind n x low heads ways states behind run b c (known_at p).y (entry b a c (known_at p) k).z
          → (st b ≡ Many → TwoLasts b) → TwoLasts c
      go (inr s) rec = two_meet c (omega (arith, up)) (most b a c (known_at p) k) s.2
      go (inl s) rec = elim (on_or_fork (x b).way c k) [
        | inr w ↦ absurd (clash (s.0 ∙ hand_fork b w.0 w.1 w.2))
        | inl w ↦ elim (ops_or b) [
          | inr z ↦ absurd (clash_sole (s.0 ∙ hand_full b c w z))
          | inl z ↦ two_on b c (rec (sym (hand_empty b c w z) ∙ (sym s.0 ∙ m))) z k
        ]
      ]
        where
          clash : st c ≡ Shared → ⊥
          clash e = cc (sym m ∙ e)

          clash_sole : st c ≡ Sole → ⊥
          clash_sole e = cc (sym m ∙ e)

  -- With the no-op of block v left out.

  -- a path goes on to a block with no operation between
  pub data Skip (v e : ℕ) : ℕ → Type 0 where
    stay : Skip v e e
    over : {g h : ℕ} → Skip v e g → ((x g).ops ≡ 0) ⊎ (g ≡ v) → Leads (x g).way h → Skip v e h

  -- a path comes to block b, and a is the last block with an operation before it, or 0
  pub record Past (v b a : ℕ) : Type 0 where
    pub at : ℕ
    pub path : Path at a
    pub other : a ≡ v → ⊥
    pub skip : Skip v at b

  abbrev pub Last : ℕ → ℕ → Type 0
  Last v e = (((x e).ops ≡ 0) ⊎ (e ≡ v)) × ((x e).way ≡ Out)

  abbrev pub Stays : ℕ → ℕ → Type 0
  Stays v s = (1 ≤ (x s).ops) × (s ≡ v → ⊥)

  -- what would break a rule
  pub data Need (v : ℕ) : Type 0 where
    no_op : (e : ℕ) → Skip v v e → Past v e 0 → Last v e → Need v
    first_and_not : (s i : ℕ) → Skip v v s → Stays v s → Past v s 0 → 1 ≤ i → Past v s i → Need v
    last_and_not : (a e s : ℕ) → Skip v v e → 1 ≤ a → Past v e a → Last v e → Stays v s → Past v s a → Need v
    two_and_two : (a c s t : ℕ) → Skip v v s → 1 ≤ a → 1 ≤ c → (c ≡ a → ⊥) → Stays v s → Stays v t
        → (t ≡ s → ⊥) → Past v s a → Past v t a → Past v s c → Need v

  chain_skip : {v e p s : ℕ} → Skip v e p → Chain p s → Skip v e s
  chain_skip k at = k
  chain_skip k (next c o u w) = over (chain_skip k c) (inl o) u.edge

  -- wherever a path is, it comes to an operation or an end
  pub data Onward (v e r : ℕ) : Type 0 where
    meets : (s : ℕ) → Skip v e s → e ≤ s → 1 ≤ (x s).ops → Path s r → Onward v e r
    ends : (s : ℕ) → Skip v e s → (x s).ops ≡ 0 → (x s).way ≡ Out → Onward v e r

  onward : (fuel v e g r : ℕ) → n < fuel + g → e ≤ g → Skip v e g → Path g r → Onward v e r
  onward zero v e g r l u k p = absurd (let m : g ≤ n = (known_at p).high_block in omega arith)
  onward (suc fuel) v e g r l u k p =
      go (ops_or g) (λ h z o. onward fuel v e h r (omega (arith, later g r h (known_at p) o))
      (omega (arith, later g r h (known_at p) o)) (over k (inl z) o) (go_empty g r h p z o))
    where
      way_of : (w : Way) → (w ≡ Out) ⊎ ((c : ℕ) × Leads w c)
      way_of Out = inl refl
      way_of (On c) = inr (c, refl)
      way_of (Fork p q) = inr (p, inl refl)

      go : ((x g).ops ≡ 0) ⊎ (1 ≤ (x g).ops) → ((h : ℕ) → (x g).ops ≡ 0 → Leads (x g).way h → Onward v e r)
          → Onward v e r
      go (inr z) rec = meets g k u z p
      go (inl z) rec = elim (way_of (x g).way) [ inl w ↦ ends g k z w | inr w ↦ rec w.0 z w.1 ]

  past_here : (v b a : ℕ) → Path b a → (a ≡ v → ⊥) → Past v b a
  past_here v b a p d = record { at = b; path = p; other = d; skip = stay }

  below_self : (v a : ℕ) → Path v a → 1 ≤ v → a ≡ v → ⊥
  below_self v a p l e = grind (arith, cases_eq, last_before)

  -- at the other arm
  pub record Other (v a : ℕ) : Type 0 where
    pub block : ℕ
    pub stays : Stays v block
    pub path : Path block a
    pub shares : st block ≡ Shared

  other_arm : (v a : ℕ) → Path v a → 1 ≤ a → st v ≡ Shared → Other v a
  other_arm v a p o s =
      let g : Origin v a = origin p o s in
      let h : Ahead g.other a = ahead (suc n) g.other g.other a (omega arith) at g.path g.shares in
      grind (arith, arms_apart)

  need_out : (v a : ℕ) → Path v a → (x v).way ≡ Out → st v ≡ Shared → Need v
  need_out v a p w s = go (cases_eq a 0)
    where
      d : a ≡ v → ⊥
      d = below_self v a p (known_at p).low_block

      go : (a ≡ 0) ⊎ (a ≡ 0 → ⊥) → Need v
      go (inl z) = no_op v stay (subst (Past v v) z (past_here v v a p d)) (inr refl, w)
      go (inr z) = let o : Other v a = other_arm v a p (omega (arith, z)) s in
          last_and_not a v o.block stay (omega (arith, z)) (past_here v v a p d) (inr refl, w) o.stays
          (past_here v o.block a o.path d)

  need_fork : (v a p q : ℕ) → Path v a → 1 ≤ (x v).ops → (x v).way ≡ Fork p q → st v ≡ Many → Need v
  need_fork v a p q h z w m =
      let f : Known v a = known_at h in
      let kp : Leads (x v).way p = one_leads v p q w in
      let kq : Leads (x v).way q = other_leads v p q w in
      let t : TwoLasts v = two_lasts h m in
      let s1 : Ahead p v = ahead (suc n) p p v (omega arith) at (go_full v a p h z kp)
      (arm_in v a p p q f w kp).0 in
      let s2 : Ahead q v = ahead (suc n) q q v (omega arith) at (go_full v a q h z kq)
      (arm_in v a q p q f w kq).0 in
      let u1 : v < p = later v a p f kp in
      let u2 : v < q = later v a q f kq in
      let d1 : t.one ≡ v → ⊥ = below_self v t.one t.one_path f.low_block in
      let d2 : t.other ≡ v → ⊥ = below_self v t.other t.other_path f.low_block in
      two_and_two t.one t.other s1.block s2.block (chain_skip (over stay (inr refl) kp) s1.chain) t.one_some
      t.other_some (λ e. t.differ (sym e))
      (s1.some, λ e. absurd (omega (arith, chain_up s1.chain, u1, e))) (grind (arith, chain_up))
      (λ e. arms_apart v p q (came v a p f kp) (came v a q f kq) (parts_of v p q a f w) s1.chain s2.chain
      (sym e))
      (record { at = v; path = t.one_path; other = d1; skip = chain_skip (over stay (inr refl) kp) s1.chain })
      (record { at = v; path = t.one_path; other = d1; skip = chain_skip (over stay (inr refl) kq) s2.chain })
      (record {
        at = v;
        path = t.other_path;
        other = d2;
        skip = chain_skip (over stay (inr refl) kp) s1.chain;
      })

  -- another way into the block where v leads
  pub record Beside (v c : ℕ) : Type 0 where
    pub edge : ℕ
    pub way : Straightly edge c
    pub differ : edge ≡ v → ⊥

  beside : (v c : ℕ) → 1 ≤ c → c ≤ n → many_ways c ≡ true → Beside v c
  beside v c l h m = go (cases_eq g.two.one v)
    where
      g : Meeting c
      g = meeting c l h m

      go : (g.two.one ≡ v) ⊎ (g.two.one ≡ v → ⊥) → Beside v c
      go h = grind (arith, g, straightly)

  skip_on : {v e c s : ℕ} → Skip v e c → Skip v c s → Skip v e s
  skip_on k stay = k
  skip_on k (over l o u) = over (skip_on k l) o u

  need_on : (v a c : ℕ) → Path v a → 1 ≤ (x v).ops → (x v).way ≡ On c → many_ways c ≡ true → st v ≡ Shared
      → Need v
  need_on v a c p z w m s =
      go (cases_eq a 0) (onward (suc n) v c c v (omega arith) (omega arith) stay (go_full v a c p z k))
    where
      f : Known v a
      f = known_at p

      k : Leads (x v).way c
      k = on_leads v c w

      up : v < c
      up = later v a c f k

      d : a ≡ v → ⊥
      d = below_self v a p f.low_block

      b : Beside v c
      b = beside v c (omega (arith, up)) (most v a c f k) m

      i : ℕ
      i = b.way.last

      -- that way doesn't begin at v
      apart : b.way.last ≡ v → ⊥
      apart e = b.differ (one_end (subst (λ (j : ℕ). Straight j b.edge c) e b.way.straight)
          (from f.low_block z w up) refl)

      from_self : {g : ℕ} → Skip v c g → Skip v v g
      from_self q = skip_on (over stay (inr refl) k) q

      by_self : {g : ℕ} → Skip v c g → Past v g a
      by_self q = record { at = v; path = p; other = d; skip = from_self q }

      by_other : {g : ℕ} → Skip v c g → Past v g b.way.last
      by_other q = record { at = c; path = b.way.path; other = apart; skip = q }

      stays : (g : ℕ) → c ≤ g → 1 ≤ (x g).ops → Stays v g
      stays g l o = (o, λ e. absurd (omega (arith, up, l, e)))

      go : (a ≡ 0) ⊎ (a ≡ 0 → ⊥) → Onward v c v → Need v
      go (inl e) (ends g q o u) = no_op g (from_self q) (subst (Past v g) e (by_self q)) (inl o, u)
      go (inl e) (meets g q l o r) = first_and_not g b.way.last (from_self q) (stays g l o)
          (subst (Past v g) e (by_self q)) b.way.some (by_other q)
      go (inr e) (ends g q o u) =
          let t : Other v a = other_arm v a p (omega (arith, e)) s in
          last_and_not a g t.block (from_self q) (omega (arith, e)) (by_self q) (inl o, u) t.stays
          (past_here v t.block a t.path d)
      go (inr e) (meets g q l o r) =
          let t : Other v a = other_arm v a p (omega (arith, e)) s in
          two_and_two a b.way.last g t.block (from_self q) (omega (arith, e)) b.way.some
          (λ y. not_straight v a b.edge c p (omega (arith, e))
          (subst (λ (j : ℕ). Straight j b.edge c) y b.way.straight) up s)
          (stays g l o) t.stays
          (λ y. d (grind (arith, unique, shared_not_many)))
          (by_self q) (past_here v t.block a t.path d) (by_other q)

  not_vain : (w : Way) (t : LastOps) → is_vain w (ways (suc n)) t ≡ false → ((w ≡ Out) × (t ≡ Shared))
      ⊎ ((c : ℕ) × (w ≡ On c) × (t ≡ Shared) × (many_ways c ≡ true))
      ⊎ ((p : ℕ) × (q : ℕ) × (w ≡ Fork p q) × (t ≡ Many))
  not_vain w t e = grind (arith, many_ways)

  -- a no-op that isn't vain for the state is needed
  pub needed : (v : ℕ) → 1 ≤ v → v ≤ n → reach n x low heads ways states behind run v ≡ true → 1 ≤ (x v).ops
      → is_vain (x v).way (ways (suc n)) (st v) ≡ false → Need v
  needed v l h r z e = go (not_vain (x v).way (st v) e)
    where
      p : Reached v
      p = path_to v l h r

      go : (((x v).way ≡ Out) × (st v ≡ Shared)) ⊎ ((c : ℕ) × ((x v).way ≡ On c) × (st v ≡ Shared)
          × (many_ways c ≡ true)) ⊎ ((p : ℕ) × (q : ℕ) × ((x v).way ≡ Fork p q) × (st v ≡ Many)) → Need v
      go (inl w) = need_out v p.last p.path w.0 w.1
      go (inr (inl w)) = need_on v p.last w.0 p.path z w.1 w.3 w.2
      go (inr (inr w)) = need_fork v p.last w.0 w.1 p.path z w.2 w.3
