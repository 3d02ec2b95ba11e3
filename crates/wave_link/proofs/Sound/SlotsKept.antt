-- Paths of a draft with no-ops are paths of the draft.
use Rattle.std.proofs.Common.{ℕ, suc, ◌+◌, ◌-◌, ◌≡◌, ◌<◌, ◌≤◌, ◌⊎◌, Bool, true, false, List, [], ◌∷◌, ◌++◌}
use Rattle.std.proofs.Common.{Option, Some, None, refl, sym, ap, ◌∙◌, inl, inr, subst, arith, ne_eqb}
use Rattle.std.proofs.Math.Path.{fun_ext}
use Rattle.std.proofs.lemmas.Bool.{cases_eq, cases_lt, lt-ltb, le-ltb}
use Rattle.ws_isa.specs.declared.instr.Dest.{Dest}
use Rattle.ws_isa.specs.Image.{Image, first_number, ports, is_advance, stops, target, now_dests, is_first}
use Rattle.ws_isa.specs.Image.{start_dests, IsIn, IsBlock}
use Rattle.ws_isa.specs.Sound.{OpenSlots, none_open, opened, all_opened, Fresh, closed, HasDest, opens_at}
use Rattle.ws_isa.specs.Sound.{Opens, begin, turn, edge, AdvancesOpen, EndSlots, EdgeInto, SlotRules}
use Rattle.wave_link.proofs.Grown.GrownForm.{Trigger, Whole, Own, Before, renamed, nop_slot, own_slot}
use Rattle.wave_link.proofs.Grown.GrownForm.{before_slot, extra, is_pending, lift, Grown}
use Rattle.ws_isa.proofs.Steps.{first_up}
use Rattle.ws_isa.proofs.Opened.{opened_here}
use Rattle.ws_isa.proofs.Slots.{all_opened_append as all_append}

pub fresh_append : (xs bs : List Dest) (o : OpenSlots) → Fresh xs o → Fresh bs (all_opened xs o)
    → Fresh (xs ++ bs) o
fresh_append [] bs o f g = g
fresh_append (a ∷ xs) bs o f g = (f.0, fresh_append xs bs (opened a o) f.1 g)

opened_there : (d : Dest) (o : OpenSlots) (j q : ℕ) → (d.instr ≡ j → ⊥) → opened d o j q ≡ o j q
opened_there d o j q n = rw (ne_eqb d.instr j n) refl

pub swap : (c d : Dest) (o : OpenSlots) → opened c (opened d o) ≡ opened d (opened c o)
swap c d o = grind (arith, fun_ext)

pub all_swap : (ds : List Dest) (c : Dest) (o : OpenSlots) → all_opened ds (opened c o) ≡ opened c
    (all_opened ds o)
all_swap [] c o = refl
all_swap (d ∷ ds) c o = grind (arith, swap, all_swap ds c (opened d o))

-- the no-op's slot is open too
abbrev pub held : Bool → ℕ → OpenSlots → OpenSlots
held true n o = opened (record { instr = n; port = 0 }) o
held false n o = o

held_there : (p : Bool) (n : ℕ) (o : OpenSlots) (j q : ℕ) → (n ≡ j → ⊥) → held p n o j q ≡ o j q
held_there p n o j q h = grind (arith, opened_there)

closed_held : (p : Bool) (n m : ℕ) (o : OpenSlots) → (n ≡ m → ⊥) → closed m (held p n o) ≡ held p n
    (closed m o)
closed_held p n m o h = grind (arith, fun_ext, cases_eq)

all_held : (ds : List Dest) (p : Bool) (n : ℕ) (o : OpenSlots) → all_opened ds (held p n o) ≡ held p n
    (all_opened ds o)
all_held ds p n o = grind (arith, all_swap)

own_step : (t : Trigger) (n k : ℕ) (o : OpenSlots) → all_opened (own_slot t n k) (held (is_pending t k) n o)
    ≡ held (is_pending t (suc k)) n o
own_step t n k o = grind (arith, cases_eq, cases_lt, nop_slot, held, le-ltb, lt-ltb)

module _ (draft image : Image) (g : Grown draft image) where
  pub up : OpenSlots → OpenSlots
  up o = lift g.origin o

  up_at : (o : OpenSlots) (m q k : ℕ) → g.origin m ≡ Some k → up o m q ≡ o k q
  unfolding up
  up_at o m q k e = rw e refl

  up_none : (o : OpenSlots) (m q : ℕ) → g.origin m ≡ None → up o m q ≡ false
  unfolding up
  up_none o m q e = rw e refl

  origin_cases : (m : ℕ) → ((k : ℕ) × (g.origin m ≡ Some k)) ⊎ (g.origin m ≡ None)
  origin_cases m = go (g.origin m) refl
    where
      go : (x : Option ℕ) → g.origin m ≡ x → ((k : ℕ) × (g.origin m ≡ Some k)) ⊎ (g.origin m ≡ None)
      go None e = inr e
      go (Some k) e = inl (k, e)

  some_same : {j k : ℕ} → Some j ≡ Some k → j ≡ k
  some_same e = cc

  -- a destination is opened before or after the numbers change
  up_opened : (d : Dest) (o : OpenSlots) → g.origin (g.new d.instr) ≡ Some d.instr
      → opened (record { instr = g.new d.instr; port = d.port }) (up o) ≡ up (opened d o)
  up_opened d o r = fun_ext (λ m. fun_ext (λ q. point m q (origin_cases m)))
    where
      point : (m q : ℕ) → ((k : ℕ) × (g.origin m ≡ Some k)) ⊎ (g.origin m ≡ None)
          → opened (record { instr = g.new d.instr; port = d.port }) (up o) m q ≡ up (opened d o) m q
      point m q h = grind (arith, opened_there, up_none, cases_eq, d.instr, up_at, some_same)

  up_all : (ds : List Dest) (o : OpenSlots) → ((j q : ℕ) → HasDest ds j q → g.origin (g.new j) ≡ Some j)
      → all_opened (renamed g.new ds) (up o) ≡ up (all_opened ds o)
  up_all [] o r = refl
  up_all (d ∷ ds) o r = ap (all_opened (renamed g.new ds))
      (up_opened d o (r d.instr d.port (inl (refl, refl)))) ∙ up_all ds (opened d o) (λ j q h. r j q (inr h))

  up_fresh : (ds : List Dest) (o : OpenSlots) → ((j q : ℕ) → HasDest ds j q → g.origin (g.new j) ≡ Some j)
      → Fresh ds o → Fresh (renamed g.new ds) (up o)
  up_fresh [] o r f = tt
  up_fresh (d ∷ ds) o r f = (
    up_at o (g.new d.instr) d.port d.instr (r d.instr d.port (inl (refl, refl))) ∙ f.0,
    rw (up_opened d o (r d.instr d.port (inl (refl, refl))))
        (up_fresh ds (opened d o) (λ j q h. r j q (inr h)) f.1),
  )

  up_closed : (k n : ℕ) (o : OpenSlots) → g.origin n ≡ Some k → closed n (up o) ≡ up (closed k o)
  up_closed k n o r = fun_ext (λ m. fun_ext (λ q. point m q (cases_eq n m) (origin_cases m)))
    where
      point : (m q : ℕ) → (n ≡ m) ⊎ (n ≡ m → ⊥) → ((j : ℕ) × (g.origin m ≡ Some j)) ⊎ (g.origin m ≡ None)
          → closed n (up o) m q ≡ up (closed k o) m q
      point m q (inl e) x = grind (arith, up_at)
      point m q (inr e) (inr f) = rw (ne_eqb n m e) (up_none o m q f ∙ sym (up_none (closed k o) m q f))
      point m q (inr e) (inl (j, f)) =
          rw (ne_eqb n m e) (up_at o m q j f ∙ sym (up_at (closed k o) m q j f ∙ there))
        where
          there : closed k o j q ≡ o j q
          there = rw (ne_eqb k j (λ h. e (g.origin_only n k r ∙ ap g.new h ∙ sym (g.origin_only m j f)))) refl

  up_nop : (n : ℕ) (o : OpenSlots) → g.origin n ≡ None → closed n (held true n (up o)) ≡ up o
  up_nop n o r = grind (arith, fun_ext, cases_eq, held, up, up_none)

  -- a path of the image is a path of the draft
  pub record Real (b m : ℕ) (o : OpenSlots) : Type 0 where
    pub here : IsBlock draft b
    pub next : ℕ
    pub slots : OpenSlots
    pub path : Opens draft b next slots
    pub low : first_number draft b ≤ next
    pub high : next ≤ first_number draft (suc b)
    pub number : m ≡ next + g.shift b
    pub are : o ≡ held (is_pending (g.trigger b) next) (g.nop b) (up slots)

  pub record Passed (b m : ℕ) (o : OpenSlots) : Type 0 where
    pub here : IsBlock draft b
    pub slots : OpenSlots
    pub path : Opens draft b (first_number draft (suc b)) slots
    pub number : m ≡ first_number image (suc b)
    pub are : o ≡ up slots

  start_pending : (b : ℕ) → IsBlock draft b → (o : OpenSlots)
      → all_opened (before_slot (g.trigger b) (g.nop b)) o ≡ held
      (is_pending (g.trigger b) (first_number draft b)) (g.nop b) o
  start_pending b h o = grind (arith, Trigger, before_slot, held, is_pending, Whole, Before, Own, le-ltb)

  first_quiet : (b : ℕ) → IsBlock draft b → is_first draft b ≡ true → before_slot (g.trigger b) (g.nop b) ≡ []
  first_quiet b h f = grind (arith, Trigger, before_slot, Whole, Own, Before)

  end_pending : (b : ℕ) → IsBlock draft b → extra (g.trigger b) ≡ 1
      → is_pending (g.trigger b) (first_number draft (suc b)) ≡ true
  end_pending b h x = grind (arith, Trigger, extra, is_pending, Whole, Before, Own, lt-ltb)

  whole_quiet : (b k : ℕ) → extra (g.trigger b) ≡ 0 → is_pending (g.trigger b) k ≡ false
  whole_quiet b k x = grind (arith, Trigger, extra, is_pending, Whole, Before, Own)

  pub extra_cases : (b : ℕ) → (extra (g.trigger b) ≡ 0) ⊎ (extra (g.trigger b) ≡ 1)
  extra_cases b = grind (arith, Trigger, extra, Whole, Before, Own)

  -- an instruction of the draft, or the no-op
  turn_cases : (b k : ℕ) → IsBlock draft b → k ≤ first_number draft (suc b)
      → k + g.shift b < first_number image (suc b) → (k < first_number draft (suc b))
      ⊎ ((k ≡ first_number draft (suc b)) × (extra (g.trigger b) ≡ 1) × (k + g.shift b ≡ g.nop b))
  turn_cases b k h l w = grind (arith, cases_lt, extra_cases, extra)

  not_nop : (b k : ℕ) → IsBlock draft b → k < first_number draft (suc b) → g.nop b ≡ k + g.shift b → ⊥
  not_nop b k h l e = omega arith

  -- the turn of a real instruction
  real_turn : (b k : ℕ) (o : OpenSlots) → IsBlock draft b → IsIn draft b k →
      all_opened (now_dests image (k + g.shift b))
      (closed (k + g.shift b) (held (is_pending (g.trigger b) k) (g.nop b) (up o)))
      ≡ held (is_pending (g.trigger b) (suc k)) (g.nop b) (up (all_opened (now_dests draft k) (closed k o)))
  real_turn b k o h i =
      let p : Bool = is_pending (g.trigger b) k in
      let n : ℕ = g.nop b in
      let m : ℕ = k + g.shift b in
      let ds : List Dest = now_dests draft k in
      let at : g.origin m ≡ Some k = ap g.origin (sym (g.new_is b k h i)) ∙ g.origin_real b k h i in
      let a : closed m (held p n (up o)) ≡ held p n (up (closed k o)) =
      closed_held p n m (up o) (not_nop b k h i.1) ∙ ap (held p n) (up_closed k m o at) in
      grind (arith, renamed, up, all_held, up_all, own_slot, all_append, own_step)

  -- along an edge
  edge_turn : (b r : ℕ) (o : OpenSlots) → IsBlock draft b → stops draft b ≡ false →
      all_opened (opens_at image b r) (up o) ≡ all_opened
      (before_slot (g.trigger (target draft b r)) (g.nop (target draft b r)))
      (up (all_opened (opens_at draft b r) o))
  edge_turn b r o h s = grind (arith, before_slot, up, all_append, renamed, up_all)

  start_turn : all_opened (start_dests image) none_open ≡ up (all_opened (start_dests draft) none_open)
  start_turn = grind (arith, none_up, up_all, g.start_real)
    where
      none_up : none_open ≡ up none_open
      none_up = grind (arith, fun_ext, origin_cases, up, up_at, up_none)

  is_first_one : (d : Image) → is_first d 1 ≡ true
  unfolding is_first
  is_first_one d = refl

  at_end : (b m : ℕ) (o : OpenSlots) → Real b m o ⊎ Passed b m o → m ≡ first_number image (suc b)
      → IsBlock draft b × ((p : OpenSlots) × Opens draft b (first_number draft (suc b)) p × (o ≡ up p))
  at_end b m o h e = grind (arith, extra_cases, extra, up, held, whole_quiet)

  pub back : (b m : ℕ) (o : OpenSlots) → Opens image b m o → Real b m o ⊎ Passed b m o
  back b m o begin = inl (record {
    here = g.first_block;
    next = first_number draft 1;
    slots = all_opened (start_dests draft) none_open;
    path = begin;
    low = omega arith;
    high = first_up draft 1;
    number = g.first 1 g.first_block;
    are = grind (arith, start_turn, up, first_quiet, is_first_one, start_pending);
  })
  back b m o (turn {k = l} {o = p} path w) = elim (back b l p path) [
    | inr x ↦ absurd (omega (arith, x.number))
    | inl x ↦ elim (turn_cases b x.next x.here x.high (omega (arith, x.number))) [
      | inl a ↦ inl (after_turn b l p x a)
      | inr e ↦ inr (after_nop b l p x e.0 e.1 e.2)
    ]
  ]
    where
      after_turn : (b l : ℕ) (p : OpenSlots) → (x : Real b l p) → x.next < first_number draft (suc b)
          → Real b (suc l) (all_opened (now_dests image l) (closed l p))
      after_turn b l p x a = record {
        here = x.here;
        next = suc x.next;
        slots = all_opened (now_dests draft x.next) (closed x.next x.slots);
        path = turn x.path a;
        low = omega (arith, x.low);
        high = omega arith;
        number = omega (arith, x.number);
        are = grind (arith, real_turn, x.next, x.here);
      }

      after_nop : (b l : ℕ) (p : OpenSlots) → (x : Real b l p) → x.next ≡ first_number draft (suc b)
          → extra (g.trigger b) ≡ 1 → x.next + g.shift b ≡ g.nop b
          → Passed b (suc l) (all_opened (now_dests image l) (closed l p))
      after_nop b l p x e y f = grind (arith, end_pending, x.here, g.ends, g.nop_now, up_nop, g.origin_nop)
  back b m o (edge {b = c} {k = l} {o = p} path e s r) = inl (after_edge c l p (back c l p path) e s r)
    where
      after_edge : (c l : ℕ) (p : OpenSlots) → Real c l p ⊎ Passed c l p → l ≡ first_number image (suc c)
          → stops image c ≡ false → (r : ℕ) → Real (target image c r) (first_number image (target image c r))
          (all_opened (opens_at image c r) p)
      after_edge c l p x e s r =
          let h = at_end c l p x e in
          let st : stops draft c ≡ false = sym (g.stops_are c) ∙ s in
          let q : OpenSlots = h.1.0 in
          let b : ℕ = target draft c r in
          let here : IsBlock draft b = g.edges c r h.0 st in
          subst (λ (n : ℕ). Real n (first_number image n) (all_opened (opens_at image c r) p))
          (sym (g.targets_are c r)) (record {
            here = here;
            next = first_number draft b;
            slots = all_opened (opens_at draft c r) q;
            path = edge h.1.1 refl st r;
            low = omega arith;
            high = first_up draft b;
            number = g.first b here;
            are = grind (arith, edge_turn, start_pending, up);
          })

  renamed_real : (ds : List Dest) (j q : ℕ) → ((j q : ℕ) → HasDest ds j q → g.origin (g.new j) ≡ Some j)
      → HasDest (renamed g.new ds) j q → (k : ℕ) × (g.origin j ≡ Some k)
  renamed_real [] j q r h = absurd h
  renamed_real (d ∷ ds) j q r (inl h) = (d.instr, ap g.origin (sym h.0) ∙ r d.instr d.port (inl (refl, refl)))
  renamed_real (d ∷ ds) j q r (inr h) = renamed_real ds j q (λ j q x. r j q (inr x)) h

  fresh_held : (ds : List Dest) (p : Bool) (n : ℕ) (o : OpenSlots)
      → (p ≡ true → (j q : ℕ) → HasDest ds j q → n ≡ j → ⊥) → Fresh ds o → Fresh ds (held p n o)
  fresh_held (d ∷ ds) true n o a f = (
    held_there true n o d.instr d.port (a refl d.instr d.port (inl (refl, refl))) ∙ f.0,
    subst (Fresh ds) (swap (record { instr = n; port = 0 }) d o)
        (fresh_held ds true n (opened d o) (λ e j q h. a e j q (inr h)) f.1),
  )
  fresh_held ds p n o a f = grind arith

  own_fresh : (t : Trigger) (n k : ℕ) (o : OpenSlots) → (extra t ≡ 1 → o n 0 ≡ false)
      → Fresh (own_slot t n k) (held (is_pending t k) n o)
  own_fresh t n k o e = grind (arith, cases_eq, nop_slot, held, le-ltb)

  before_fresh : (t : Trigger) (n : ℕ) (o : OpenSlots) → (extra t ≡ 1 → o n 0 ≡ false)
      → Fresh (before_slot t n) o
  before_fresh t n o e = grind arith

  pending_extra : (t : Trigger) (k : ℕ) → is_pending t k ≡ true → extra t ≡ 1
  pending_extra t k e = grind arith

  nop_shut : (b : ℕ) (o : OpenSlots) → IsBlock draft b → extra (g.trigger b) ≡ 1 → up o (g.nop b) 0 ≡ false
  nop_shut b o h x = up_none o (g.nop b) 0 (g.origin_nop b h x)

  not_renamed : (b k : ℕ) (ds : List Dest) → IsBlock draft b
      → ((j q : ℕ) → HasDest ds j q → g.origin (g.new j) ≡ Some j) → is_pending (g.trigger b) k ≡ true
      → (j q : ℕ) → HasDest (renamed g.new ds) j q → g.nop b ≡ j → ⊥
  not_renamed b k ds h r e j q z f = grind (arith, renamed_real, pending_extra)

  real_fresh : (b k : ℕ) (o : OpenSlots) → IsBlock draft b → IsIn draft b k
      → Fresh (now_dests draft k) (closed k o) → Fresh (now_dests image (k + g.shift b))
      (closed (k + g.shift b) (held (is_pending (g.trigger b) k) (g.nop b) (up o)))
  real_fresh b k o h i f =
      let p : Bool = is_pending (g.trigger b) k in
      let n : ℕ = g.nop b in
      let m : ℕ = k + g.shift b in
      let ds : List Dest = now_dests draft k in
      let real : (j q : ℕ) → HasDest ds j q → g.origin (g.new j) ≡ Some j = grind arith in
      let at : g.origin m ≡ Some k = ap g.origin (sym (g.new_is b k h i)) ∙ g.origin_real b k h i in
      let a : closed m (held p n (up o)) ≡ held p n (up (closed k o)) =
      closed_held p n m (up o) (not_nop b k h i.1) ∙ ap (held p n) (up_closed k m o at) in
      let c : all_opened (renamed g.new ds) (held p n (up (closed k o))) ≡ held p n
      (up (all_opened ds (closed k o))) = grind (arith, all_held, renamed, up, up_all) in
      let one : Fresh (renamed g.new ds) (held p n (up (closed k o))) =
      grind (arith, fresh_held, renamed, up, not_renamed, up_fresh) in
      grind (arith, own_slot, renamed, up, own_fresh, nop_shut, fresh_append)

  edge_is_fresh : (b r : ℕ) (o : OpenSlots) → IsBlock draft b → stops draft b ≡ false
      → Fresh (opens_at draft b r) o → Fresh (opens_at image b r) (up o)
  edge_is_fresh b r o h s f =
      let t : ℕ = target draft b r in
      let real : (j q : ℕ) → HasDest (opens_at draft b r) j q → g.origin (g.new j) ≡ Some j = grind arith in
      g.edge_fresh b r (up o) h s (fresh_append (renamed g.new (opens_at draft b r))
      (before_slot (g.trigger t) (g.nop t)) (up o) (up_fresh (opens_at draft b r) o real f)
      (subst (Fresh (before_slot (g.trigger t) (g.nop t))) (sym (up_all (opens_at draft b r) o real))
      (grind (arith, before_fresh, up, nop_shut))))

  up_advances : (b : ℕ) (o : OpenSlots) → IsBlock draft b → AdvancesOpen draft b o
      → AdvancesOpen image b (up o)
  up_advances b o h a j q = (λ e. there e (origin_cases j), λ x. back_again x)
    where
      there : up o j q ≡ true → ((k : ℕ) × (g.origin j ≡ Some k)) ⊎ (g.origin j ≡ None)
          → IsIn image b j × (is_advance image j ≡ true) × (q ≡ 0)
      there e (inr f) = absurd (cc (sym (up_none o j q f) ∙ e))
      there e (inl (k, f)) =
          let x = (a k q).0 (sym (up_at o j q k f) ∙ e) in
          let n : j ≡ k + g.shift b = g.origin_only j k f ∙ g.new_is b k h x.0 in (
            (omega (arith, n, g.first b h, x.0.0), omega (arith, n, g.ends b h, x.0.1)),
            ap (is_advance image) n ∙ (g.advance_are b k h x.0 ∙ x.1),
            x.2,
          )

      back_again : IsIn image b j × (is_advance image j ≡ true) × (q ≡ 0) → up o j q ≡ true
      back_again x = go (turn_cases b (j - g.shift b) h (omega (arith, x.0.1, g.ends b h, extra_cases b))
          (omega (arith, x.0.0, x.0.1, g.first b h)))
        where
          low : g.shift b ≤ j
          low = omega (arith, x.0.0, g.first b h)

          go : (j - g.shift b < first_number draft (suc b)) ⊎ ((j - g.shift b ≡ first_number draft (suc b))
              × (extra (g.trigger b) ≡ 1) × (j - g.shift b + g.shift b ≡ g.nop b)) → up o j q ≡ true
          go (inr y) = absurd (cc (g.nop_advance b h y.1, ap (is_advance image) (the_nop y.2), x.1))
            where
              the_nop : (j - g.shift b) + g.shift b ≡ g.nop b → j ≡ g.nop b
              the_nop e = omega (arith, low, e)
          go (inl y) =
              let k : ℕ = j - g.shift b in
              let n : j ≡ k + g.shift b = omega (arith, low) in
              let i : IsIn draft b k = (omega (arith, x.0.0, g.first b h, low), y) in
              let f : g.origin j ≡ Some k = ap g.origin (n ∙ sym (g.new_is b k h i))
              ∙ g.origin_real b k h i in
              up_at o j q k f ∙ (a k q).1 (grind arith)

  module _ (rules : SlotRules draft) where
    turn_has_all : (b m : ℕ) (o : OpenSlots) → Real b m o ⊎ Passed b m o → m < first_number image (suc b)
        → (q : ℕ) → q < ports image m → o m q ≡ true
    turn_has_all b m o (inr x) w q l = absurd (omega arith)
    turn_has_all b m o (inl x) w q l = go (turn_cases b x.next x.here x.high (omega arith))
      where
        go : (x.next < first_number draft (suc b))
            ⊎ ((x.next ≡ first_number draft (suc b)) × (extra (g.trigger b) ≡ 1)
            × (x.next + g.shift b ≡ g.nop b)) → o m q ≡ true
        go (inl a) =
            let i : IsIn draft b x.next = (x.low, a) in
            let at : g.origin m ≡ Some x.next = ap g.origin (x.number ∙ sym (g.new_is b x.next x.here i))
            ∙ g.origin_real b x.next x.here i in
            let n : ports image m ≡ ports draft x.next = ap (ports image) x.number
            ∙ g.ports_are b x.next x.here i in
            ap (λ (s : OpenSlots). s m q) x.are
            ∙ (held_there (is_pending (g.trigger b) x.next) (g.nop b) (up x.slots) m q
            (λ e. not_nop b x.next x.here a (e ∙ x.number)) ∙ (up_at x.slots m q x.next at
            ∙ (rules.turns b x.next x.slots x.path a).has_all q (omega (arith, n))))
        go (inr e) = grind (arith, end_pending, opened_here)

    turn_fresh : (b m : ℕ) (o : OpenSlots) → Real b m o ⊎ Passed b m o → m < first_number image (suc b)
        → Fresh (now_dests image m) (closed m o)
    turn_fresh b m o h w = grind (arith, turn_cases, extra, real_fresh)

    left : (b : ℕ) (o : OpenSlots) → Opens image b (first_number image (suc b)) o
        → IsBlock draft b × ((p : OpenSlots) × Opens draft b (first_number draft (suc b)) p × (o ≡ up p))
    left b o path = at_end b (first_number image (suc b)) o (back b (first_number image (suc b)) o path) refl

    -- an edge of the image is an edge of the draft
    record Entered (c b : ℕ) (o : OpenSlots) : Type 0 where
      pub here : IsBlock draft b
      pub slots : OpenSlots
      pub into : EdgeInto draft c b slots
      pub are : o ≡ all_opened (before_slot (g.trigger b) (g.nop b)) (up slots)

    entered : (c b : ℕ) (o : OpenSlots) → EdgeInto image c b o → Entered c b o
    entered c b o e = grind (arith, left, edge_turn, before_slot, up)

    crosses : (c b : ℕ) (o : OpenSlots) → EdgeInto image c b o → is_first image b ≡ true
        → AdvancesOpen image b o
    crosses c b o e f =
        let x : Entered c b o = entered c b o e in
        let f' : is_first draft b ≡ true = sym (g.firsts_are b) ∙ f in
        subst (AdvancesOpen image b)
        (sym (x.are ∙ ap (λ (xs : List Dest). all_opened xs (up x.slots)) (first_quiet b x.here f')))
        (up_advances b x.slots x.here (rules.crossing c b x.slots x.into f'))

    joins : (c d b : ℕ) (o p : OpenSlots) → EdgeInto image c b o → EdgeInto image d b p
        → is_first image b ≡ false → o ≡ p
    joins c d b o p e f i =
        let x : Entered c b o = entered c b o e in
        let y : Entered d b p = entered d b p f in
        let same : x.slots ≡ y.slots =
        fun_ext (λ j. fun_ext (λ q. rules.pending c d b x.slots y.slots x.into y.into
        (sym (g.firsts_are b) ∙ i) j q)) in
        x.are ∙ (grind (arith, before_slot, up))

    shut : (p : OpenSlots) → ((i q : ℕ) → p i q ≡ false) → (j q : ℕ) → up p j q ≡ false
    shut p a j q = grind (arith, origin_cases, up_at, up_none)

    up_shut : up none_open ≡ none_open
    up_shut = fun_ext (λ j. fun_ext (λ q. shut none_open (λ i q. refl) j q))

    end_slots : (b : ℕ) (o : OpenSlots) → Opens image b (first_number image (suc b)) o → EndSlots image b o
    end_slots b o path =
        let h = left b o path in
        record {
          edges = λ s r. (grind (arith, edge_is_fresh));
          stop = λ s j q. ap (λ (x : OpenSlots). x j q) h.1.2 ∙ shut h.1.0
              (λ i p. (rules.ends b h.1.0 h.1.1).stop (sym (g.stops_are b) ∙ s) i p) j q;
        }

    pub slot_rules : SlotRules image
    slot_rules = record {
      start = grind (arith, g.start, up_shut, up_fresh, g.start_real);
      begins = subst (AdvancesOpen image 1) (sym start_turn)
          (up_advances 1 (all_opened (start_dests draft) none_open) g.first_block rules.begins);
      turns = λ b k o path w. record {
        has_all = turn_has_all b k o (back b k o path) w;
        fresh = turn_fresh b k o (back b k o path) w;
      };
      ends = end_slots;
      crossing = crosses;
      pending = λ c d b o p e f i j q. ap (λ (x : OpenSlots). x j q) (joins c d b o p e f i);
    }
