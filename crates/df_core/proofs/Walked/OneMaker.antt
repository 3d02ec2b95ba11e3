-- Each token has one maker: no slot is opened twice under one number.
use Rattle.std.proofs.Common.{ℕ, zero, suc, ◌+◌, ◌-◌, ◌≡◌, ◌<◌, ◌≤◌, ◌⊎◌, Bool, true, false, cond, List, []}
use Rattle.std.proofs.Common.{◌∷◌, ◌++◌, Some, refl, sym, ap, ◌∙◌, subst, inl, inr, arith}
use Rattle.std.proofs.lemmas.Bool.{cases_Bool, cases_eq, cases_lt, both_ways}
use Rattle.ws_words.specs.Outside.{World}
use Rattle.ws_isa.specs.declared.instr.Op.{Op}
use Rattle.ws_isa.specs.declared.instr.Op.TheVariants.{Steer, Send}
use Rattle.ws_isa.specs.declared.instr.Dest.{Dest}
use Rattle.ws_isa.specs.Image.{Image, Token, instr_at, is_advance, first_number, size_of, stops, target}
use Rattle.ws_isa.specs.Image.{is_first, now_of, now_dests, edge_of, edge_dests, block_of, selector, sends}
use Rattle.ws_isa.specs.Image.{tokens_to, start_dests, IsIn}
use Rattle.ws_isa.specs.Walk.{Inst, Pos, pos, fires, choice, result_at, start_tokens}
use Rattle.ws_isa.specs.Sound.{OpenSlots, none_open, opened, all_opened, Fresh, closed, edge_all, opens_at}
use Rattle.ws_isa.specs.Sound.{HasDest, PortsThere, ShapeRules, SlotRules}
use Rattle.df_core.specs.Core.{Apart, IsSent}
use Rattle.df_core.specs.Fit.{FiresAt}
use Rattle.df_core.proofs.Walked.SlotLists.{sent_from, is_sent_append_cases}
use Rattle.ws_isa.proofs.Steps.{StepCase, stands, turns, ends, leaves, step_case, place, Turn, turn_at}
use Rattle.ws_isa.proofs.Steps.{inst_instr, once}
use Rattle.df_core.proofs.Walked.Flowing.{consumed_from}
use Rattle.ws_isa.proofs.Flow.{path, at_end, Stays, leave_stays, turn_on, end_number, cross_number}
use Rattle.ws_isa.proofs.Flow.{same_wave_number, apart_edge}
use Rattle.ws_isa.specs.Standing.{turn_number, slots_at}
use Rattle.df_core.proofs.Walked.SentTokens.{sends_wave, now_number, now_slot, start_zero, start_slot}
use Rattle.df_core.proofs.Walked.SentTokens.{start_number, start_value, AtEnd, end_of, inst_in, agreed}
use Rattle.df_core.proofs.Walked.SentTokens.{goes_on, EdgeSlot, edge_slot}
use Rattle.df_core.proofs.Walked.Made.{turn_wave}
use Rattle.ws_isa.proofs.Along.{path_end}
use Rattle.ws_isa.proofs.Slots.{all_opened_has, closed_cases, fresh_apart, opened_cases, with_tokens_lands}
use Rattle.ws_isa.proofs.Slots.{fresh_left, fresh_right, edge_all_has}

-- lists of destinations that can be opened have no place twice
fresh_tokens : (w v : ℕ) (ds : List Dest) (o : OpenSlots) → Fresh ds o → Apart (tokens_to w v ds)
fresh_tokens w v [] o f = tt
fresh_tokens w v (d ∷ ds) o f =
    grind (arith, fresh_apart, opened_cases, sent_from, fresh_tokens w v ds (opened d o) f.1)

fresh_source : (image : Image) (b r k n c : ℕ) (o : OpenSlots) → Fresh (edge_all image b r k n) o → k ≤ c
    → c < k + n → (p : OpenSlots) × Fresh (edge_dests image b r c) p
fresh_source image b r k zero c o f l h = absurd (omega arith)
fresh_source image b r k (suc n) c o f l h = elim (cases_eq c k) [
  | inl e ↦ grind (arith, fresh_left)
  | inr e ↦ fresh_source image b r (suc k) n c (all_opened (edge_dests image b r k) o)
      (fresh_right (edge_dests image b r k) (edge_all image b r (suc k) n) o f) (omega arith) (omega arith)
]

-- of the steers and sends that open an edge no two open one slot
later_source : (image : Image) (b r k n d j q : ℕ) (o : OpenSlots) → Fresh (edge_all image b r k (suc n)) o
    → HasDest (edge_dests image b r k) j q → suc k ≤ d → d < suc k + n → HasDest (edge_dests image b r d) j q
    → ⊥
later_source image b r k n d j q o f g l h i = fresh_apart (edge_all image b r (suc k) n)
    (all_opened (edge_dests image b r k) o) j q
    (grind (arith, fresh_right))
    (all_opened_has (edge_dests image b r k) o j q g) (edge_all_has image b r (suc k) n d j q l h i)

one_source : (image : Image) (b r k n c d j q : ℕ) (o : OpenSlots) → Fresh (edge_all image b r k n) o → k ≤ c
    → c < k + n → k ≤ d → d < k + n → HasDest (edge_dests image b r c) j q
    → HasDest (edge_dests image b r d) j q → c ≡ d
one_source image b r k zero c d j q o f lc hc ld hd g h = absurd (omega arith)
one_source image b r k (suc n) c d j q o f lc hc ld hd g h = elim (cases_eq c k) [
  | inl e ↦ grind (arith, cases_eq, later_source)
  | inr e ↦ elim (cases_eq d k) [
    | inl i ↦ absurd (later_source image b r k n c j q o f (rw i at h) (omega arith) (omega arith) g)
    | inr i ↦ one_source image b r (suc k) n c d j q (all_opened (edge_dests image b r k) o)
        (fresh_right (edge_dests image b r k) (edge_all image b r (suc k) n) o f) (omega arith) (omega arith)
        (omega arith) (omega arith) g h
  ]
]

apart_right : (ts us : List Token) → ts ≡ [] → Apart us → Apart (ts ++ us)
apart_right ts us e a = rw e a

apart_left : (ts us : List Token) → us ≡ [] → Apart ts → Apart (ts ++ us)
apart_left ts us e a = rw e (none ts a)
  where
    same : (ts : List Token) → ts ++ [] ≡ ts
    same [] = refl
    same (t ∷ ts) = ap (λ (l : List Token). t ∷ l) (same ts)

    none : (ts : List Token) → Apart ts → Apart (ts ++ [])
    none ts a = rw (same ts) a

-- an instruction sends at its turn or on an edge, not both
now_or_edge_op : (image : Image) (k : ℕ) (o : Op) → ((ds : List Dest) → now_of o ds ≡ [])
    ⊎ ((b r : ℕ) → edge_of image b r (instr_at image k) o ≡ [])
now_or_edge_op image k Steer = inl (λ ds. refl)
now_or_edge_op image k (Send p) = inl (λ ds. refl)
now_or_edge_op image k _ = inr (λ b r. refl)

now_or_edge : (image : Image) (k : ℕ) → (now_dests image k ≡ []) ⊎ ((b r : ℕ) → edge_dests image b r k ≡ [])
unfolding now_dests edge_dests
now_or_edge image k = grind (arith, now_or_edge_op)

module _ (image : Image) (world : World) (there : PortsThere image) (shape : ShapeRules image)
    (slots : SlotRules image) where
  abbrev P : ℕ → Pos
  P t = pos image world t

  -- slot q of j is open before step t, under number w, with value v
  record Still (t w j q v : ℕ) : Type 0 where
    over : (P t).over ≡ false
    slot : slots_at image world t j q ≡ true
    number : turn_number image (P t) j ≡ w
    value : (P t).sent w j q ≡ Some v

  record Gone (t u w j : ℕ) : Type 0 where
    time : ℕ
    inst : Inst
    from : t ≤ time
    before : time < u
    at : FiresAt image world w j time inst

  still_step : (u w j q v : ℕ) → Still u w j q v → StepCase image world u
      → (Still (suc u) w j q v × ((z : Inst) → fires image world u ≡ Some z → z.instr ≡ j → ⊥))
      ⊎ Gone u (suc u) w j
  still_step u w j q v s (stands a e f) = absurd (both_ways (P u).over s.over a)
  still_step u w j q v s (ends a l st e f) =
      absurd (both_ways (slots_at image world u j q)
      ((slots.ends (P u).block _ (path_end (path image world there shape slots u a)
      (at_end image world there shape slots u a l))).stop st j q) s.slot)
  still_step u w j q v s (turns a l e f) = grind (arith, cases_eq, turn_wave, turn_on, inst_instr)
  still_step u w j q v s (leaves a l st e f) =
      let stay : Stays image world there shape slots u j q = leave_stays image world there shape slots u j q a
      l st e s.slot in
      let bl : (P (suc u)).block ≡ target image (P u).block (choice image (P u)) =
      ap (λ (p : Pos). p.block) e in
      let nx : (P (suc u)).next ≡ first_number image (target image (P u).block (choice image (P u))) =
      ap (λ (p : Pos). p.next) e in
      let wv : (P (suc u)).wave ≡ cond (is_first image (target image (P u).block (choice image (P u))))
      (suc (P u).wave) (P u).wave = ap (λ (p : Pos). p.wave) e in
      let m : turn_number image (P (suc u)) j ≡ w =
      (elim (cases_Bool (is_first image (target image (P u).block (choice image (P u))))) [
        | inl fst ↦ (cross_number image world there shape slots u j q a l st bl nx wv fst stay.slot).1
        | inr fst ↦ same_wave_number image world there shape slots u j a st bl nx wv fst
      ]) ∙ sym (end_number image world there shape slots u j l) ∙ s.number in
      inl (
        record {
          over = ap (λ (p : Pos). p.over) e;
          slot = stay.slot;
          number = m;
          value = stay.value w ∙ s.value;
        },
        (λ z fz zi. let k : Turn image world shape u z = turn_at image world shape u z fz in
            (let g : (P u).next < first_number image (suc (P u).block) = k.within in omega arith)),
      )

  gone_later : (t u w j : ℕ) → Gone t u w j → Gone t (suc u) w j
  gone_later t u w j g = grind arith

  gone_sooner : (t u w j : ℕ) → t ≤ u → Gone u (suc u) w j → Gone t (suc u) w j
  gone_sooner t u w j l g = grind arith

  -- from step t to step t + d
  still_until : (d t w j q v : ℕ) → Still t w j q v → Still (d + t) w j q v ⊎ Gone t (d + t) w j
  still_until zero t w j q v s = let e : zero + t ≡ t = omega arith in rw e (inl s)
  still_until (suc d) t w j q v s =
      let e : suc d + t ≡ suc (d + t) = omega arith in
      rw e (elim (still_until d t w j q v s) [
        | inl k ↦ elim (still_step (d + t) w j q v k (step_case image world (d + t)))
            [ inl m ↦ inl m.0 | inr g ↦ inr (gone_sooner t (d + t) w j (omega arith) g) ]
        | inr g ↦ inr (gone_later t (d + t) w j g)
      ])

  -- step t opens the slot
  record Opening (t w j q v : ℕ) : Type 0 where
    after : Still (suc t) w j q v
    fresh : slots_at image world t j q ≡ true → (z : Inst) × (fires image world t ≡ Some z) × (z.instr ≡ j)

  -- what fired under this number has fired for good
  fired_twice : (t u w j q v : ℕ) → Gone t u w j → Still u w j q v → ⊥
  fired_twice t u w j q v g s = grind (arith, consumed_from, once)

  reopened : (t r w j q a b : ℕ) → t ≤ r → Still t w j q a → Opening r w j q b → ⊥
  reopened t r w j q a b l s o =
      let e : (r - t) + t ≡ r = omega arith in
      elim (subst (λ (n : ℕ). Still n w j q a ⊎ Gone t n w j) e (still_until (r - t) t w j q a s)) [
        | inl k ↦ (let z = o.fresh k.slot in
            elim (still_step r w j q a k (step_case image world r)) [
              | inl m ↦ m.1 z.0 z.1 z.2
              | inr g ↦ fired_twice r (suc r) w j q b g o.after
            ])
        | inr g ↦ fired_twice t (suc r) w j q b (gone_later t r w j g) o.after
      ]

  -- how a token comes to stand at its place: at its maker's turn, or where the maker's block is left
  data Opens' (t : ℕ) (x : Inst) (w j q v : ℕ) : ℕ → Type 0 where
    at_turn : Opening t w j q v → Opens' t x w j q v t
    at_edge : {s : ℕ} → Opening s w j q v → (P s).over ≡ false → first_number image (suc (P s).block)
        ≤ (P s).next → IsIn image (P s).block x.instr →
        HasDest (edge_dests image (P s).block (choice image (P s)) x.instr) j q → Opens' t x w j q v s

  turn_opens : (t j q : ℕ) (x : Inst) → fires image world t ≡ Some x → HasDest (now_dests image x.instr) j q
      → Opening t (P t).wave j q x.result
  turn_opens t j q x fx h =
      let k : Turn image world shape t x = turn_at image world shape t x fx in
      let h' : HasDest (now_dests image (P t).next) j q = rw (inst_instr image world shape t x fx) at h in
      let res : result_at image (P t) ≡ x.result = ap (λ (y : Inst). y.result) (sym k.inst) in
      record {
        after = record {
          over = ap (λ (p : Pos). p.over) k.next;
          slot = now_slot image world there shape slots t j q k.over k.within h';
          number = now_number image world there shape slots t j q k.over k.within k.next h';
          value = ap (λ (p : Pos). p.sent (P t).wave j q) k.next ∙ with_tokens_lands (P t).wave
              (result_at image (P t)) (now_dests image (P t).next) (P t).sent j q h'
              ∙ ap (λ (n : ℕ). Some n) res;
        };
        fresh = λ o. elim (closed_cases (P t).next (slots_at image world t) j q) [
          | inl c ↦ (x, fx, inst_instr image world shape t x fx ∙ c.0)
          | inr c ↦
              absurd (fresh_apart (now_dests image (P t).next) (closed (P t).next (slots_at image world t)) j
              q ((slots.turns (P t).block (P t).next (slots_at image world t)
              (path image world there shape slots t k.over) k.within).fresh) (c.1 ∙ o) h')
        ];
      }

  -- where an instance's block is left
  record Left (t : ℕ) (x : Inst) : Type 0 where
    time : ℕ
    over : (P time).over ≡ false
    at_end : first_number image (suc (P time).block) ≤ (P time).next
    inside : IsIn image (P time).block x.instr
    wave : (P time).wave ≡ (P t).wave
    same : edge_dests image (block_of image x.instr) (selector image x.instr x.operands) x.instr ≡ edge_dests
        image (P time).block (choice image (P time)) x.instr

  left_at : (t : ℕ) (x : Inst) → fires image world t ≡ Some x → Left t x
  left_at t x fx =
      let k : Turn image world shape t x = turn_at image world shape t x fx in
      let bl : (P (suc t)).block ≡ (P t).block = ap (λ (p : Pos). p.block) k.next in
      let wv : (P (suc t)).wave ≡ (P t).wave = ap (λ (p : Pos). p.wave) k.next in
      let e : AtEnd image world there shape slots (suc t) = end_of image world there shape slots (suc t)
      (ap (λ (p : Pos). p.over) k.next) in
      let i : IsIn image (P e.time).block x.instr = subst (λ (b : ℕ). IsIn image b x.instr)
      (sym (e.block ∙ bl)) (inst_in image world there shape slots t x fx) in
      let w2 : (P e.time).wave ≡ (P t).wave = e.wave ∙ wv in
      record {
        time = e.time;
        over = e.over;
        at_end = e.at_end;
        inside = i;
        wave = w2;
        same = agreed image world there shape slots e.time t x e.over e.at_end fx (sym w2) i;
      }

  edge_opens : (s k j q : ℕ) → (P s).over ≡ false → first_number image (suc (P s).block) ≤ (P s).next
      → IsIn image (P s).block k → HasDest (edge_dests image (P s).block (choice image (P s)) k) j q
      → (v : ℕ) × Opening s (P s).wave j q v
  unfolding opens_at size_of
  edge_opens s k j q o l i h =
      let st : stops image (P s).block ≡ false = grind (arith, goes_on, place) in
      let sl : EdgeSlot image world there shape slots s k j q o l i h =
      edge_slot image world there shape slots s k j q o l i h in
      let hi : k < first_number image (suc (P s).block) = i.1 in
      let lo : first_number image (P s).block ≤ k = i.0 in
      let has : HasDest (opens_at image (P s).block (choice image (P s))) j q =
      edge_all_has image (P s).block (choice image (P s)) (first_number image (P s).block)
      (size_of image (P s).block) k j q lo (omega arith) h in (
        (P s).results k,
        record {
          after = record { over = sl.over; slot = sl.slot; number = sl.number; value = sl.value };
          fresh = λ c. absurd (apart_edge image world there shape slots s j q o l st c has);
        },
      )

  opens_of : (t : ℕ) (x : Inst) → fires image world t ≡ Some x → (w j q v : ℕ)
      → IsSent (sends image x.wave x.instr x.operands x.result) w j q v → (s u : ℕ) × Opens' t x w j q u s
  unfolding sends
  opens_of t x fx w j q v h =
      elim (is_sent_append_cases (tokens_to (cond (is_advance image x.instr) (suc x.wave) x.wave) x.result
      (now_dests image x.instr)) (tokens_to (cond (is_advance image x.instr) (suc x.wave) x.wave) x.result
      (edge_dests image (block_of image x.instr) (selector image x.instr x.operands) x.instr)) w j q v h) [
        | inl g ↦ (let f = sent_from (cond (is_advance image x.instr) (suc x.wave) x.wave) x.result
            (now_dests image x.instr) w j q v g in
            let e : (P t).wave ≡ w = sym (sends_wave image world there shape slots t x fx) ∙ f.1 in (
              t,
              x.result,
              at_turn (subst (λ (n : ℕ). Opening t n j q x.result) e (turn_opens t j q x fx f.0)),
            ))
        | inr g ↦ (let f = sent_from (cond (is_advance image x.instr) (suc x.wave) x.wave) x.result
            (edge_dests image (block_of image x.instr) (selector image x.instr x.operands) x.instr) w j q v
            g in
            let l : Left t x = left_at t x fx in
            let e : (P l.time).wave ≡ w = l.wave ∙ sym (sends_wave image world there shape slots t x fx)
            ∙ f.1 in
            let hd : HasDest (edge_dests image (P l.time).block (choice image (P l.time)) x.instr) j q =
            subst (λ (ds : List Dest). HasDest ds j q) l.same f.0 in
            let o = edge_opens l.time x.instr j q l.over l.at_end l.inside hd in (
              l.time,
              o.0,
              at_edge (subst (λ (n : ℕ). Opening l.time n j q o.0) e o.1) l.over l.at_end l.inside
                  hd,
            ))
      ]

  opening_of : (t s w j q v : ℕ) (x : Inst) → Opens' t x w j q v s → Opening s w j q v
  opening_of t s w j q v x k = grind arith

  -- openings of one slot under one number are at one step
  one_step : (s r w j q a b : ℕ) → Opening s w j q a → Opening r w j q b → s ≡ r
  one_step s r w j q a b o p = grind (arith, cases_lt, reopened)

  within_or_end : (t s : ℕ) (x : Inst) → fires image world t ≡ Some x → first_number image (suc (P s).block)
      ≤ (P s).next → t ≡ s → ⊥
  within_or_end t s x fx l e =
      let k : Turn image world shape t x = turn_at image world shape t x fx in grind arith

  same_flag : (a b : Bool) (m n w : ℕ) → a ≡ b → cond a (suc m) m ≡ w → cond b (suc n) n ≡ w → m ≡ n
  same_flag a b m n w e f g = grind (arith, both_ways)

  -- two makers that send on one edge to one slot are one
  same_edge : (s r t u w j q : ℕ) (x y : Inst) → s ≡ r → fires image world t ≡ Some x
      → fires image world u ≡ Some y → cond (is_advance image x.instr) (suc x.wave) x.wave ≡ w
      → cond (is_advance image y.instr) (suc y.wave) y.wave ≡ w →
      (P s).over ≡ false → first_number image (suc (P s).block) ≤ (P s).next → IsIn image (P s).block x.instr
      → HasDest (edge_dests image (P s).block (choice image (P s)) x.instr) j q →
      IsIn image (P r).block y.instr → HasDest (edge_dests image (P r).block (choice image (P r)) y.instr) j q
      → t ≡ u
  unfolding opens_at size_of
  same_edge s r t u w j q x y e fx fy wx wy o l i h i2 h2 =
      let i3 : IsIn image (P s).block y.instr = grind arith in
      let h3 : HasDest (edge_dests image (P s).block (choice image (P s)) y.instr) j q =
      subst (λ (n : ℕ). HasDest (edge_dests image (P n).block (choice image (P n)) y.instr) j q) (sym e)
      h2 in
      let st : stops image (P s).block ≡ false = goes_on image world there shape slots (P s).block x.instr j q
      (choice image (P s)) (place image world shape s o).block i h in
      let fr : Fresh (opens_at image (P s).block (choice image (P s))) (slots_at image world s) =
      (slots.ends (P s).block _ (path_end (path image world there shape slots s o)
      (at_end image world there shape slots s o l))).edges st (choice image (P s)) in
      let a0 : first_number image (P s).block ≤ x.instr = i.0 in
      let a1 : x.instr < first_number image (suc (P s).block) = i.1 in
      let b0 : first_number image (P s).block ≤ y.instr = i3.0 in
      let b1 : y.instr < first_number image (suc (P s).block) = i3.1 in
      let k : x.instr ≡ y.instr = one_source image (P s).block (choice image (P s))
      (first_number image (P s).block) (size_of image (P s).block) x.instr y.instr j q
      (slots_at image world s) fr a0 (omega arith) b0 (omega arith) h h3 in
      once image world shape t u x y fx fy (same_flag (is_advance image x.instr) (is_advance image y.instr)
      x.wave y.wave w (ap (is_advance image) k) wx wy) k

  sent_wave : (x : Inst) (w j q v : ℕ) → IsSent (sends image x.wave x.instr x.operands x.result) w j q v
      → cond (is_advance image x.instr) (suc x.wave) x.wave ≡ w
  unfolding sends
  sent_wave x w j q v h = grind (arith, is_sent_append_cases, sent_from)

  makers : (t u s r w j q a b : ℕ) (x y : Inst) → fires image world t ≡ Some x → fires image world u ≡ Some y
      → cond (is_advance image x.instr) (suc x.wave) x.wave ≡ w → cond (is_advance image y.instr) (suc y.wave)
      y.wave ≡ w →
      s ≡ r → Opens' t x w j q a s → Opens' u y w j q b r → t ≡ u
  makers t u s r w j q a b x y fx fy wx wy e (at_turn o) (at_turn p) = e
  makers t u s r w j q a b x y fx fy wx wy e (at_turn o) (at_edge p c l i h) = grind (arith, within_or_end)
  makers t u s r w j q a b x y fx fy wx wy e (at_edge p c l i h) (at_turn o) = grind (arith, within_or_end)
  makers t u s r w j q a b x y fx fy wx wy e (at_edge o c l i h) (at_edge p d m k g) =
      same_edge s r t u w j q x y e fx fy wx wy c l i h k g

  -- a token has one maker
  pub one_maker : (t u : ℕ) (x y : Inst) → fires image world t ≡ Some x → fires image world u ≡ Some y
      → (w i p a b : ℕ) →
      IsSent (sends image x.wave x.instr x.operands x.result) w i p a
      → IsSent (sends image y.wave y.instr y.operands y.result) w i p b → t ≡ u
  one_maker t u x y fx fy w i p a b g h = grind (arith, opens_of, makers, sent_wave, one_step, opening_of)

  -- the start pulse's tokens have none
  pub no_maker : (u : ℕ) (y : Inst) → fires image world u ≡ Some y → (w i p a b : ℕ)
      → IsSent (start_tokens image) w i p a → IsSent (sends image y.wave y.instr y.operands y.result) w i p b
      → ⊥
  unfolding start_tokens
  no_maker u y fy w i p a b g h =
      let k = opens_of u y fy w i p b h in
      let f = sent_from 0 0 (start_dests image) w i p a g in
      let n : turn_number image (P zero) i ≡ w = start_number image world there shape slots i p f.0 ∙ f.1 in
      let s : Still zero w i p 0 = record {
        over = start_zero image world there shape slots;
        slot = start_slot image world there shape slots i p f.0;
        number = n;
        value = subst (λ (m : ℕ). (P zero).sent m i p ≡ Some 0) f.1
            (start_value image world there shape slots i p f.0);
      } in
      reopened zero k.0 w i p 0 k.1 (omega arith) s (opening_of u k.0 w i p k.1 y k.2)

  now_part : (t : ℕ) (x : Inst) → fires image world t ≡ Some x
      → Apart (tokens_to (cond (is_advance image x.instr) (suc x.wave) x.wave) x.result
      (now_dests image x.instr))
  now_part t x fx =
      let k : Turn image world shape t x = turn_at image world shape t x fx in
      let f : Fresh (now_dests image (P t).next) (closed (P t).next (slots_at image world t)) =
      (slots.turns (P t).block (P t).next (slots_at image world t)
      (path image world there shape slots t k.over) k.within).fresh in
      fresh_tokens (cond (is_advance image x.instr) (suc x.wave) x.wave) x.result (now_dests image x.instr)
      (closed (P t).next (slots_at image world t))
      (subst (λ (n : ℕ). Fresh (now_dests image n) (closed (P t).next (slots_at image world t)))
      (sym (inst_instr image world shape t x fx)) f)

  none_or_some : (ds : List Dest) → (ds ≡ []) ⊎ ((d : Dest) × HasDest ds d.instr d.port)
  none_or_some [] = inl refl
  none_or_some (d ∷ ds) = inr (d, inl (refl, refl))

  edge_fresh : (t : ℕ) (x : Inst) → Left t x → (o : OpenSlots)
      × Fresh (edge_dests image (block_of image x.instr) (selector image x.instr x.operands) x.instr) o
  unfolding opens_at size_of
  edge_fresh t x l =
      elim (none_or_some (edge_dests image (block_of image x.instr) (selector image x.instr x.operands)
      x.instr)) [
        | inl e ↦ (none_open, rw e tt)
        | inr d ↦ (let h : HasDest (edge_dests image (P l.time).block (choice image (P l.time)) x.instr)
            d.0.instr
            d.0.port = subst (λ (ds : List Dest). HasDest ds d.0.instr d.0.port) l.same d.1 in
            let st : stops image (P l.time).block ≡ false = goes_on image world there shape slots
            (P l.time).block
            x.instr d.0.instr d.0.port (choice image (P l.time)) (place image world shape l.time l.over).block
            l.inside h in
            let fr : Fresh (opens_at image (P l.time).block (choice image (P l.time)))
            (slots_at image world l.time) =
            (slots.ends (P l.time).block _ (path_end (path image world there shape slots l.time l.over)
            (at_end image world there shape slots l.time l.over l.at_end))).edges st
            (choice image (P l.time)) in
            let a0 : first_number image (P l.time).block ≤ x.instr = l.inside.0 in
            let a1 : x.instr < first_number image (suc (P l.time).block) = l.inside.1 in
            let r = fresh_source image (P l.time).block (choice image (P l.time))
            (first_number image (P l.time).block) (size_of image (P l.time).block) x.instr
            (slots_at image world l.time) fr a0 (omega arith) in
            (r.0, subst (λ (ds : List Dest). Fresh ds r.0) (sym l.same) r.1))
      ]

  edge_part : (t : ℕ) (x : Inst) → fires image world t ≡ Some x
      → Apart (tokens_to (cond (is_advance image x.instr) (suc x.wave) x.wave) x.result
      (edge_dests image (block_of image x.instr) (selector image x.instr x.operands) x.instr))
  edge_part t x fx = let r = edge_fresh t x (left_at t x fx) in
      fresh_tokens (cond (is_advance image x.instr) (suc x.wave) x.wave) x.result
      (edge_dests image (block_of image x.instr) (selector image x.instr x.operands) x.instr) r.0 r.1

  -- the tokens of one instance go to different places
  pub sends_apart : (t : ℕ) (x : Inst) → fires image world t ≡ Some x
      → Apart (sends image x.wave x.instr x.operands x.result)
  unfolding sends
  sends_apart t x fx = grind (arith, now_or_edge, apart_right, edge_part, apart_left, now_part)

  pub start_apart : Apart (start_tokens image)
  unfolding start_tokens
  start_apart = fresh_tokens 0 0 (start_dests image) none_open slots.start
