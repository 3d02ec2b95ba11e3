-- How many instances have fired, against how many the walk has.
use Rattle.std.proofs.Common.{ℕ, zero, suc, ◌+◌, ◌≡◌, ◌<◌, ◌≤◌, ◌⊎◌, true, false, cond, List, [], ◌∷◌, ◌++◌}
use Rattle.std.proofs.Common.{length, Some, None, refl, sym, ap, ◌∙◌, subst, inl, inr, arith}
use Rattle.std.proofs.lemmas.Bool.{cases_Bool, cases_eq, cond_both}
use Rattle.ws_words.specs.Outside.{World}
use Rattle.ws_isa.specs.Image.{Image, ports, is_memory}
use Rattle.ws_isa.specs.Walk.{Inst, fires, walk}
use Rattle.df_core.specs.Core.{State, Key, HasFired, Once, Event, Match, Issue, Step, is_full, arrived, asks}
use Rattle.df_core.specs.Core.{tells, matched, issue}
use Rattle.df_core.specs.Fit.{RightToken, Fit}
use Rattle.ws_isa.specs.Operations.{operations}
use Rattle.df_core.proofs.Walked.Facts.{WalkFacts}
use Rattle.df_core.proofs.Walked.Pauses.{cases_fires}
use Rattle.ws_isa.proofs.Ending.{walk_silent}
use Rattle.ws_words.proofs.Places.{nth_short}

abbrev pub keys_of : List Inst → List Key
keys_of [] = []
keys_of (x ∷ xs) = record { wave = x.wave; instr = x.instr } ∷ keys_of xs

keys_length : (xs : List Inst) → length (keys_of xs) ≡ length xs
keys_length [] = refl
keys_length (x ∷ xs) = ap suc (keys_length xs)

-- one key less
record Less (ks : List Key) (w i : ℕ) : Type 0 where
  rest : List Key
  shorter : suc (length rest) ≡ length ks
  keeps : (a b : ℕ) → HasFired ks a b → ((w ≡ a) × (i ≡ b)) ⊎ HasFired rest a b

take_out : (ks : List Key) (w i : ℕ) → HasFired ks w i → Less ks w i
take_out [] w i h = absurd h
take_out (k ∷ ks) w i (inl h) =
    record {
      rest = ks;
      shorter = refl;
      keeps = λ a b g. elim g [
        | inl e ↦
            inl (sym h.0 ∙ e.0, sym h.1 ∙ e.1)
        | inr e ↦ inr e
      ];
    }
take_out (k ∷ ks) w i (inr h) = let r = take_out ks w i h in
    record {
      rest = k ∷ r.rest;
      shorter = ap suc r.shorter;
      keeps = λ a b g. elim g [
        | inl e ↦ inr (inl e)
        | inr e ↦
            elim (r.keeps a b e) [ inl f ↦ inl f | inr f ↦ inr (inr f) ]
      ];
    }

pub has_same : (ks : List Key) (a b c d : ℕ) → a ≡ c → b ≡ d → HasFired ks a b → HasFired ks c d
has_same ks a b c d e f h = subst (λ (n : ℕ). HasFired ks c n) f (rw e at h)

pub once_length : (xs ys : List Key) → Once xs → ((w i : ℕ) → HasFired xs w i → HasFired ys w i)
    → length xs ≤ length ys
once_length [] ys o f = omega arith
once_length (x ∷ xs) ys o f =
    let l : Less ys x.wave x.instr = grind (arith, take_out, x.instr) in
    let r : length xs ≤ length l.rest =
    once_length xs l.rest o.1 (λ w i h. elim (l.keeps w i (f w i (inr h))) [
      | inl e ↦ absurd (o.0 (has_same xs w i x.wave x.instr (sym e.0) (sym e.1) h))
      | inr g ↦ g
    ]) in
    let s : suc (length l.rest) ≡ length ys = l.shorter in
    omega arith

-- the walk's list
has_append : (xs ys : List Inst) (w i : ℕ) → HasFired (keys_of (xs ++ ys)) w i → HasFired (keys_of xs) w i
    ⊎ HasFired (keys_of ys) w i
has_append [] ys w i h = inr h
has_append (x ∷ xs) ys w i (inl h) = inl (inl h)
has_append (x ∷ xs) ys w i (inr h) = grind (arith, has_append xs ys w i h)

append_has_left : (xs ys : List Inst) (w i : ℕ) → HasFired (keys_of xs) w i
    → HasFired (keys_of (xs ++ ys)) w i
append_has_left [] ys w i h = absurd h
append_has_left (x ∷ xs) ys w i (inl h) = inl h
append_has_left (x ∷ xs) ys w i (inr h) = inr (append_has_left xs ys w i h)

append_has_right : (xs ys : List Inst) (w i : ℕ) → HasFired (keys_of ys) w i
    → HasFired (keys_of (xs ++ ys)) w i
append_has_right [] ys w i h = h
append_has_right (x ∷ xs) ys w i h = inr (append_has_right xs ys w i h)

once_push : (xs : List Inst) (y : Inst) → Once (keys_of xs) → (HasFired (keys_of xs) y.wave y.instr → ⊥)
    → Once (keys_of (xs ++ y ∷ []))
once_push [] y o n = ((λ h. h), tt)
once_push (x ∷ xs) y o n = grind (arith, has_append, once_push xs y o.1 (λ h. n (inr h)))

module _ (image : Image) (world : World) (facts : WalkFacts image world) where
  walk_some : (t : ℕ) (x : Inst) → fires image world t ≡ Some x → walk image world (suc t) ≡ walk image world
      t ++ x ∷ []
  unfolding walk
  walk_some t x e = rw e refl

  walk_start : walk image world zero ≡ []
  unfolding walk
  walk_start = refl

  pub walk_has : (t k : ℕ) (x : Inst) → k < t → fires image world k ≡ Some x
      → HasFired (keys_of (walk image world t)) x.wave x.instr
  walk_has zero k x l fx = absurd (omega arith)
  walk_has (suc t) k x l fx = elim (cases_fires image world t) [
    | inl e ↦ elim (cases_eq k t) [
      | inl g ↦ absurd (let h : None ≡ Some x = sym e ∙ ap (fires image world) (sym g) ∙ fx in cc)
      | inr n ↦ rw (walk_silent image world t e) (walk_has t k x (omega arith) fx)
    ]
    | inr y ↦ rw (walk_some t y.0 y.1) (elim (cases_eq k t) [
      | inl g ↦ (let h : Some x ≡ Some y.0 = sym fx ∙ ap (fires image world) g ∙ y.1 in
          let i : y.0 ≡ x = cc in
          append_has_right (walk image world t) (y.0 ∷ []) x.wave x.instr
          (inl (ap (λ (z : Inst). z.wave) i, ap (λ (z : Inst). z.instr) i)))
      | inr n ↦ append_has_left (walk image world t) (y.0 ∷ []) x.wave x.instr
          (walk_has t k x (omega arith) fx)
    ])
  ]

  pub record InWalk (t w i : ℕ) : Type 0 where
    pub time : ℕ
    pub inst : Inst
    pub earlier : time < t
    pub fires : fires image world time ≡ Some inst
    pub wave : inst.wave ≡ w
    pub instr : inst.instr ≡ i

  in_later : (t w i : ℕ) → InWalk t w i → InWalk (suc t) w i
  in_later t w i r = grind arith

  pub walk_from : (t w i : ℕ) → HasFired (keys_of (walk image world t)) w i → InWalk t w i
  walk_from zero w i h = absurd (rw walk_start at h)
  walk_from (suc t) w i h = elim (cases_fires image world t) [
    | inl e ↦ grind (arith, in_later, walk_silent, walk_from t w i (rw (walk_silent image world t e) at h))
    | inr y ↦ elim (has_append (walk image world t) (y.0 ∷ []) w i (rw (walk_some t y.0 y.1) at h)) [
      | inl g ↦ in_later t w i (walk_from t w i g)
      | inr g ↦
          elim g [
            | inl e ↦ record {
              time = t;
              inst = y.0;
              earlier = omega arith;
              fires = y.1;
              wave = e.0;
              instr = e.1;
            }
            | inr e ↦ absurd e
          ]
    ]
  ]

  pub walk_once : (t : ℕ) → Once (keys_of (walk image world t))
  walk_once zero = rw walk_start tt
  walk_once (suc t) = elim (cases_fires image world t) [
    | inl e ↦ rw (walk_silent image world t e) (walk_once t)
    | inr y ↦ rw (walk_some t y.0 y.1) (once_push (walk image world t) y.0 (walk_once t) (λ h.
        let r : InWalk t y.0.wave y.0.instr = walk_from t y.0.wave y.0.instr h in
        let e : r.time ≡ t = facts.once r.time t r.inst y.0 r.fires y.1 r.wave r.instr in
        let l : r.time < t = r.earlier in omega arith))
  ]

  -- at rest no more of the walk is left than has fired
  pub rest_count : (s : State) → Fit image world s → ((t : ℕ) (x : Inst) → fires image world t ≡ Some x
      → HasFired s.fired x.wave x.instr) → (t : ℕ) → length (walk image world t) ≤ length s.fired
  rest_count s fit all t =
      let l : length (keys_of (walk image world t)) ≤ length s.fired =
      grind (arith, once_length, s.fired, walk_once, walk_from, has_same) in grind (arith, keys_length)

  -- what has fired is the walk's
  pub fired_inst : (s : State) → Fit image world s → (w i : ℕ) → HasFired s.fired w i
      → (t : ℕ) × HasFired (keys_of (walk image world t)) w i
  fired_inst s fit w i h =
      let f = fit.fired_full w i h in
      let g = f.1 0 f.0 in
      let r : RightToken image world w i 0 g.0 = fit.held_right w i 0 g.0 g.1 in (
        suc r.time,
        has_same (keys_of (walk image world (suc r.time))) r.inst.wave r.inst.instr w i r.at.wave
            r.at.instr (walk_has (suc r.time) r.time r.inst (omega arith) r.at.fires),
      )

  walk_more : (t u w i : ℕ) → t ≤ u → HasFired (keys_of (walk image world t)) w i
      → HasFired (keys_of (walk image world u)) w i
  walk_more t u w i l h = grind (arith, walk_from, has_same, keys_of, walk_has)

  all_within : (ks : List Key)
      → ((w i : ℕ) → HasFired ks w i → (t : ℕ) × HasFired (keys_of (walk image world t)) w i)
      → (t : ℕ) × ((w i : ℕ) → HasFired ks w i → HasFired (keys_of (walk image world t)) w i)
  all_within [] f = (0, λ w i h. absurd h)
  all_within (k ∷ ks) f =
      let a = f k.wave k.instr (inl (refl, refl)) in
      let b = all_within ks (λ w i h. f w i (inr h)) in (
        a.0 + b.0,
        λ w i h. elim h [
          | inl e ↦ has_same (keys_of (walk image world (a.0 + b.0))) k.wave k.instr w i e.0 e.1
              (walk_more a.0 (a.0 + b.0) k.wave k.instr (omega arith) a.1)
          | inr e ↦ walk_more b.0 (a.0 + b.0) w i (omega arith) (b.1 w i e)
        ],
      )

  pub count_within : (ks : List Key) → Once ks
      → ((w i : ℕ) → HasFired ks w i → (t : ℕ) × HasFired (keys_of (walk image world t)) w i)
      → (t : ℕ) × (length ks ≤ length (walk image world t))
  count_within ks o f = grind (arith, all_within, keys_of, once_length, keys_length)

  -- no more fire than the walk has
  pub fired_count : (s : State) → Fit image world s → Once s.fired → (t : ℕ)
      × (length s.fired ≤ length (walk image world t))
  fired_count s fit o = count_within s.fired o (fired_inst s fit)

  -- where an instance of the walk hasn't fired, the walk has more
  pub unfired_count : (s : State) → Fit image world s → Once s.fired → (u : ℕ) (x : Inst)
      → fires image world u ≡ Some x → (HasFired s.fired x.wave x.instr → ⊥)
      → (t : ℕ) × (length s.fired < length (walk image world t))
  unfired_count s fit o u x fx n = count_within (record { wave = x.wave; instr = x.instr } ∷ s.fired) (n, o)
      (λ w i h. elim h [
        | inl e ↦ (
          suc u,
          has_same (keys_of (walk image world (suc u))) x.wave x.instr w i e.0 e.1
              (walk_has (suc u) u x (omega arith) fx),
        )
        | inr e ↦ fired_inst s fit w i e
      ])

  -- each fires once
  pub once_kept : (s new : State) (e : Event) → Fit image world s → Once s.fired → Step image s e new
      → Once new.fired
  unfolding matched issue
  once_kept s new (Match w i p) fit o st =
      rw st.becomes.fired (cond_both (is_full (arrived s w i p st.value).held w i (ports image i))
      (cond (is_memory image i) (asks image w i (arrived s w i p st.value))
      (tells image w i (arrived s w i p st.value))) (arrived s w i p st.value)
      (λ (q : State). Once q.fired)
      (λ full. cond_both (is_memory image i) (asks image w i (arrived s w i p st.value))
      (tells image w i (arrived s w i p st.value)) (λ (q : State). Once q.fired) (λ m. (new', o))
      (λ m. (new', o)))
      (λ less. o))
    where
      clash : Some st.value ≡ None → ⊥
      clash c = cc

      new' : HasFired s.fired w i → ⊥
      new' h =
          let f = fit.fired_full w i h in
          let r : RightToken image world w i p st.value = fit.way_right w i p st.value st.on_way in
          let l : p < length r.inst.operands = nth_short r.inst.operands p st.value r.operand in
          let e : length r.inst.operands ≡ ports image i = facts.filled r.time r.inst r.at.fires
          ∙ ap (ports image) r.at.instr in
          let g = f.1 p (omega arith) in
          let c : Some st.value ≡ None = sym st.on_way ∙ fit.one w i p g.0 g.1 in
          clash c
  once_kept s new (Issue w i) fit o (inl st) = rw st.becomes.fired o
  once_kept s new (Issue w i) fit o (inr st) = rw st.becomes.fired o

  -- the operations among instances
  op_listed : (xs : List Inst) (w i : ℕ) → HasFired (keys_of (operations image xs)) w i
      → HasFired (keys_of xs) w i × (is_memory image i ≡ true)
  op_listed [] w i h = absurd h
  op_listed (x ∷ xs) w i h = go (cases_Bool (is_memory image x.instr)) (λ g. op_listed xs w i g)
    where
      go : (is_memory image x.instr ≡ true) ⊎ (is_memory image x.instr ≡ false)
          → (HasFired (keys_of (operations image xs)) w i → HasFired (keys_of xs) w i
          × (is_memory image i ≡ true)) →
          HasFired (keys_of (x ∷ xs)) w i × (is_memory image i ≡ true)
      go (inl m) ih = grind arith
      go (inr m) ih = let r = ih (rw m at h) in (inr r.0, r.1)

  ops_once : (xs : List Inst) → Once (keys_of xs) → Once (keys_of (operations image xs))
  ops_once [] o = o
  ops_once (x ∷ xs) o = go (cases_Bool (is_memory image x.instr)) (ops_once xs o.1)
    where
      go : (is_memory image x.instr ≡ true) ⊎ (is_memory image x.instr ≡ false)
          → Once (keys_of (operations image xs)) → Once (keys_of (operations image (x ∷ xs)))
      go h ih = grind (arith, op_listed)

  -- where the operations of the first steps have fired, they are no more than the instances that have
  pub ops_count : (s : State) (t : ℕ) → ((u : ℕ) (x : Inst) → u < t → fires image world u ≡ Some x
      → is_memory image x.instr ≡ true → HasFired s.fired x.wave x.instr) →
      length (operations image (walk image world t)) ≤ length s.fired
  ops_count s t all =
      let l : length (keys_of (operations image (walk image world t))) ≤ length s.fired =
      grind (arith, once_length, s.fired, ops_once, walk_once, op_listed, walk_from, has_same) in
      grind (arith, keys_length)

  -- where a token is on the way, the walk has more
  pub way_count : (s : State) → Fit image world s → Once s.fired → (w i p v : ℕ) → s.way w i p ≡ Some v
      → (t : ℕ) × (length s.fired < length (walk image world t))
  way_count s fit o w i p v e =
      let r : RightToken image world w i p v = fit.way_right w i p v e in
      unfired_count s fit o r.time r.inst r.at.fires
      (λ h. unfired r (subst (λ (n : ℕ). HasFired s.fired w n) r.at.instr
      (subst (λ (n : ℕ). HasFired s.fired n r.inst.instr) r.at.wave h)))
    where
      clash : Some v ≡ None → ⊥
      clash c = cc

      unfired : RightToken image world w i p v → HasFired s.fired w i → ⊥
      unfired r h =
          let f = fit.fired_full w i h in
          let l : p < length r.inst.operands = nth_short r.inst.operands p v r.operand in
          let n : length r.inst.operands ≡ ports image i = facts.filled r.time r.inst r.at.fires
          ∙ ap (ports image) r.at.instr in
          let g = f.1 p (omega arith) in
          clash (sym e ∙ fit.one w i p g.0 g.1)
