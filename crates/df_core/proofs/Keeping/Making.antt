-- An enabled event can be made, and in one way alone.
use Rattle.std.proofs.Common.{ℕ, zero, suc, ◌≡◌, ◌<◌, ◌≤◌, ◌⊎◌, true, false, List, [], ◌∷◌, length, Option}
use Rattle.std.proofs.Common.{Some, None, refl, sym, ap, ◌∙◌, subst, inl, inr, arith}
use Rattle.std.proofs.lemmas.Bool.{cases_Bool, cases_eq, cases_lt, both_ways}
use Rattle.ws_words.specs.Outside.{Outside, World}
use Rattle.ws_isa.specs.declared.instr.Link.{Link}
use Rattle.ws_isa.specs.declared.instr.Link.TheVariants.{Nothing, Is}
use Rattle.ws_isa.specs.declared.instr.Note.{Note}
use Rattle.ws_isa.specs.Image.{Image, Block, is_memory, note_of, first_of, first_number, answer, is_past}
use Rattle.ws_isa.specs.Walk.{Inst, pos, fires}
use Rattle.ws_isa.specs.Sound.{ShapeRules}
use Rattle.df_core.specs.Effect.{effect_after}
use Rattle.df_core.specs.Core.{Chain, State, Event, Match, Issue, IsNext, NextAfter, Passes, stays, passes}
use Rattle.df_core.specs.Core.{pass, Ready, issued_with, issue, matched, Same, Step, Enabled}
use Rattle.df_core.specs.Fit.{FiresAt, RightRequest, NoOp, IssuedOp, Ordered, Fit}
use Rattle.df_core.proofs.Walked.Facts.{WalkFacts}
use Rattle.df_core.proofs.Keeping.Passing.{same_fired, ordered_next}
use Rattle.ws_isa.proofs.Steps.{turn_at, inst_instr}
use Rattle.df_core.proofs.Keeping.Ports.{with_key_same}
use Rattle.df_core.proofs.Keeping.BufferKept as B
use Rattle.ws_words.specs.Items.{In}
use Rattle.df_core.proofs.Keeping.Same.{same_refl}
use Rattle.ws_words.proofs.Places.{down, in_down}

same_both : (s t m : State) → Same s m → Same t m → Same s t
same_both s t m a b = grind arith

-- whether a link names a number
names : (l : Link) (n : ℕ) → (l ≡ Is n) ⊎ (l ≡ Is n → ⊥)
names l n = grind (arith, cases_eq)

ends_there : (l : Link) → (l ≡ Nothing) ⊎ (l ≡ Nothing → ⊥)
ends_there l = grind arith

next_or_not : (o : Option Note) (n : Note) → NextAfter o n ⊎ (NextAfter o n → ⊥)
next_or_not None n = ends_there n.pred
next_or_not (Some m) n = grind (arith, names)

-- an issued operation that is next, among these
record NextOf (image : Image) (issued : ℕ → ℕ → Option ℕ) (c : Chain) (xs : List ℕ) : Type 0 where
  instr : ℕ
  answer : ℕ
  among : In instr xs
  is : issued c.wave instr ≡ Some answer
  next : IsNext c (note_of image instr)

one_next : (image : Image) (issued : ℕ → ℕ → Option ℕ) (c : Chain) (i : ℕ) (o : Option ℕ)
    → issued c.wave i ≡ o → ((a : ℕ) × (issued c.wave i ≡ Some a) × IsNext c (note_of image i))
    ⊎ ((a : ℕ) → issued c.wave i ≡ Some a → IsNext c (note_of image i) → ⊥)
one_next image issued c i None e = grind arith
one_next image issued c i (Some a) e = elim (next_or_not c.last (note_of image i))
    [ inl n ↦ inl (a, e, n) | inr h ↦ inr (λ b f n. h n) ]

find_next : (image : Image) (issued : ℕ → ℕ → Option ℕ) (c : Chain) (xs : List ℕ) → NextOf image issued c xs
    ⊎ ((i : ℕ) → In i xs → (a : ℕ) → issued c.wave i ≡ Some a → IsNext c (note_of image i) → ⊥)
find_next image issued c [] = inr (λ i h. absurd h)
find_next image issued c (x ∷ xs) = elim (one_next image issued c x (issued c.wave x) refl) [
  | inl r ↦ grind arith
  | inr no' ↦ elim (find_next image issued c xs) [
    | inl r ↦
        inl (record { instr = r.instr; answer = r.answer; among = inr r.among; is = r.is; next = r.next })
    | inr none ↦
        inr (λ i h. elim h [
          | inl e ↦ subst (λ (k : ℕ). (a : ℕ) → issued c.wave k ≡ Some a
              → IsNext c (note_of image k) → ⊥) (sym e) no'
          | inr g ↦ none i g
        ])
  ]
]

-- the list without one of its numbers
record Without (xs : List ℕ) (i : ℕ) : Type 0 where
  rest : List ℕ
  shorter : suc (length rest) ≡ length xs
  keeps : (j : ℕ) → In j xs → (j ≡ i) ⊎ In j rest

without : (xs : List ℕ) (i : ℕ) → In i xs → Without xs i
without [] i h = absurd h
without (x ∷ xs) i (inl h) =
    record { rest = xs; shorter = refl; keeps = λ j g. elim g [ inl e ↦ inl (e ∙ sym h) | inr e ↦ inr e ] }
without (x ∷ xs) i (inr h) = let r = without xs i h in
    record {
      rest = x ∷ r.rest;
      shorter = ap suc r.shorter;
      keeps = λ j g.
          elim g [ inl e ↦ inr (inl e) | inr e ↦ elim (r.keeps j e) [ inl f ↦ inl f | inr f ↦ inr (inr f) ] ];
    }

-- numbers of instructions are bounded
first_most : (bs : List Block) (n : ℕ) → first_of bs n ≤ first_of bs (length bs)
first_most (b ∷ bs) zero = let e : first_of bs zero ≤ first_of bs (length bs) = first_most bs zero in
    let f : first_of bs zero ≡ 1 = start bs in omega arith
  where
    start : (bs : List Block) → first_of bs zero ≡ 1
    start [] = refl
    start (b ∷ bs) = refl
first_most (b ∷ bs) (suc n) = grind (arith, first_most bs n)
first_most bs n = grind arith

most : Image → ℕ
most image = first_number image (suc (length image.blocks))

below_most : (image : Image) (b : ℕ) → first_number image (suc b) ≤ most image
unfolding most first_number
below_most image b = first_most image.blocks b

module _ (image : Image) (world : World) (facts : WalkFacts image world) (shape : ShapeRules image) where
  bounded : (t : ℕ) (x : Inst) → fires image world t ≡ Some x → x.instr < most image
  bounded t x fx =
      let n : x.instr ≡ (pos image world t).next = inst_instr image world shape t x fx in
      let w : (pos image world t).next < first_number image (suc (pos image world t).block) =
      (turn_at image world shape t x fx).within in
      let m : first_number image (suc (pos image world t).block) ≤ most image =
      below_most image (pos image world t).block in
      omega arith

  -- the issued operations of the chain's wave that aren't passed are among these
  Covers : (ℕ → ℕ → Option ℕ) → Chain → ℕ → List ℕ → Type 0
  Covers issued c cut xs = (i a : ℕ) → issued c.wave i ≡ Some a → (op : IssuedOp image world cut c.wave i a)
      → cut ≤ op.time → In i xs

  covers_all : (issued : ℕ → ℕ → Option ℕ) (c : Chain) (cut : ℕ) → Covers issued c cut (down (most image))
  unfolding Covers
  covers_all issued c cut i a e op l = in_down (most image) i (grind (arith, bounded))

  same_time : (w i t u : ℕ) (x y : Inst) → FiresAt image world w i t x → FiresAt image world w i u y → t ≡ u
  same_time w i t u x y a b = facts.once t u x y a.fires b.fires (a.wave ∙ sym b.wave) (a.instr ∙ sym b.instr)

  -- where the wave goes on the rest is left, and where it ends nothing is
  record Left (issued : ℕ → ℕ → Option ℕ) (c : Chain) (cut : ℕ) (xs : List ℕ) : Type 0 where
    left : List ℕ
    fewer : length left < length xs
    covers : Covers issued c cut left

  after_pass : (issued : ℕ → ℕ → Option ℕ) (c : Chain) (m : Outside) (cut i a : ℕ) (xs : List ℕ)
      → Ordered image world cut issued c m → Covers issued c cut xs → In i xs →
      (op : IssuedOp image world cut c.wave i a) → cut ≤ op.time → Ordered image world (suc op.time) issued
      (pass c (note_of image i)) m → Left issued (pass c (note_of image i)) (suc op.time) xs
  unfolding Covers
  after_pass issued c m cut i a xs o cov h op from o' = let r = without xs i h in record {
    left = r.rest;
    fewer = (let s : suc (length r.rest) ≡ length xs = r.shorter in omega arith);
    covers = λ j b e q l.
        let p : IssuedOp image world cut (pass c (note_of image i)).wave j b =
        o.others (pass c (note_of image i)).wave j b e in
        let same : p.time ≡ q.time = same_time (pass c (note_of image i)).wave j p.time q.time p.inst q.inst
        p.at q.at in
        let wv : (pass c (note_of image i)).wave ≡ c.wave = elim p.place [
          | inl k ↦ absurd (omega (arith, from))
          | inr k ↦ sym p.at.wave ∙ k.1.wave ∙ ap (λ (d : Chain). d.wave) (sym o.chain)
        ] in
        let e' : issued c.wave j ≡ Some b = subst (λ (w : ℕ). issued w j ≡ Some b) wv e in
        let p' : IssuedOp image world cut c.wave j b = o.others c.wave j b e' in
        let at' : FiresAt image world c.wave j p'.time p'.inst = p'.at in
        let q' : FiresAt image world c.wave j q.time q.inst =
        record { fires = q.at.fires; wave = q.at.wave ∙ wv; instr = q.at.instr } in
        let same' : p'.time ≡ q.time = same_time c.wave j p'.time q.time p'.inst q.inst at' q' in
        elim (r.keeps j (cov j b e' p' (omega (arith, from)))) [
          | inl g ↦ absurd (let b' : FiresAt image world c.wave j op.time op.inst =
              record { fires = op.at.fires; wave = op.at.wave; instr = op.at.instr ∙ sym g } in
              let t' : op.time ≡ q.time = same_time c.wave j op.time q.time op.inst q.inst b' q' in
              omega arith)
          | inr g ↦ g
        ];
  }

  some_in : (ys : List ℕ) (i : ℕ) → In i ys → length ys ≤ 0 → ⊥
  some_in [] i h l = h
  some_in (y ∷ ys) i h l = omega arith

  -- the chain passes until nothing is next
  pass_all : (n : ℕ) (issued : ℕ → ℕ → Option ℕ) (c : Chain) (m : Outside) (cut : ℕ) (xs : List ℕ)
      → length xs ≤ n → Ordered image world cut issued c m → Covers issued c cut xs
      → (d : Chain) × Passes image issued c d
  unfolding Covers
  pass_all zero issued c m cut xs l o cov = elim (find_next image issued c xs) [
    | inl r ↦ absurd (some_in xs r.instr r.among l)
    | inr none ↦ (
      c,
      stays (λ i a e nx. let q = ordered_next image world facts issued c m cut i a o e nx in
          none i (cov i a e q.0 q.1) a e nx),
    )
  ]
  pass_all (suc n) issued c m cut xs l o cov = elim (find_next image issued c xs) [
    | inl r ↦ (let q = ordered_next image world facts issued c m cut r.instr r.answer o r.is r.next in
        let s : Left issued (pass c (note_of image r.instr)) (suc q.0.time) xs =
        after_pass issued c m cut r.instr r.answer xs o cov r.among q.0 q.1 q.2 in
        let f : length s.left < length xs = s.fewer in
        let d = pass_all n issued (pass c (note_of image r.instr)) m (suc q.0.time) s.left (omega arith) q.2
        s.covers in
        (d.0, passes r.instr r.answer r.is r.next d.1))
    | inr none ↦ (
      c,
      stays (λ i a e nx. let q = ordered_next image world facts issued c m cut i a o e nx in
          none i (cov i a e q.0 q.1) a e nx),
    )
  ]

  -- it does so in one way
  pub passes_one : (issued : ℕ → ℕ → Option ℕ) (c d e : Chain) (m : Outside) (cut : ℕ)
      → Passes image issued c d → Passes image issued c e → Ordered image world cut issued c m → d ≡ e
  passes_one issued c d e m cut (stays n) (stays k) o = refl
  passes_one issued c d e m cut (stays n) (passes i a g nx rest) o = absurd (n i a g nx)
  passes_one issued c d e m cut (passes i a g nx rest) (stays n) o = absurd (n i a g nx)
  passes_one issued c d e m cut (passes i a g nx rest) (passes j b h ny more) o =
      let p = ordered_next image world facts issued c m cut i a o g nx in
      let q = ordered_next image world facts issued c m cut j b o h ny in
      let same : i ≡ j = one_instr i a j b p.0 q.0 nx ny in
      passes_one issued (pass c (note_of image i)) d e m (suc p.0.time) rest
      (rw same more) p.2
    where
      first : (k z : ℕ) (op : IssuedOp image world cut c.wave k z) → IsNext c (note_of image k)
          → NoOp image world cut op.time
      first k z op nk = grind arith

      from : (k z : ℕ) (op : IssuedOp image world cut c.wave k z) → IsNext c (note_of image k) → cut ≤ op.time
      from k z op nk = grind arith

      one_instr : (i a j b : ℕ) (p : IssuedOp image world cut c.wave i a)
          (q : IssuedOp image world cut c.wave j b) → IsNext c (note_of image i) → IsNext c (note_of image j)
          → i ≡ j
      one_instr i a j b p q ni nj =
          let same : p.time ≡ q.time = elim (cases_lt p.time q.time) [
            | inl l ↦
                absurd (first j b q nj p.time p.inst (from i a p ni) l p.at.fires
                (ap (is_memory image) p.at.instr ∙ p.memory))
            | inr l ↦ elim (cases_lt q.time p.time) [
              | inl k ↦
                  absurd (first i a p ni q.time q.inst (from j b q nj) k q.at.fires
                  (ap (is_memory image) q.at.instr ∙ q.memory))
              | inr k ↦ (let x : q.time ≤ p.time = l in let y : p.time ≤ q.time = k in omega arith)
            ]
          ] in
          sym p.at.instr ∙ ap (λ (z : Inst). z.instr) (same_fired image world facts p.time q.time p.inst
          q.inst p.at.fires q.at.fires same) ∙ q.at.instr

  module _ (s : State) (fit : Fit image world s) where
    -- the chain behind an issue
    module _ (w i : ℕ) (xs : List ℕ) (ready : Ready image s w i xs)
        (inside : is_past image i xs ≡ false) where
      right : RightRequest image world w i xs
      right = fit.request_right w i xs ready.waits

      here : issued_with image s.issued s.memory w i xs s.chain.wave i ≡ Some (answer image i xs s.memory)
      here = rw (← ready.issuable.current) (grind (arith, with_key_same))

      at_next : IsNext s.chain (note_of image i) → Ordered image world (suc right.time)
          (issued_with image s.issued s.memory w i xs) (pass s.chain (note_of image i))
          (effect_after image i xs s.memory)
      at_next nx =
          subst (λ (n : ℕ). Ordered image world (suc right.time) (issued_with image s.issued s.memory w i xs)
          (pass s.chain (note_of image n)) (effect_after image i xs s.memory)) right.at.instr
          (B.next_ordered image world facts s.issued s.chain s.stopped s.memory fit.legal.settled w i xs
          ready.issuable right.time right.inst right.at right.operands right.memory fit.legal.cut
          fit.legal.ordered inside s.waiting nx)

      chain_behind : (c : Chain) × Passes image (issued_with image s.issued s.memory w i xs) s.chain c
      chain_behind = elim ready.issuable.turn [
        | inl nx ↦ (let r = pass_all (length (down (most image))) (issued_with image s.issued s.memory w i xs)
            (pass s.chain (note_of image i)) (effect_after image i xs s.memory) (suc right.time)
            (down (most image)) (omega arith) (at_next nx)
            (covers_all (issued_with image s.issued s.memory w i xs) (pass s.chain (note_of image i))
            (suc right.time)) in
            (r.0, passes i (answer image i xs s.memory) here nx r.1))
        | inr l ↦ pass_all (length (down (most image))) (issued_with image s.issued s.memory w i xs) s.chain
            (effect_after image i xs s.memory) fit.legal.cut (down (most image)) (omega arith)
            (B.early_ordered image world facts s.issued s.chain s.stopped s.memory fit.legal.settled w i xs
            ready.issuable right.time right.inst right.at right.operands right.memory fit.legal.cut
            fit.legal.ordered inside s.waiting l.0)
            (covers_all (issued_with image s.issued s.memory w i xs) s.chain fit.legal.cut)
      ]

      -- the chain is the same whoever passes
      chain_one : (c d : Chain) → Passes image (issued_with image s.issued s.memory w i xs) s.chain c
          → Passes image (issued_with image s.issued s.memory w i xs) s.chain d → c ≡ d
      chain_one c d p q = elim ready.issuable.turn [
        | inl nx ↦ by_next c d nx p q
        | inr l ↦ passes_one (issued_with image s.issued s.memory w i xs) s.chain c d
            (effect_after image i xs s.memory) fit.legal.cut p q
            (B.early_ordered image world facts s.issued s.chain s.stopped s.memory fit.legal.settled w i xs
            ready.issuable right.time right.inst right.at right.operands right.memory fit.legal.cut
            fit.legal.ordered inside s.waiting l.0)
      ]
        where
          this : (j a : ℕ) → issued_with image s.issued s.memory w i xs s.chain.wave j ≡ Some a
              → IsNext s.chain (note_of image j) → i ≡ j
          this j a e nj =
              elim (B.issued_from image world facts s.issued s.chain s.stopped s.memory fit.legal.settled w i
              xs ready.issuable right.time right.inst right.at right.operands right.memory fit.legal.cut
              fit.legal.ordered s.chain.wave j a e) [
                | inl h ↦ h.0.instr
                | inr h ↦ absurd (fit.legal.settled j a h nj)
              ]

          by_next : (c d : Chain) → IsNext s.chain (note_of image i)
              → Passes image (issued_with image s.issued s.memory w i xs) s.chain c
              → Passes image (issued_with image s.issued s.memory w i xs) s.chain d → c ≡ d
          by_next c d nx (stays n) q = absurd (n i (answer image i xs s.memory) here nx)
          by_next c d nx (passes j a e nj p) (stays n) = absurd (n i (answer image i xs s.memory) here nx)
          by_next c d nx (passes j a e nj p) (passes k b f nk q) =
              passes_one (issued_with image s.issued s.memory w i xs) (pass s.chain (note_of image i)) c d
              (effect_after image i xs s.memory) (suc right.time)
              (subst (λ (n : ℕ). Passes image (issued_with image s.issued s.memory w i xs)
              (pass s.chain (note_of image n)) c) (sym (this j a e nj)) p)
              (subst (λ (n : ℕ). Passes image (issued_with image s.issued s.memory w i xs)
              (pass s.chain (note_of image n)) d) (sym (this k b f nk)) q) (at_next nx)

    pub makes : (e : Event) → Enabled image s e → (t : State) × Step image s e t
    makes (Match w i p) on = (
      matched image s w i p on.0,
      record {
        value = on.0;
        on_way = on.1;
        becomes = same_refl (matched image s w i p on.0);
      },
    )
    makes (Issue w i) on = elim (cases_Bool (is_past image i on.0)) [
      | inl b ↦ (
        record s { stopped = true },
        inl (record {
          operands = on.0;
          ready = on.1;
          past = b;
          becomes = same_refl (record s { stopped = true });
        }),
      )
      | inr b ↦ (let c = chain_behind w i on.0 on.1 b in (
        issue image s w i on.0 c.0,
        inr (record {
          operands = on.0;
          ready = on.1;
          within = b;
          chain = c.0;
          passed = c.1;
          becomes = same_refl (issue image s w i on.0 c.0);
        }),
      ))
    ]

    one_some : {A : Type 0} (x y : A) (o : Option A) → o ≡ Some x → o ≡ Some y → x ≡ y
    one_some x y o e f = let g : Some x ≡ Some y = sym e ∙ f in cc

    pub alone : (e : Event) (t u : State) → Step image s e t → Step image s e u → Same t u
    alone (Match w i p) t u a b = same_both t u (matched image s w i p a.value) a.becomes
        (subst (λ (v : ℕ). Same u (matched image s w i p v)) (one_some b.value a.value (s.way w i p) b.on_way
        a.on_way) b.becomes)
    alone (Issue w i) t u (inl a) (inl b) = same_both t u (record s { stopped = true }) a.becomes b.becomes
    alone (Issue w i) t u (inl a) (inr b) =
        absurd (both_ways (is_past image i b.operands) b.within
        (subst (λ (xs : List ℕ). is_past image i xs ≡ true) (one_some a.operands b.operands (s.waiting w i)
        a.ready.waits b.ready.waits) a.past))
    alone (Issue w i) t u (inr a) (inl b) =
        absurd (both_ways (is_past image i a.operands) a.within
        (subst (λ (xs : List ℕ). is_past image i xs ≡ true) (one_some b.operands a.operands (s.waiting w i)
        b.ready.waits a.ready.waits) b.past))
    alone (Issue w i) t u (inr a) (inr b) =
        let xs : b.operands ≡ a.operands = one_some b.operands a.operands (s.waiting w i) b.ready.waits
        a.ready.waits in
        let pb : Passes image (issued_with image s.issued s.memory w i a.operands) s.chain b.chain =
        subst (λ (ys : List ℕ). Passes image (issued_with image s.issued s.memory w i ys) s.chain b.chain)
        xs b.passed in
        let c : b.chain ≡ a.chain = chain_one w i a.operands a.ready a.within b.chain a.chain pb a.passed in
        same_both t u (issue image s w i a.operands a.chain) a.becomes
        (subst (λ (d : Chain). Same u (issue image s w i a.operands d)) c
        (subst (λ (ys : List ℕ). Same u (issue image s w i ys b.chain)) xs b.becomes))
