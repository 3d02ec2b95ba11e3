-- When the walk comes to operations on cells.
use Rattle.std.proofs.Common.{ℕ, ◌≡◌, ◌<◌, ◌≤◌, ◌⊎◌, Bool, true, false, cond, ◌&&◌, List, [], ◌∷◌, Some, None}
use Rattle.std.proofs.Common.{slice_index, refl, sym, ap, ◌∙◌, subst, inl, inr, arith, eq-eqb, ne_eqb}
use Rattle.std.proofs.lemmas.Bool.{and_from, and_parts, both_ways, cases_Bool, cases_eq, lt-ltb, le-ltb}
use Rattle.ws_words.specs.Outside.{World}
use Rattle.ws_isa.specs.declared.instr.Op.{Op}
use Rattle.ws_isa.specs.Image.{Image, instr_at, is_memory, is_memory_op}
use Rattle.ws_isa.specs.Formed.{Formed}
use Rattle.ws_isa.specs.Walk.{Inst}
use Rattle.ws_isa.specs.Sound.{Sound}
use Rattle.df_core.specs.Fit.{chain_at}
use Rattle.df_core.proofs.Walked.Facts.{WalkFacts}
use Rattle.df_core.proofs.Walked.FromSound.{facts_of}
use Rattle.df_core.proofs.Walked.PortsThere.{ports_there}
use Rattle.df_core.proofs.Keeping.Passing.{same_fired}
use Rattle.df_core.specs.Core.{same_key}
use Rattle.df_core.proofs.Keeping.Ports.{SameKey}
use Rattle.df_core.proofs.Keeping.Settling.{one_time}
use Rattle.part_store.specs.declared.entry.Queued.{Queued}
use Rattle.part_store.specs.Queues.{all_later, front, is_later, joined, without, without_first}
use Rattle.part_store.specs.Contents.{is_on_row}
use Rattle.part_store.specs.Parted.{OnCell, Earlier, IsNumbered, RisingEntries}
use Rattle.part_store.proofs.Queueing.Keys.{IsOn, key_cases, cell_cases, same_key_is}
use Rattle.df_core.proofs.Walked.Ops.{seq_up}
use Rattle.part_store.proofs.Queueing.Fronts as F
use Rattle.ws_words.specs.Items.{In}

row_memory_op : (o : Op) (r : ℕ) → is_on_row o r ≡ true → is_memory_op o ≡ true
row_memory_op o r e = grind arith

pub row_is_op : (o : Op) (r q : ℕ) → is_on_row o r ≡ true → is_on_row o q ≡ true → r ≡ q
row_is_op o r q e f = grind arith

pub row_memory : (image : Image) (i r : ℕ) → is_on_row (instr_at image i).op r ≡ true →
    is_memory image i ≡ true
unfolding is_memory
row_memory image i r e = row_memory_op (instr_at image i).op r e

module _ (image : Image) (world : World) (formed : Formed image) (sound : Sound image) where
  pub facts : WalkFacts image world
  facts = facts_of image world (ports_there image formed) sound

  -- an instance is at one step, on one cell
  pub record OnceThere (t u r q j k : ℕ) : Type 0 where
    pub time : t ≡ u
    pub row : r ≡ q
    pub index : j ≡ k

  pub one_there : (w i r j t q k u : ℕ) → OnCell image world w i r j t → OnCell image world w i q k u →
      OnceThere t u r q j k
  one_there w i r j t q k u a b =
      let e : t ≡ u = one_time image world facts w i t u a.inst b.inst a.at b.at in
      let s : a.inst ≡ b.inst = same_fired image world facts t u a.inst b.inst a.at.fires b.at.fires e in
      record {
        time = e;
        row = row_is_op (instr_at image i).op r q a.row b.row;
        index = sym a.index ∙ ap (λ (x : Inst). slice_index x.operands 0) s ∙ b.index;
      }

  -- two operations at one step are of one instance
  pub one_instance : (w i r j v k q l t : ℕ) → OnCell image world w i r j t → OnCell image world v k q l t →
      SameKey w i v k
  one_instance w i r j v k q l t a b = grind arith

  abbrev At : Queued → ℕ → Type 0
  At e t = OnCell image world e.wave e.instr e.row e.index t

  pub at_once : (e : Queued) (t u : ℕ) → At e t → At e u → t ≡ u
  at_once e t u a b = (one_there e.wave e.instr e.row e.index t e.row e.index u a b).time

  pub earlier_then : (e f g : Queued) → Earlier image world e f → Earlier image world f g →
      Earlier image world e g
  earlier_then e f g a b = grind (arith, at_once f a.then b.time a.other b.one)

  pub earlier_by : (e f : Queued) (t u : ℕ) → At e t → At f u → t < u →
      IsNumbered image e × IsNumbered image f → Earlier image world e f
  earlier_by e f t u a b l n = record { time = t; one = a; then = u; other = b; before = l; numbered = n }

  pub earlier_times : (e f : Queued) (t u : ℕ) → Earlier image world e f → At e t → At f u → t < u
  earlier_times e f t u s a b = grind (arith, at_once e s.time t s.one a, at_once f s.then u s.other b)

  -- an entry isn't earlier than one of its own instance
  pub not_self : (e f : Queued) → SameKey e.wave e.instr f.wave f.instr → Earlier image world e f → ⊥
  not_self e f k s =
      let b : OnCell image world f.wave f.instr e.row e.index s.time = rw (← k.instr) (rw (← k.wave) s.one) in
      let q = one_there f.wave f.instr e.row e.index s.time f.row f.index s.then b s.other in
      let e : s.time ≡ s.then = q.time in
      let l : s.time < s.then = s.before in omega arith

  waves_of : (e f : Queued) → Earlier image world e f →
      (e.wave < f.wave) ⊎ ((e.wave ≡ f.wave) × (e.seq < f.seq))
  waves_of e f s =
      let mx : is_memory image s.one.inst.instr ≡ true = ap (is_memory image) s.one.at.instr
      ∙ row_memory _ _ _ s.one.row in
      let my : is_memory image s.other.inst.instr ≡ true = ap (is_memory image) s.other.at.instr
      ∙ row_memory _ _ _ s.other.row in
      let l : s.time < s.then = s.before in
      let a : s.one.inst.wave ≡ (chain_at image world s.time).wave =
      facts.turn_wave s.time s.one.inst s.one.at.fires mx in
      let b : (chain_at image world s.time).wave ≤ s.other.inst.wave =
      facts.wave_up s.time s.then s.other.inst (omega (arith, l)) s.other.at.fires my in
      let we : s.one.inst.wave ≡ e.wave = s.one.at.wave in
      let wf : s.other.inst.wave ≡ f.wave = s.other.at.wave in
      elim (cases_eq e.wave f.wave) [
        | inl same ↦ inr (
          same,
          rw (s.numbered.0, s.numbered.1, ← s.one.at.instr, ← s.other.at.instr) (seq_up _ _ sound.shape
              sound.links _ _ _ _ l s.one.at.fires mx s.other.at.fires my (we ∙ same ∙ sym wf)),
        )
        | inr n ↦ inl (omega arith)
      ]

  -- what comes later has the later wave or sequence number
  pub later_is : (e f : Queued) → Earlier image world e f → is_later f e ≡ true
  later_is e f s = elim (waves_of e f s) [
    | inl l ↦ rw (lt-ltb e.wave f.wave l) refl
    | inr h ↦ rw (le-ltb e.wave f.wave (omega (arith, h.0)), eq-eqb e.wave f.wave h.0, lt-ltb e.seq f.seq h.1)
        refl
  ]

  pub later_not : (e f : Queued) → Earlier image world e f → is_later e f ≡ false
  later_not e f s = elim (waves_of _ _ s) [
    | inl l ↦ rw (le-ltb f.wave e.wave (omega (arith, l)), ne_eqb f.wave e.wave (λ q. omega (arith, l, q)))
        refl
    | inr h ↦ rw (
      le-ltb f.wave e.wave (omega (arith, h.0)),
      eq-eqb f.wave e.wave (sym h.0),
      le-ltb f.seq e.seq (omega (arith, h.1)),
    ) refl
  ]

  -- a cell's first entry is the first in the walk's order
  pub front_first : (es : List Queued) (r j : ℕ) (e f : Queued) → RisingEntries image world es →
      front es r j ≡ Some e → In f es → IsOn f r j → (f ≡ e) ⊎ Earlier image world e f
  front_first [] r j e f rise h g o = absurd g
  front_first (x ∷ es) r j e f rise h g o = elim (cell_cases x r j) [
    | inl c ↦ (let q : Some x ≡ Some e = sym (F.front_here x es r j c.1) ∙ h in let s : x ≡ e = cc in elim g [
      | inl p ↦ inl (p ∙ s)
      | inr k ↦ inr (subst (λ (y : Queued). Earlier image world y f) s (rise.0 f k))
    ])
    | inr c ↦ elim g [
      | inl p ↦ absurd (c.1 (subst (λ (y : Queued). IsOn y r j) p o))
      | inr k ↦ front_first es r j e f rise.1 (sym (F.front_there x es r j c.1) ∙ h) k o
    ]
  ]

  -- a cell's first operation is the only one of its instance
  pub first_leaves : (es : List Queued) (r j : ℕ) (e : Queued) → RisingEntries image world es
      → front es r j ≡ Some e →
      without_first es r j ≡ without es e.wave e.instr
  first_leaves [] r j e rise h = refl
  first_leaves (x ∷ es) r j e rise h = elim (cell_cases x r j) [
    | inl c ↦ (let q : Some x ≡ Some e = sym (F.front_here x es r j c.1) ∙ h in let s : x ≡ e = cc in
        let k : same_key x.wave x.instr e.wave e.instr ≡ true = rw (← s) (same_key_is x.wave x.instr) in
        ap (λ (b : Bool). cond b es (x ∷ without_first es r j)) c.0
        ∙ sym (ap (λ (b : Bool). cond b es (x ∷ without es e.wave e.instr)) k))
    | inr c ↦ (let g : front es r j ≡ Some e = sym (F.front_there x es r j c.1) ∙ h in
        ap (λ (b : Bool). cond b es (x ∷ without_first es r j)) c.0
        ∙ elim (key_cases x.wave x.instr e.wave e.instr) [
          | inl k ↦ absurd (not_self x e k.1 (rise.0 e (F.front_in es r j e g).0))
          | inr k ↦ ap (λ (zs : List Queued). x ∷ zs) (first_leaves es r j e rise.1 g)
              ∙ sym (ap (λ (b : Bool). cond b es (x ∷ without es e.wave e.instr)) k.0)
        ])
  ]

  -- one more at its place keeps the order
  module _ (f : Queued) where
    later_all : (es : List Queued) → ((g : Queued) → In g es → Earlier image world f g)
        → all_later es f ≡ true
    later_all [] all = refl
    later_all (x ∷ es) all = and_from (is_later x f) (all_later es f) (later_is f x (all x (inl refl)))
        (later_all es (λ g h. all g (inr h)))

    not_all : (x : Queued) (es : List Queued) → Earlier image world x f → all_later (x ∷ es) f ≡ false
    not_all x es a = ap (λ (b : Bool). b && all_later es f) (later_not x f a)

    pub rising_joined : (es : List Queued) → RisingEntries image world es →
        ((g : Queued) → In g es → Earlier image world g f ⊎ Earlier image world f g) →
        RisingEntries image world (joined f es)
    rising_joined [] rise all = ((λ g h. absurd h), tt)
    rising_joined (x ∷ es) rise all = elim (cases_Bool (all_later (x ∷ es) f)) [
      | inl l ↦ rw l (elim (all x (inl refl)) [
        | inl a ↦ absurd (both_ways (is_later x f) (later_not x f a) (and_parts (is_later x f) (all_later
            es f) l).0)
        | inr a ↦ (
          (λ g h. elim h [
            | inl q ↦ rw q a
            | inr k ↦ earlier_then f x g a (rise.0 g k)
          ]),
          rise,
        )
      ])
      | inr l ↦ rw l (
        (λ g h. elim (F.joined_in f es g h) [
          | inl q ↦ rw q (elim (all x (inl refl)) [
            | inl a ↦ a
            | inr a ↦ absurd (both_ways (all_later (x ∷ es) f) l (later_all (x ∷ es) (λ g h. elim h [
              | inl q ↦ rw q a
              | inr k ↦ earlier_then f x g a (rise.0 g k)
            ])))
          ])
          | inr k ↦ rise.0 g k
        ]),
        rising_joined es rise.1 (λ g h. all g (inr h)),
      )
    ]

    -- the first entry of its cell stays the first, where it is earlier
    pub joined_front : (es : List Queued) (r j : ℕ) (e : Queued) → RisingEntries image world es →
        front es r j ≡ Some e → Earlier image world e f → front (joined f es) r j ≡ Some e
    joined_front [] r j e rise h a = absurd (let g : None ≡ Some e = h in cc)
    joined_front (x ∷ es) r j e rise h a = elim (cell_cases x r j) [
      | inl c ↦ (let q : Some x ≡ Some e = sym (F.front_here x es r j c.1) ∙ h in let s : x ≡ e = cc in
          let l : all_later (x ∷ es) f ≡ false = not_all x es (rw s a) in
          ap (λ (b : Bool). front (cond b (f ∷ x ∷ es) (x ∷ joined f es)) r j) l
          ∙ F.front_here x (joined f es) r j c.1 ∙ q)
      | inr c ↦ (let g : front es r j ≡ Some e = sym (F.front_there x es r j c.1) ∙ h in
          let l : all_later (x ∷ es) f ≡ false =
          not_all x es (earlier_then x e f (rise.0 e (F.front_in es r j e g).0) a) in
          ap (λ (b : Bool). front (cond b (f ∷ x ∷ es) (x ∷ joined f es)) r j) l
          ∙ F.front_there x (joined f es) r j c.1 ∙ joined_front es r j e rise.1 g a)
    ]

  module _ (w i : ℕ) where
    pub rising_without : (es : List Queued) → RisingEntries image world es
        → RisingEntries image world (without es w i)
    rising_without [] rise = tt
    rising_without (x ∷ es) rise = grind (arith, key_cases, F.without_in, rising_without es rise.1)

    -- it stands no more among the others
    pub gone : (es : List Queued) → RisingEntries image world es → (e : Queued) → In e (without es w i) →
        SameKey e.wave e.instr w i → ⊥
    gone [] rise e h k = h
    gone (x ∷ es) rise e h k = elim (key_cases x.wave x.instr w i) [
      | inl c ↦ not_self x e (record { wave = c.1.wave ∙ sym k.wave; instr = c.1.instr ∙ sym k.instr })
          (rise.0 e (subst (λ (b : Bool). In e (cond b es (x ∷ without es w i))) c.0 h))
      | inr c ↦ elim (subst (λ (b : Bool). In e (cond b es (x ∷ without es w i))) c.0 h) [
        | inl q ↦ c.1 (subst (λ (y : Queued). SameKey y.wave y.instr w i) q k)
        | inr g ↦ gone es rise.1 e g k
      ]
    ]
