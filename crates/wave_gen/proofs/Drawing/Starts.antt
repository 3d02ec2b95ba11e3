-- What is open at the start of a block of a draft.
use Rattle.std.proofs.Common.{ℕ, zero, suc, ◌+◌, ◌-◌, ◌≡◌, ◌<◌, ◌≤◌, true, List, [], ◌∷◌, length, Some, refl}
use Rattle.std.proofs.Common.{sym, ap, ◌∙◌, subst, inl, inr, arith, eq-eqb, ne_eqb}
use Rattle.std.proofs.lemmas.Bool.{cases_Bool, cond-true}
use Rattle.ws_isa.specs.declared.instr.Dest.{Dest}
use Rattle.ws_isa.specs.Image as image
use Rattle.ws_isa.specs.Image.{Image, Array, block_at, first_number, is_advance, is_first, IsIn, IsBlock}
use Rattle.ws_isa.specs.Sound.{HasDest}
use Rattle.wave_gen.specs.Waits.{Code, starts}
use Rattle.wave_gen.specs.Wire.{Target, Back, Front, dests_of, Wants, Made}
use Rattle.wave_gen.specs.Plans.{Plan, advances, renew, body_made, plan_at, made_at, starts_at, begins}
use Rattle.wave_gen.specs.Plans.{draft_of, code_of}
use Rattle.wave_gen.proofs.Planning.Planned.{PlansAre}
use Rattle.wave_gen.proofs.Waits.Fronts.{nth_in, in_or_not, fronts_none, fronts_at, FrontIs, front_is}
use Rattle.wave_gen.proofs.Waits.Fronts.{is_front, advances_at, advances_count}
use Rattle.wave_gen.proofs.Drawing.Blocks.{Facts, facts, begins_next, made_is, starts_inner, starts_outer}
use Rattle.wave_gen.proofs.Drawing.Drafts.{advance_front, front_advance}
use Rattle.wave_gen.proofs.Drawing.Number.{number_is, block_at_is, is_block}
use Rattle.ws_words.specs.Items.{nth}
use Rattle.ws_words.proofs.Places.{nth_short}

module _ (arrays : List Array) (width : ℕ) (ps : List Plan) (Live : ℕ → ℕ → Type 0)
    (plans : PlansAre ps width Live) where
  abbrev pub I : Image
  I = draft_of arrays width ps

  abbrev pub C : Code
  C = code_of width ps

  abbrev pub Is : ℕ → Type 0
  Is b = (1 ≤ b) × (b ≤ length ps)

  abbrev pub F : ℕ → ℕ
  F = begins width ps

  abbrev pub S : ℕ → Wants
  S = starts_at width ps

  fact : (b : ℕ) → Is b → Facts width ps Live plans.each b
  fact b h = facts width ps Live plans.each b h

  -- wants and slots at the start, before fronts are told apart
  made_has : (b : ℕ) → Is b → (x j q : ℕ) → HasDest (dests_of F ((made_at width ps b).wants x)) j q
      → starts I C b j q ≡ Some x
  unfolding code_of
  made_has b h x j q d = rw (number_is arrays width ps b) ((fact b h).inv.has x j q d)

  made_all : (b : ℕ) → Is b → (x j q : ℕ) → starts I C b j q ≡ Some x
      → HasDest (dests_of F ((made_at width ps b).wants x)) j q
  unfolding code_of
  made_all b h x j q e = grind (arith, fact, number_is)

  made_first : (b : ℕ) → Is b → (plan_at ps b).first ≡ true → made_at width ps b ≡ advances b
      (plan_at ps b).entries (renew b (plan_at ps b).entries (body_made width S b (plan_at ps b)))
  made_first b h f = made_is width ps b h (plans.each b h).edges ∙ cond-true (plan_at ps b).first _ _ f

  -- where the advance of an entry stands
  entry_spot : (b : ℕ) → Is b → (plan_at ps b).first ≡ true → (i x : ℕ)
      → nth (plan_at ps b).entries i ≡ Some x → dests_of F ((made_at width ps b).wants x) ≡ dests_of F (S b x)
  entry_spot b h f i x e =
      ap (λ (m : Made). dests_of F (m.wants x)) (made_first b h f) ∙ ap (dests_of F)
      (advances_at b (plan_at ps b).entries core i x (plans.each b h).entries_apart e)
      ∙ same ∙ sym (ap (dests_of F) (ap (λ (w : Wants). w x) (starts_outer width ps b f)
      ∙ fronts_at b 0 (plan_at ps b).entries i x (plans.each b h).entries_apart e))
    where
      core : Made
      core = renew b (plan_at ps b).entries (body_made width S b (plan_at ps b))

      same : dests_of F (Back b (length core.code + (length (plan_at ps b).entries - suc i)) 0 ∷ [])
          ≡ dests_of F (Front b (0 + i) ∷ [])
      same =
          let t : F (suc b) ≡ F b + length (made_at width ps b).code = begins_next width ps b h in
          let n : length (made_at width ps b).code ≡ length (plan_at ps b).entries + length core.code =
          grind (arith, made_first, advances_count) in
          let l : i < length (plan_at ps b).entries = nth_short (plan_at ps b).entries i x e in
          let z : F (suc b) - suc (length core.code + (length (plan_at ps b).entries - suc i))
          ≡ F b + (0 + i) = omega arith in
          rw z refl

  wants_same : (b : ℕ) → Is b → (x : ℕ) → dests_of F ((made_at width ps b).wants x) ≡ dests_of F (S b x)
  wants_same b h x = elim (cases_Bool (plan_at ps b).first) [
    | inr f ↦ ap (λ (w : Wants). dests_of F (w x)) (sym (starts_inner width ps b f))
    | inl f ↦ elim (in_or_not (plan_at ps b).entries x) [
      | inl i ↦ (let r = nth_in (plan_at ps b).entries x i in entry_spot b h f r.0 x r.1)
      | inr n ↦
          ap (dests_of F) ((fact b h).spare f x n ∙ sym (ap (λ (w : Wants). w x) (starts_outer width ps b f)
          ∙ fronts_none b 0 (plan_at ps b).entries x n))
    ]
  ]

  pub starts_has : (b : ℕ) → Is b → (x j q : ℕ) → HasDest (dests_of F (S b x)) j q → starts I C b j q ≡ Some x
  starts_has b h x j q d =
      made_has b h x j q (subst (λ (l : List Dest). HasDest l j q) (sym (wants_same b h x)) d)

  pub starts_all : (b : ℕ) → Is b → (x j q : ℕ) → starts I C b j q ≡ Some x → HasDest (dests_of F (S b x)) j q
  starts_all b h x j q e = rw (wants_same b h x) at (made_all b h x j q e)

  -- firsts
  wave_of : (b : ℕ) → Is b → (block_at I b).wave ≡ (plan_at ps b).wave
  wave_of b h = ap (λ (k : image.Block). k.wave) (block_at_is arrays width ps b h)

  pub first_is : (b : ℕ) → Is b → is_first I b ≡ (plan_at ps b).first
  unfolding is_first
  first_is zero h = absurd (omega (arith, h.0))
  first_is (suc zero) h = sym plans.first
  first_is (suc (suc b)) h = elim (cases_Bool (plan_at ps (suc (suc b))).first) [
    | inl f ↦ (let r : (plan_at ps (suc (suc b))).wave ≡ suc (plan_at ps (suc b)).wave =
        plans.rises b h.1 f in
        rw (
          wave_of (suc (suc b)) h,
          wave_of (suc b) (omega arith, omega (arith, h.1)),
          ne_eqb (plan_at ps (suc (suc b))).wave (plan_at ps (suc b)).wave (λ e. omega arith),
        ) (sym f))
    | inr f ↦ rw (
      wave_of (suc (suc b)) h,
      wave_of (suc b) (omega arith, omega (arith, h.1)),
      eq-eqb (plan_at ps (suc (suc b))).wave (plan_at ps (suc b)).wave (plans.stays b h.1 f),
    ) (sym f)
  ]

  first_front : (b j q x : ℕ) → Is b → (plan_at ps b).first ≡ true → starts I C b j q ≡ Some x
      → FrontIs F b (plan_at ps b).entries x j q
  first_front b j q x h f e = front_is F b (plan_at ps b).entries x j q (plans.each b h).entries_apart
      (subst (λ (l : List Target). HasDest (dests_of F l) j q)
      (ap (λ (w : Wants). w x) (starts_outer width ps b f)) (starts_all b h x j q e))

  pub waits_first : (b j q x : ℕ) → IsBlock I b → is_first I b ≡ true → starts I C b j q ≡ Some x
      → IsIn I b j × (is_advance I j ≡ true) × (q ≡ 0)
  waits_first b j q x hb f e =
      let h : Is b = is_block arrays width ps b hb in
      let g : (plan_at ps b).first ≡ true = sym (first_is b h) ∙ f in
      let r = first_front b j q x h g e in
      let i : IsIn I b j = entry_in b h g r.place x r.is j r.instr in (
        i,
        front_advance arrays width ps Live plans.each b h g j i
            (let l : r.place < length (plan_at ps b).entries = nth_short (plan_at ps b).entries r.place x
            r.is in let z : j ≡ F b + r.place = r.instr in omega arith),
        r.port,
      )
    where
      entry_in : (b : ℕ) (h : Is b) (g : (plan_at ps b).first ≡ true) (i x : ℕ)
          → nth (plan_at ps b).entries i ≡ Some x → (j : ℕ) → j ≡ F b + i → IsIn I b j
      entry_in b h g i x e j z =
          let t : F (suc b) ≡ F b + length (made_at width ps b).code = begins_next width ps b h in
          let n : length (made_at width ps b).code ≡ length (plan_at ps b).entries + length
          (renew b (plan_at ps b).entries (body_made width S b (plan_at ps b))).code =
          grind (arith, made_first, advances_count) in
          let l : i < length (plan_at ps b).entries = nth_short (plan_at ps b).entries i x e in
          let y : first_number I b ≡ F b = number_is arrays width ps b in
          let w : first_number I (suc b) ≡ F (suc b) = number_is arrays width ps (suc b) in
          (omega arith, omega arith)

  some_at : (xs : List ℕ) (i : ℕ) → i < length xs → (x : ℕ) × (nth xs i ≡ Some x)
  some_at [] i l = absurd (omega arith)
  some_at (x ∷ xs) zero l = (x, refl)
  some_at (x ∷ xs) (suc i) l = some_at xs i (omega arith)

  pub waits_first_all : (b j : ℕ) → IsBlock I b → is_first I b ≡ true → IsIn I b j → is_advance I j ≡ true
      → (x : ℕ) × (starts I C b j 0 ≡ Some x)
  waits_first_all b j hb f i a =
      let h : Is b = is_block arrays width ps b hb in
      let r = advance_front arrays width ps Live plans.each b h j i a in
      let y : first_number I b ≡ F b = number_is arrays width ps b in
      let n : F b + (j - F b) ≡ j = omega (arith, i.0) in
      let s = some_at (plan_at ps b).entries (j - F b) (omega arith) in (
        s.0,
        starts_has b h s.0 j 0 (subst (λ (k : ℕ). HasDest (dests_of F (S b s.0)) k 0) n
            (rw (ap (λ (w : Wants). w s.0) (starts_outer width ps b r.0))
            (is_front F b (plan_at ps b).entries (j - F b) s.0 (plans.each b h).entries_apart s.1))),
      )
