-- Every block of a draft keeps the tie of wants and slots.
use Rattle.std.proofs.Common.{ℕ, zero, suc, ◌+◌, ◌-◌, ◌≡◌, ◌<◌, ◌≤◌, ◌⊎◌, Bool, true, false, cond, List, []}
use Rattle.std.proofs.Common.{◌∷◌, length, Some, None, refl, sym, ap, ◌∙◌, subst, inl, inr, arith}
use Rattle.std.proofs.lemmas.Bool.{cases_Bool, cases_eq, cases_order, both_ways, cond-true, cond-false}
use Rattle.ws_isa.specs.declared.instr.Op.TheVariants.{Merge, Advance}
use Rattle.wave_gen.specs.Waits.{Owner}
use Rattle.wave_gen.specs.Wire.{Target, Back, Front, WiredInstr, Wants, no_wants, Made, emit}
use Rattle.wave_gen.specs.Plans.{merges, HowLeft, Onto, Either, Lands, Halts, Plan, pulse, same_spots}
use Rattle.wave_gen.specs.Plans.{differing, steered, is_among, past, steers, sends, selected, tails_of}
use Rattle.wave_gen.specs.Plans.{end_wants, behind_source, exit_made, body_made, block_made, has_front, renew}
use Rattle.wave_gen.specs.Plans.{advances, fronts, no_plan, no_made, plan_at, start_of, blocks_from, mades}
use Rattle.wave_gen.specs.Plans.{made_at, starts_at, numbers, begins, owner_of}
use Rattle.wave_gen.proofs.Planning.Planned.{Needs, Apart, Inner, Outer, EdgesAre, PlanIs}
use Rattle.ws_isa.proofs.Steps.{first_le}
use Rattle.wave_gen.proofs.Planning.SteeredNames.{or_in}
use Rattle.wave_gen.proofs.Waits.Wiring.{Ahead, Inv, Good, emit_inv}
use Rattle.wave_gen.proofs.Waits.Flow.{Wanted, wire_wanted, make_wanted, gather_wanted, with_uses_wanted}
use Rattle.wave_gen.proofs.Waits.Flow.{selected_wanted, reads_more, helds}
use Rattle.wave_gen.proofs.Waits.Ends.{Clean, body_good, renew_good, merge_good}
use Rattle.wave_gen.proofs.Waits.Fronts.{in_or_not, fronts_none, fronts_clean, advances_count, advances_other}
use Rattle.wave_gen.proofs.Waits.Fronts.{renewed, no_front, renew_wanted}
use Rattle.wave_gen.proofs.Drawing.Number.{number_is, mades_count}
use Rattle.ws_words.specs.Items.{nth, or_else, In}
use Rattle.ws_words.proofs.Places.{nth_or}

-- list of blocks
record MadeAs (width : ℕ) (ps : List Plan) (b : ℕ) (qs : List Plan) (i : ℕ) (p : Plan) : Type 0 where
  pub later : List Made
  pub is : nth (blocks_from width ps b qs) i ≡ Some (block_made width (start_of ps (suc (b + i)) later)
      (b + i) p)
  pub tail : (j : ℕ) → nth later j ≡ nth (blocks_from width ps b qs) (suc i + j)

made_as : (width : ℕ) (ps : List Plan) (b : ℕ) (qs : List Plan) (i : ℕ) (p : Plan) → nth qs i ≡ Some p
    → MadeAs width ps b qs i p
made_as width ps b [] i p e = absurd (let a : None ≡ Some p = e in cc)
made_as width ps b (q ∷ qs) zero p e =
    let g : q ≡ p = cc in let z : b + 0 ≡ b = omega arith in
    record {
      later = blocks_from width ps (suc b) qs;
      is = rw (z, g) refl;
      tail = λ j. (let y : 1 + j ≡ suc j = omega arith in rw y refl);
    }
made_as width ps b (q ∷ qs) (suc i) p e = grind (arith, made_as width ps (suc b) qs i p e)

numbers_zero : (ms : List Made) → numbers ms zero ≡ 1
numbers_zero [] = refl
numbers_zero (m ∷ ms) = refl

numbers_next : (ms : List Made) (i : ℕ) (m : Made) → nth ms i ≡ Some m → numbers ms (suc i) ≡ numbers ms i
    + length m.code
numbers_next (n ∷ ms) (suc i) m e = grind (arith, numbers_next ms i m e)
numbers_next ms i m e = grind (arith, numbers_zero)

-- exits that agree on the wants at their targets
targets_agree : (s t : ℕ → Wants) → HowLeft → Type 0
targets_agree s t (Onto c) = ◌≡◌ {A = Wants} (s c) (t c)
targets_agree s t (Either op from c d) = ◌≡◌ {A = Wants} (s c) (t c) × ◌≡◌ {A = Wants} (s d) (t d)
targets_agree s t _ = Unit {0}

module _ (width : ℕ) (ps : List Plan) where
  abbrev pub F : ℕ → ℕ
  F = begins width ps

  abbrev pub Is : ℕ → Type 0
  Is b = (1 ≤ b) × (b ≤ length ps)

  pub begins_le : (b c : ℕ) → b ≤ c → begins width ps b ≤ begins width ps c
  begins_le b c l = rw (sym (number_is [] width ps b), sym (number_is [] width ps c))
      (grind (arith, first_le))

  made_nth : (b : ℕ) → suc b ≤ length ps → nth (mades width ps) b ≡ Some (made_at width ps (suc b))
  unfolding made_at
  made_nth b l = grind (arith, nth_or, mades_count)

  pub begins_next : (b : ℕ) → Is b → begins width ps (suc b) ≡ begins width ps b + length
      (made_at width ps b).code
  unfolding begins
  begins_next b h = grind (arith, numbers_next, made_nth)

  plan_nth : (b : ℕ) → suc b ≤ length ps → nth ps b ≡ Some (plan_at ps (suc b))
  unfolding plan_at
  plan_nth b l = nth_or ps b no_plan l

  record Laid (b : ℕ) : Type 0 where
    pub later : List Made
    pub is : made_at width ps b ≡ block_made width (start_of ps (suc b) later) b (plan_at ps b)
    pub found : (c : ℕ) → b < c → (or_else (nth later (c - suc b)) no_made) ≡ made_at width ps c

  laid : (b : ℕ) → Is b → Laid b
  unfolding mades made_at
  laid zero h = absurd (omega (arith, h.0))
  laid (suc b) h =
      let r = made_as width ps 1 ps b (plan_at ps (suc b)) (plan_nth b h.1) in
      grind (arith, r.is, found, r.later, r.tail)
    where
      found : (later : List Made) → ((j : ℕ) → nth later j ≡ nth (blocks_from width ps 1 ps) (suc b + j))
          → (c : ℕ) → suc b < c → or_else (nth later (c - suc (suc b))) no_made ≡ made_at width ps c
      found later tail zero l = absurd (omega arith)
      found later tail (suc c) l = grind arith

  start_same : (b c : ℕ) (l : Laid b) → Inner ps b c ⊎ Outer ps c
      → ◌≡◌ {A = Wants} (start_of ps (suc b) l.later c) (starts_at width ps c)
  unfolding starts_at
  start_same b c l h = grind arith

  tails_same : (s t : ℕ → Wants) (x : HowLeft) → targets_agree s t x → tails_of width s x ≡ tails_of width t x
  unfolding targets_agree
  tails_same s t x a = grind arith

  end_same : (s t : ℕ → Wants) (x : HowLeft) → targets_agree s t x → ◌≡◌ {A = Wants} (end_wants width s x)
      (end_wants width t x)
  unfolding targets_agree
  end_same s t (Onto c) a = a
  end_same s t (Either op from c d) a = ap (λ (w : Wants). past (steered width w (s d)) w) a.0
      ∙ ap (λ (w : Wants). past (steered width (t c) w) (t c)) a.1
  end_same s t (Lands op from values ls) a = refl
  end_same s t Halts a = refl

  exit_same : (s t : ℕ → Wants) (b : ℕ) (p : Plan) (x : HowLeft) → behind_source width s b p ≡ behind_source
      width t b p → exit_made width s b p x ≡ exit_made width t b p x
  exit_same s t b p x e = grind arith

  behind_same : (s t : ℕ → Wants) (b : ℕ) (p : Plan) → targets_agree s t p.exit
      → behind_source width s b p ≡ behind_source width t b p
  behind_same s t b p a = grind (arith, tails_same, end_same)

  block_same : (s t : ℕ → Wants) (b : ℕ) (p : Plan) → targets_agree s t p.exit
      → block_made width s b p ≡ block_made width t b p
  block_same s t b p a = grind (arith, exit_same, behind_same)

  laid_agree : (b : ℕ) (l : Laid b) (x : HowLeft) → EdgesAre ps b x
      → targets_agree (start_of ps (suc b) l.later) (starts_at width ps) x
  unfolding targets_agree
  laid_agree b l (Onto c) e = start_same b c l e
  laid_agree b l (Either op from c d) e = (start_same b c l (inl e.0), start_same b d l (inl e.1))
  laid_agree b l (Lands op from values ls) e = tt
  laid_agree b l Halts e = tt

  pub made_is : (b : ℕ) → Is b → EdgesAre ps b (plan_at ps b).exit → made_at width ps b ≡ block_made width
      (starts_at width ps) b (plan_at ps b)
  made_is b h e = let l = laid b h in grind (arith, block_same, laid_agree)

  pub starts_inner : (c : ℕ) → (plan_at ps c).first ≡ false → ◌≡◌ {A = Wants} (starts_at width ps c)
      (made_at width ps c).wants
  unfolding starts_at
  starts_inner c e = rw e refl

  pub starts_outer : (c : ℕ) → (plan_at ps c).first ≡ true → ◌≡◌ {A = Wants} (starts_at width ps c)
      (fronts c 0 (plan_at ps c).entries)
  unfolding starts_at
  starts_outer c e = rw e refl

  -- an entry that is there
  pub record Fine (c i : ℕ) : Type 0 where
    pub block : Is c
    pub first : (plan_at ps c).first ≡ true
    pub place : i < length (plan_at ps c).entries

  -- one that isn't of block b, if b has entries
  abbrev pub FineAt : ℕ → ℕ → ℕ → Type 0
  FineAt b c i = Fine c i × ((plan_at ps b).first ≡ true → c ≡ b → ⊥)

  abbrev pub S : ℕ → Wants
  S = starts_at width ps

  abbrev pub E : ℕ → Wants
  E b = end_wants width (starts_at width ps) (plan_at ps b).exit

  abbrev pub O : ℕ → Owner
  O b = owner_of (begins width ps) width (E b)

  -- names that differ
  pub differing_in : (w v : Wants) (x n y : ℕ) → In y (differing w v x n) → (same_spots (w y) (v y) ≡ false)
      × (y < x + n)
  differing_in w v x zero y h = absurd h
  differing_in w v x (suc n) y h = go (cases_Bool (same_spots (w x) (v x))) (differing_in w v (suc x) n y)
    where
      go : (same_spots (w x) (v x) ≡ true) ⊎ (same_spots (w x) (v x) ≡ false)
          → (In y (differing w v (suc x) n) → (same_spots (w y) (v y) ≡ false) × (y < suc x + n))
          → (same_spots (w y) (v y) ≡ false) × (y < x + suc n)
      go (inl e) ih = grind arith
      go (inr e) ih = grind arith

  pub helds_steers : (w v : Wants) (xs : List ℕ) → helds (steers w v xs) ≡ xs
  helds_steers w v [] = refl
  helds_steers w v (x ∷ xs) = ap (λ (r : List ℕ). x ∷ r) (helds_steers w v xs)

  pub helds_sends : (p : ℕ) (xs : List ℕ) → helds (sends p xs) ≡ xs
  helds_sends p [] = refl
  helds_sends p (x ∷ xs) = ap (λ (r : List ℕ). x ∷ r) (helds_sends (suc p) xs)

  pub nil_or : (l : List Target) → (l ≡ []) ⊎ (l ≡ [] → ⊥)
  nil_or [] = inl refl
  nil_or (p ∷ l) = inr (λ e. cc)

  -- a name that is steered is the pulse or wanted in an arm
  pub steered_wanted : (w v : Wants) (y : ℕ) → In y (steered width w v)
      → (y ≡ pulse) ⊎ (Wanted w y ⊎ Wanted v y)
  steered_wanted w v y i = elim (or_in (differing w v 0 width) y i) [
    | inl e ↦ inl e
    | inr h ↦ elim (nil_or (w y)) [
      | inr n ↦ inr (inl n)
      | inl e ↦ elim (nil_or (v y)) [
        | inr n ↦ inr (inr n)
        | inl f ↦
            absurd (both_ways (same_spots (w y) (v y)) (differing_in w v 0 width y h).0 (rw (e, f) refl))
      ]
    ]
  ]

  pub past_wanted : (xs : List ℕ) (w : Wants) (x : ℕ) → Wanted (past xs w) x → (is_among x xs ≡ false)
      × Wanted w x
  past_wanted xs w x h = grind (arith, cases_Bool)

  -- what is wanted behind an exit's front is what the exit needs
  exit_wanted : (Live : ℕ → ℕ → Type 0) (b : ℕ) (p : Plan) (x : ℕ)
      → ((c y : ℕ) → Inner ps b c ⊎ Outer ps c → Wanted (S c) y → Live c y) → EdgesAre ps b p.exit
      → Wanted (exit_made width S b p p.exit).wants x → Needs Live p.test p.exit x
  exit_wanted Live b p x live e h = go p.exit refl e h
    where
      behind : (l : HowLeft) → p.exit ≡ l → Wanted (behind_source width S b p).wants x
          → (x ≡ p.test) ⊎ (In x (helds (tails_of width S l)) ⊎ Wanted (end_wants width S l) x)
      behind l q g =
          subst (λ (m : HowLeft). (x ≡ p.test)
          ⊎ (In x (helds (tails_of width S m)) ⊎ Wanted (end_wants width S m) x)) q
          (selected_wanted b p.test (tails_of width S p.exit) (end_wants width S p.exit) x g)

      bare : (l : HowLeft) → p.exit ≡ l → Wanted (behind_source width S b p).wants x
          → Wanted (selected b p.test (tails_of width S l) (end_wants width S l)).wants x
      bare l q g =
          subst (λ (m : HowLeft). Wanted (selected b p.test (tails_of width S m) (end_wants width S m)).wants
          x) q g

      either : (c d : ℕ) → Inner ps b c → Inner ps b d → (y : ℕ) → y ≡ x → In x (steered width (S c) (S d))
          ⊎ Wanted (past (steered width (S c) (S d)) (S c)) x → (x ≡ pulse) ⊎ (Live c x ⊎ Live d x)
      either c d i j y f (inl k) = elim (steered_wanted (S c) (S d) x k) [
        | inl g ↦ inl g
        | inr g ↦ elim g [ inl w ↦ inr (inl (live c x (inl i) w)) | inr w ↦ inr (inr (live d x (inl j) w)) ]
      ]
      either c d i j y f (inr k) =
          inr (inl (live c x (inl i) (past_wanted (steered width (S c) (S d)) (S c) x k).1))

      go : (l : HowLeft) → p.exit ≡ l → EdgesAre ps b l → Wanted (exit_made width S b p l).wants x
          → Needs Live p.test l x
      go (Onto c) q e g = live c x e (bare (Onto c) q g)
      go (Either op from c d) q e g = elim (make_wanted b p.test op from (behind_source width S b p) x g) [
        | inl i ↦ inl i
        | inr r ↦ inr (
          r.0,
          elim (behind (Either op from c d) q r.1) [
            | inl f ↦ absurd (r.0 f)
            | inr k ↦
                either c d e.0 e.1 x refl
                (elim k [
                  | inl m ↦
                      inl (subst (λ (ys : List ℕ). In x ys)
                      (helds_steers (S c) (S d) (steered width (S c) (S d)))
                      m)
                  | inr m ↦ inr m
                ])
          ],
        )
      ]
      go (Lands op from values ls) q e g =
          elim (make_wanted b p.test op from (behind_source width S b p) x g) [
            | inl i ↦ inl i
            | inr r ↦ grind (arith, behind, helds_sends)
          ]
      go Halts q e g = grind (arith, with_uses_wanted, bare)

  -- behind the front of a block: what the block needs
  body_wanted : (Live : ℕ → ℕ → Type 0) (b : ℕ) (x : ℕ) → PlanIs ps width Live b
      → ((c y : ℕ) → Inner ps b c ⊎ Outer ps c → Wanted (S c) y → Live c y)
      → Wanted (body_made width S b (plan_at ps b)).wants x → Live b x
  body_wanted Live b x plan live h =
      let p : Plan = plan_at ps b in
      plan.live x (reads_more p.items (Wanted (exit_made width S b p p.exit).wants) (Needs Live p.test p.exit)
      x
      (λ g. exit_wanted Live b p x live plan.edges g)
      (wire_wanted b p.items (exit_made width S b p p.exit) x h))

  -- wants that lie ahead of a number lie ahead of a lower one
  ahead_low : (Fn : ℕ → ℕ → Type 0) (k l : ℕ) (p : Target) → l ≤ k → Ahead F Fn k p → Ahead F Fn l p
  ahead_low Fn k l p m a = grind arith

  pub past_is : (xs : List ℕ) (w : Wants) (x : ℕ) → (past xs w x ≡ []) ⊎ (past xs w x ≡ w x)
  past_is xs w x = grind arith

  pub past_clean : (Fn : ℕ → ℕ → Type 0) (k : ℕ) (xs : List ℕ) (w : Wants) → Clean F Fn k width w
      → Clean F Fn k width (past xs w)
  past_clean Fn k xs w c = grind (arith, past_is, past_wanted)

  pub none_clean : (Fn : ℕ → ℕ → Type 0) (k : ℕ) → Clean F Fn k width no_wants
  none_clean Fn k = grind arith

  module _ (Live : ℕ → ℕ → Type 0) (plans : (b : ℕ) → Is b → PlanIs ps width Live b) where
    -- what is known of a block
    pub record Facts (b : ℕ) : Type 0 where
      pub inv : Inv F b (O b) (FineAt b) (F b) (made_at width ps b)
      pub live : (x : ℕ) → Wanted (S b) x → Live b x
      pub clean : (k : ℕ) → k ≤ F b → Clean F Fine k width (S b)
      pub spare : (plan_at ps b).first ≡ true → (x : ℕ) → (In x (plan_at ps b).entries → ⊥)
          → (made_at width ps b).wants x ≡ []
      -- an advance sends to no entry of its block
      pub bars : (plan_at ps b).first ≡ true → (i : ℕ) (l : WiredInstr) → i < length (plan_at ps b).entries
          → nth (made_at width ps b).code i ≡ Some l → (q : Target) → In q l.dests
          → Ahead F (FineAt b) (F b + length (plan_at ps b).entries) q

    outer_is : (c : ℕ) → Outer ps c → Is c
    outer_is c o = (o.some, o.there)

    outer_clean : (c k : ℕ) → Outer ps c → Clean F Fine k width (S c)
    outer_clean c k o = let p = plans c (outer_is c o) in
        subst (λ (w : Wants). Clean F Fine k width w) (sym (starts_outer c o.first))
        (fronts_clean F Fine k width c (plan_at ps c).entries p.entries_apart
        (λ x i. p.few x (p.entries_live o.first x i))
        (grind (arith, outer_is)))

    outer_live : (c x : ℕ) → Outer ps c → Wanted (S c) x → Live c x
    outer_live c x o h = grind (arith, in_or_not, outer_is, starts_outer, fronts_none)

    module _ (b : ℕ) (h : Is b) (facts : (c : ℕ) → b < c → c ≤ length ps → Facts c) where
      plan : PlanIs ps width Live b
      plan = plans b h

      pub target_clean : (c : ℕ) → Inner ps b c ⊎ Outer ps c → Clean F Fine (F (suc b)) width (S c)
      target_clean c (inl i) = (facts c i.later i.there).clean (F (suc b)) (begins_le (suc b) c i.later)
      target_clean c (inr o) = outer_clean c (F (suc b)) o

      target_live : (c x : ℕ) → Inner ps b c ⊎ Outer ps c → Wanted (S c) x → Live c x
      target_live c x h w = grind (arith, outer_live)

      pub end_clean : Clean F Fine (F (suc b)) width (E b)
      end_clean = go (plan_at ps b).exit (plans b h).edges
        where
          go : (x : HowLeft) → EdgesAre ps b x → Clean F Fine (F (suc b)) width (end_wants width S x)
          go (Onto c) e = target_clean c e
          go (Either op from c d) e = grind (arith, past_clean, target_clean)
          go (Lands op from values ls) e = none_clean Fine (F (suc b))
          go Halts e = none_clean Fine (F (suc b))

      p : Plan
      p = plan_at ps b

      body : Made
      body = body_made width S b (plan_at ps b)

      -- an entry stands in its block
      pub entry_inside : (c i : ℕ) → Fine c i → F c + i < F (suc c)
      entry_inside c i f = grind (arith, begins_next, made_is, cond-true, advances_count)

      elsewhere : (c i k : ℕ) → Fine c i → (c ≡ b → ⊥) → F b ≤ k → k < F (suc b) → F c + i ≡ k → ⊥
      elsewhere c i k f n lo hi e = elim (cases_order c b) [
        | inl g ↦ n g
        | inr g ↦ elim g [
          | inl l ↦ (let a : F (suc c) ≤ F b = begins_le (suc c) b l in
              let d : F c + i < F (suc c) = entry_inside c i f in omega arith)
          | inr l ↦ (let a : F (suc b) ≤ F c = begins_le (suc b) c l in omega arith)
        ]
      ]

      -- a block that isn't the first of its wave
      module _ (not_first : (plan_at ps b).first ≡ false) where
        clear : (c i : ℕ) → Fine c i → F b ≤ F c + i → F c + i < F (suc b) → ⊥
        clear c i f lo hi = elsewhere c i (F c + i) f (grind (arith, both_ways)) lo hi refl

        body_ok : Good F b (O b) Fine (F b) clear (body_made width S b (plan_at ps b))
        body_ok = body_good F b width Fine (F b) clear (E b) end_clean S (plan_at ps b) refl (plans b h).items
            (plans b h).source

        made_inner : made_at width ps b ≡ cond (merges (plan_at ps b) body)
            (emit b pulse Merge (pulse ∷ []) body) body
        unfolding body
        made_inner = made_is b h (plans b h).edges ∙ cond-false (plan_at ps b).first _ _ not_first

        inner_good : (f : Bool)
            → Good F b (O b) Fine (F b) clear (cond f (emit b pulse Merge (pulse ∷ []) body) body)
        unfolding body
        inner_good true = merge_good F b width Fine (F b) clear (E b) end_clean
            (body_made width S b (plan_at ps b)) body_ok
        inner_good false = body_ok

        good_made : Good F b (O b) Fine (F b) clear (made_at width ps b)
        good_made = grind (arith, Good, clear, made_inner, inner_good, body)

        inv_inner : Inv F b (O b) Fine (F b) (made_at width ps b)
        inv_inner = grind (arith, begins_next, Inv, good_made)

        inner_live : (f : Bool) (x : ℕ) → Wanted (cond f (emit b pulse Merge (pulse ∷ []) body) body).wants x
            → Live b x
        unfolding body
        inner_live false x w = body_wanted Live b x (plans b h) target_live w
        inner_live true x w = elim (gather_wanted b pulse (body_made width S b (plan_at ps b)) x w) [
          | inl e ↦ subst (λ (y : ℕ). Live b y) (sym e) (plans b h).pulse_live
          | inr g ↦ body_wanted Live b x (plans b h) target_live g
        ]

        live_inner : (x : ℕ) → Wanted (S b) x → Live b x
        live_inner x w = inner_live (merges (plan_at ps b) body) x
            (λ e. w (ap (λ (v : Wants). v x) (starts_inner b not_first)
            ∙ ap (λ (m : Made). m.wants x) made_inner ∙ e))

        clean_inner : (k : ℕ) → k ≤ F b → Clean F Fine k width (S b)
        clean_inner k l = subst (λ (w : Wants). Clean F Fine k width w) (sym (starts_inner b not_first))
            (record {
              apart = grind (arith, inv_inner.has);
              once = inv_inner.once;
              few = λ x w. (plans b h).few x
                  (live_inner x (λ e. w (sym (ap (λ (v : Wants). v x) (starts_inner b not_first)) ∙ e)));
              ahead = λ x q a. ahead_low Fine (F b) k q l (inv_inner.ahead x q a);
            })

        facts_inner : Facts b
        facts_inner = record {
          inv = fine_at;
          live = live_inner;
          clean = clean_inner;
          spare = grind (arith, both_ways);
          bars = grind (arith, both_ways);
        }
          where
            at_spot : (q : Target) → Ahead F Fine (F b) q → Ahead F (FineAt b) (F b) q
            at_spot q a = grind (arith, both_ways)

            fine_at : Inv F b (O b) (FineAt b) (F b) (made_at width ps b)
            fine_at = let v = inv_inner in grind (arith, at_spot, v.ahead)

      -- the first block of a wave
      module _ (is_first : (plan_at ps b).first ≡ true) where
        xs : List ℕ
        xs = (plan_at ps b).entries

        core : Made
        core = renew b (plan_at ps b).entries (body_made width S b (plan_at ps b))

        clear_first : (c i : ℕ) → Fine c i → F b + length (plan_at ps b).entries ≤ F c + i
            → F c + i < F (suc b) → ⊥
        clear_first c i f lo hi = elim (cases_eq c b) [
          | inl e ↦ grind arith
          | inr n ↦ elsewhere c i (F c + i) f n (omega arith) hi refl
        ]

        core_good : Good F b (O b) Fine (F b + length (plan_at ps b).entries) clear_first core
        unfolding core
        core_good = renew_good F b width Fine (F b + length (plan_at ps b).entries) clear_first (E b)
            end_clean (plan_at ps b).entries (body_made width S b (plan_at ps b))
            (body_good F b width Fine (F b + length (plan_at ps b).entries) clear_first (E b) end_clean S
            (plan_at ps b) refl (plans b h).items (plans b h).source)

        made_outer : made_at width ps b ≡ advances b (plan_at ps b).entries core
        unfolding core
        made_outer = made_is b h (plans b h).edges ∙ cond-true (plan_at ps b).first _ _ is_first

        total : F (suc b) ≡ F b + (length (plan_at ps b).entries + length core.code)
        total = grind (arith, begins_next, core, made_outer, advances_count)

        -- every name that is wanted behind the advances has one
        core_wanted : (x : ℕ) → Wanted core.wants x → In x (plan_at ps b).entries
        unfolding core
        core_wanted x w = elim (renew_wanted b (plan_at ps b).entries (body_made width S b (plan_at ps b)) x
            w) [
              | inl i ↦ i
              | inr g ↦ (plans b h).entries is_first x (body_wanted Live b x (plans b h) target_live g)
            ]

        core_renewed : (x : ℕ) → In x (plan_at ps b).entries → has_front b (core.wants x) ≡ false
        unfolding core
        core_renewed x i = renewed b (plan_at ps b).entries (body_made width S b (plan_at ps b)) x i

        spot_wanted : (w : Wants) (x : ℕ) (q : Target) → In q (w x) → Wanted w x
        spot_wanted w x q i e = rw e at i

        core_inv : Inv F b (O b) (FineAt b) (F b + length (plan_at ps b).entries) core
        core_inv =
            let t : F (suc b) ≡ F b + (length (plan_at ps b).entries + length core.code) = total in
            let z : F (suc b) - length core.code ≡ F b + length (plan_at ps b).entries = omega arith in
            grind (arith, core_good, at_spot)
          where
            at_spot : (x : ℕ) (q : Target) → In q (core.wants x)
                → Ahead F Fine (F b + length (plan_at ps b).entries) q
                → Ahead F (FineAt b) (F b + length (plan_at ps b).entries) q
            at_spot x (Back c r i) a f = f
            at_spot x (Front c i) a f = (
              f,
              λ e g. no_front b (core.wants x) i
                  (core_renewed x (core_wanted x (spot_wanted core.wants x (Front c i) a)))
                  (subst (λ (z : ℕ). In (Front z i) (core.wants x)) g a),
            )

        front_clear : (k : ℕ) → F b ≤ k → k < F (suc b) → (c i : ℕ) → FineAt b c i → F c + i ≡ k → ⊥
        front_clear k lo hi c i f e = elsewhere c i k f.0 (f.1 is_first) lo hi e

        -- the advances
        advances_inv : (ys : List ℕ) (n : ℕ) → F b + n + length ys ≡ F b + length (plan_at ps b).entries
            → Inv F b (O b) (FineAt b) (F b + n) (advances b ys core)
        advances_inv [] n e = grind (arith, Inv, core, core_inv)
        advances_inv (y ∷ ys) n e =
            let t : F (suc b) ≡ F b + (length (plan_at ps b).entries + length core.code) = total in
            let z : F b + suc n ≡ suc (F b + n) = omega arith in
            emit_inv F b (O b) (FineAt b) (F b + n) (advances b ys core)
            (rw z at (advances_inv ys (suc n) (omega arith)))
            (front_clear (F b + n) (omega arith) (omega arith)) y Advance (y ∷ []) (λ ds. refl) refl

        facts_outer : Facts b
        facts_outer = record {
          inv = (let z : F b + 0 ≡ F b = omega arith in
              subst (λ (m : Made). Inv F b (O b) (FineAt b) (F b) m) (sym made_outer)
              (rw z at (advances_inv (plan_at ps b).entries 0 (omega arith))));
          live = grind (arith, outer_live);
          clean = grind (arith, outer_clean);
          spare = λ f x n. ap (λ (m : Made). m.wants x) made_outer ∙ advances_other b (plan_at ps b).entries
              core x n ∙ elim (nil_or (core.wants x)) [ inl e ↦ e | inr w ↦ absurd (n (core_wanted x w)) ];
          bars = λ f i l u e q a. bar (plan_at ps b).entries i l u (plans b h).entries_apart
              (ap (λ (m : Made). nth m.code i) (sym made_outer) ∙ e) q a;
        }
          where
            bar : (ys : List ℕ) (i : ℕ) (l : WiredInstr) → i < length ys → Apart ys
                → nth (advances b ys core).code i ≡ Some l → (q : Target) → In q l.dests
                → Ahead F (FineAt b) (F b + length (plan_at ps b).entries) q
            bar [] i l u a e q k = absurd (omega arith)
            bar (y ∷ ys) zero l u a e q k = grind (arith, core, core_inv, advances_other)
            bar (y ∷ ys) (suc i) l u a e q k = bar ys i l (omega arith) a.1 e q k

      facts_here : Facts b
      facts_here = elim (cases_Bool (plan_at ps b).first) [ inl e ↦ facts_outer e | inr e ↦ facts_inner e ]

    -- from the last block to the first
    facts_from : (n b : ℕ) → Is b → length ps < b + n → Facts b
    facts_from zero b h l = absurd (omega arith)
    facts_from (suc n) b h l = facts_here b h (λ c m k. facts_from n c (omega arith, k) (omega arith))

    pub facts : (b : ℕ) → Is b → Facts b
    facts b h = facts_from (suc (length ps)) b h (omega arith)
