-- The lists of a draft fit.
use Rattle.std.proofs.Common.{ℕ, zero, suc, ◌+◌, ◌≡◌, ◌<◌, ◌≤◌, ◌⊎◌, Bool, true, false, cond, List, [], ◌∷◌}
use Rattle.std.proofs.Common.{length, Some, refl, sym, ap, ◌∙◌, subst, inl, inr, arith}
use Rattle.std.proofs.lemmas.Bool.{cases_Bool}
use Rattle.ws_isa.specs.declared.instr.Op.TheVariants.{Merge, Halt}
use Rattle.ws_isa.specs.Image as image
use Rattle.ws_isa.specs.Image.{Instr, Pad, Array, instr_at}
use Rattle.wave_gen.specs.Wire.{Target, dests_of, WiredInstr, Wants, no_wants, emit}
use Rattle.wave_gen.specs.Plans.{merges, HowLeft, Onto, Either, Lands, Halts, Plan, pulse, steers, sends}
use Rattle.wave_gen.specs.Plans.{steered, past, hang, more, chain, selected, tails_of, end_wants}
use Rattle.wave_gen.specs.Plans.{behind_source, exit_made, body_made, renew, advances, plan_at, made_at}
use Rattle.wave_gen.specs.Plans.{starts_at, begins, pads_of, draft_of}
use Rattle.wave_gen.proofs.Planning.Planned.{Apart, AllBelow, ValuesApart, PlansAre, EdgesAre, SourceIs}
use Rattle.wave_gen.proofs.Planning.Planned.{Inner, Outer}
use Rattle.wave_gen.specs.Lists.{ListsFit}
use Rattle.wave_gen.proofs.Waits.Fronts.{fronts_one}
use Rattle.wave_gen.proofs.Drawing.Blocks.{facts, made_is, starts_inner, starts_outer, steered_wanted}
use Rattle.wave_gen.proofs.Drawing.Blocks.{helds_steers, helds_sends, past_is}
use Rattle.wave_gen.proofs.Drawing.Edges.{in_among, steered_apart}
use Rattle.wave_gen.proofs.Drawing.Few.{Short, Few, Emptied, TailsShort, make_few, wire_few, renew_few}
use Rattle.wave_gen.proofs.Drawing.Few.{merge_few, advances_few, hung_few, chain_are, rest_few}
use Rattle.wave_gen.proofs.Drawing.Drafts.{line_in}
use Rattle.wave_gen.proofs.Drawing.Number.{block_at_is, is_block}
use Rattle.ws_words.specs.Items.{nth, In}

dests_count : (first : ℕ → ℕ) (l : List Target) → length (dests_of first l) ≡ length l
dests_count first [] = refl
dests_count first (p ∷ l) = ap suc (dests_count first l)

all_below : (z : ℕ) (xs : List ℕ) → ((x : ℕ) → In x xs → x < z) → AllBelow z xs
all_below z [] h = tt
all_below z (x ∷ xs) h = (h x (inl refl), all_below z xs (λ y i. h y (inr i)))

emptied : (w : Wants) (ys xs : List ℕ) → ((x : ℕ) → In x xs → In x ys) → Emptied (past ys w) xs
emptied w ys [] h = tt
emptied w ys (x ∷ xs) h = (rw (in_among x ys (h x (inl refl))) refl, emptied w ys xs (λ y i. h y (inr i)))

nothing_emptied : (xs : List ℕ) → Emptied no_wants xs
nothing_emptied [] = tt
nothing_emptied (x ∷ xs) = (refl, nothing_emptied xs)

steers_short : (w v : Wants) (xs : List ℕ) → ((x : ℕ) → length (w x) ≤ 7) → ((x : ℕ) → length (v x) ≤ 7)
    → TailsShort (steers w v xs)
steers_short w v [] a c = tt
steers_short w v (x ∷ xs) a c = (a x, c x, steers_short w v xs a c)

sends_short : (p : ℕ) (xs : List ℕ) → TailsShort (sends p xs)
sends_short p [] = tt
sends_short p (x ∷ xs) = (omega arith, omega arith, sends_short (suc p) xs)

nil_or : (l : List Target) → (l ≡ []) ⊎ (l ≡ [] → ⊥)
nil_or [] = inl refl
nil_or (p ∷ l) = inr (λ e. cc)

module _ (arrays : List Array) (width : ℕ) (ps : List Plan) (Live : ℕ → ℕ → Type 0)
    (plans : PlansAre ps width Live) where
  abbrev Is : ℕ → Type 0
  Is b = (1 ≤ b) × (b ≤ length ps)

  abbrev S : ℕ → Wants
  S = starts_at width ps

  outer_few : (c : ℕ) → Outer ps c → (x : ℕ) → length (S c x) ≤ 7
  outer_few c o x = grind (arith, starts_outer, fronts_one)

  module _ (b : ℕ) (h : Is b) (later : (c : ℕ) → b < c → c ≤ length ps → Few (made_at width ps c)) where
    p : Plan
    p = plan_at ps b

    start_few : (c : ℕ) → Inner ps b c ⊎ Outer ps c → (x : ℕ) → length (S c x) ≤ 7
    start_few c (inl i) x = rw (ap (λ (w : Wants). w x) (starts_inner width ps c i.not_first))
        ((later c i.later i.there).wants x)
    start_few c (inr o) x = outer_few c o x

    none_high : (c y : ℕ) → Is c → width ≤ y → S c y ≡ []
    none_high c y hc l = elim (nil_or (S c y)) [
      | inl e ↦ e
      | inr n ↦
          absurd (let u : y < width = ((facts width ps Live plans.each c hc).clean 0 (omega arith)).few y n in
          omega arith)
    ]

    there : (c : ℕ) → Inner ps b c → Is c
    there c i = (let l : b < c = i.later in omega (arith, h.0), i.there)

    behind_few : (e : HowLeft) → EdgesAre ps b e → ValuesApart (plan_at ps b).test e
        → Few (selected b (plan_at ps b).test (tails_of width S e) (end_wants width S e))
    behind_few (Onto c) e v = record { wants = start_few c e; lines = tt }
    behind_few Halts e v = record { wants = λ x. omega arith; lines = tt }
    behind_few (Lands op from values ls) e v =
        wire_few b (chain (plan_at ps b).test (more 6 (sends 0 values)))
        (hang b 6 (plan_at ps b).test (sends 0 values) no_wants)
        (chain_are (plan_at ps b).test (more 6 (sends 0 values)))
        (hung_few b (plan_at ps b).test no_wants (λ x. omega arith) (λ y l. refl) (sends 0 values)
        (subst (AllBelow (plan_at ps b).test) (sym (helds_sends width ps 0 values)) v.1)
        (subst Apart (sym (helds_sends width ps 0 values)) v.0)
        (subst (Emptied no_wants) (sym (helds_sends width ps 0 values)) (nothing_emptied values))
        (sends_short 0 values))
    behind_few (Either op from c d) e v =
        wire_few b (chain z (more 6 (steers (S c) (S d) xs)))
        (hang b 6 z (steers (S c) (S d) xs) (past xs (S c)))
        (chain_are z (more 6 (steers (S c) (S d) xs)))
        (hung_few b z (past xs (S c)) (λ x. elim (past_is width ps xs (S c) x)
        [ inl q ↦ rw q (omega arith) | inr q ↦ rw q (start_few c (inl e.0) x) ])
        (λ y l. elim (past_is width ps xs (S c) y) [
          | inl q ↦ q
          | inr q ↦
              q ∙ none_high c y (there c e.0) (let w : width ≤ z = (plans.each b h).test in omega arith)
        ])
        (steers (S c) (S d) xs)
        (subst (AllBelow z) (sym (helds_steers width ps (S c) (S d) xs)) (all_below z xs below))
        (subst Apart (sym (helds_steers width ps (S c) (S d) xs)) (steered_apart width (S c) (S d)))
        (subst (Emptied (past xs (S c))) (sym (helds_steers width ps (S c) (S d) xs))
        (emptied (S c) xs xs (λ x i. i)))
        (steers_short (S c) (S d) xs (start_few c (inl e.0)) (start_few d (inl e.1))))
      where
        z : ℕ
        z = (plan_at ps b).test

        xs : List ℕ
        xs = steered width (S c) (S d)

        below : (x : ℕ) → In x xs → x < z
        below x i = let w : width ≤ z = (plans.each b h).test in
            elim (steered_wanted width ps (S c) (S d) x i) [
              | inl q ↦ (let u : pulse < width = (plans.each b h).few pulse (plans.each b h).pulse_live in
                  omega arith)
              | inr q ↦ elim q [
                | inl n ↦
                    (let u : x < width = ((facts width ps Live plans.each c (there c e.0)).clean 0
                    (omega arith)).few x n in omega arith)
                | inr n ↦
                    (let u : x < width = ((facts width ps Live plans.each d (there d e.1)).clean 0
                    (omega arith)).few x n in omega arith)
              ]
            ]

    behind : Few (behind_source width S b (plan_at ps b))
    behind = behind_few (plan_at ps b).exit (plans.each b h).edges (plans.each b h).values

    exit_few : (e : HowLeft) → (plan_at ps b).exit ≡ e → SourceIs e
        → Few (exit_made width S b (plan_at ps b) e)
    exit_few (Onto c) q s = behind
    exit_few (Either op from c d) q s = make_few b (plan_at ps b).test op from
        (behind_source width S b (plan_at ps b)) s.1 behind
    exit_few (Lands op from values ls) q s = make_few b (plan_at ps b).test op from
        (behind_source width S b (plan_at ps b)) s.1 behind
    exit_few Halts q s = rest_few b (record { op = Halt; dests = []; others = [] }) (pulse ∷ [])
        (behind_source width S b (plan_at ps b)) (omega arith) (omega arith) behind
        (λ y i. (let g : length ((behind_source width S b (plan_at ps b)).wants y) ≡ 0 =
        ap (λ (l : HowLeft).
        length ((selected b (plan_at ps b).test (tails_of width S l) (end_wants width S l)).wants y)) q in
        omega arith))

    block_few : Few (made_at width ps b)
    block_few = subst Few (sym (made_is width ps b h (plans.each b h).edges)) (go (plan_at ps b).first)
      where
        body : Few (body_made width S b (plan_at ps b))
        body = wire_few b (plan_at ps b).items (exit_made width S b (plan_at ps b) (plan_at ps b).exit)
            (plans.each b h).items (exit_few (plan_at ps b).exit refl (plans.each b h).source)

        inner : (j : Bool)
            → Few (cond j (emit b pulse Merge (pulse ∷ []) (body_made width S b (plan_at ps b)))
            (body_made width S b (plan_at ps b)))
        inner true = merge_few b pulse (body_made width S b (plan_at ps b)) body
        inner false = body

        go : (f : Bool)
            → Few (cond f
            (advances b (plan_at ps b).entries
            (renew b (plan_at ps b).entries (body_made width S b (plan_at ps b))))
            (cond (merges (plan_at ps b) (body_made width S b (plan_at ps b)))
            (emit b pulse Merge (pulse ∷ []) (body_made width S b (plan_at ps b)))
            (body_made width S b (plan_at ps b))))
        go f = grind (arith, advances_few, renew_few, body, inner)

  few_from : (n b : ℕ) → Is b → length ps < b + n → Few (made_at width ps b)
  few_from zero b h l = absurd (omega (arith, h.1))
  few_from (suc n) b h l = block_few b h (λ c m k. few_from n c (omega (arith, h.0), k) (omega arith))

  few : (b : ℕ) → Is b → Few (made_at width ps b)
  few b h = few_from (suc (length ps)) b h (omega (arith, h.0))

  -- what is wanted of a name at the start of a block
  pub starts_few : (c : ℕ) → Is c → (x : ℕ) → length (S c x) ≤ 7
  starts_few c h x = elim (cases_Bool (plan_at ps c).first) [
    | inl f ↦ rw (ap (λ (w : Wants). w x) (starts_outer width ps c f))
        (elim (fronts_one c 0 (plan_at ps c).entries x) [
          | inl e ↦ rw e (omega arith)
          | inr r ↦
              rw r.3 (omega arith)
        ])
    | inr f ↦ rw (ap (λ (w : Wants). w x) (starts_inner width ps c f)) ((few c h).wants x)
  ]

  short_at : (ls : List WiredInstr) (i : ℕ) (l : WiredInstr) → Short ls → nth ls i ≡ Some l
      → (length l.dests ≤ 7) × (length l.others ≤ 7)
  short_at (m ∷ ls) (suc i) l s e = short_at ls i l s.2 e
  short_at ls i l s e = grind arith

  pads_short : (b i : ℕ) (entries xs : List ℕ) (q : Pad) → In q (pads_of (begins width ps) b i entries xs)
      → length q.dests ≤ 7
  pads_short b i entries [] q h = absurd h
  pads_short b i entries (x ∷ xs) q (inr h) = pads_short b (suc i) entries xs q h
  pads_short b i entries (x ∷ xs) q (inl e) = grind (arith, dests_count, fronts_one)

  pub lists_fit : ListsFit (draft_of arrays width ps)
  lists_fit = record {
    dests = λ b k hb i. (let h : Is b = is_block arrays width ps b hb in
        let l = line_in arrays width ps Live plans.each b h k i in
        let s : length l.line.dests ≤ 7 =
        (short_at (made_at width ps b).code l.place l.line (few b h).lines l.found).0 in
        let n : length (instr_at (draft_of arrays width ps) k).dests ≡ length l.line.dests =
        ap (λ (j : Instr). length j.dests) l.is ∙ dests_count (begins width ps) l.line.dests in
        omega arith);
    others = λ b k hb i. (let h : Is b = is_block arrays width ps b hb in
        let l = line_in arrays width ps Live plans.each b h k i in
        let s : length l.line.others ≤ 7 =
        (short_at (made_at width ps b).code l.place l.line (few b h).lines l.found).1 in
        let n : length (instr_at (draft_of arrays width ps) k).others ≡ length l.line.others =
        ap (λ (j : Instr). length j.others) l.is ∙ dests_count (begins width ps) l.line.others in
        omega arith);
    pads = λ b q hb i. pads_short b 0 (plan_at ps b).entries (plan_at ps b).pads q
        (subst (λ (k : image.Block). In q k.pads)
        (block_at_is arrays width ps b (is_block arrays width ps b hb)) i);
  }
