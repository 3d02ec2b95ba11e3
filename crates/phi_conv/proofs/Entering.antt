-- A Call and a Send lead both walks to configurations that go together.
use Rattle.std.proofs.Common.{ℕ, ◌-◌, ◌≡◌, ◌<◌, ◌≤◌, min, List, ◌∷◌, ◌++◌, length, get_or}
use Rattle.std.proofs.Common.{Option, Some, None, refl, sym, ap, ◌∙◌, subst, inl, inr, arith}
use Rattle.std.specs.List.{AllByRecursion}
use Rattle.ws_words.specs.Outside.{Outside, ProcState, zeros}
use Rattle.cfg_core.specs.Graph.{Term, Call, Send, Block, Graph, Spot, spots}
use Rattle.cfg_core.specs.Graph.{spot_at, block_at, proc_at, entry_of}
use Rattle.cfg_core.specs.Rules.{TargetIn, ExitIn, Lands, IsGraph}
use Rattle.cfg_core.specs.Walk.{value_of, values_of, Frame, Config, At, landing, landed, leave}
use Rattle.live_vars.specs.Live.{ExitWrites, Live}
use Rattle.phi_conv.specs.Short.{Short, short}
use Rattle.phi_conv.specs.Joined.{more_vars, joined_if, joined}
use Rattle.phi_conv.proofs.Agreeing.{States, term_value, term_states, terms_values, terms_states}
use Rattle.phi_conv.proofs.Placing.{block_is, spot_is, entry_is, proc_is}
use Rattle.phi_conv.proofs.Standing.{ResultIs, Waits, Stack, Along}
use Rattle.cfg_core.proofs.Every.{all_at}
use Rattle.cfg_core.proofs.Homes.{vars_at, same_vars, entry_there, params_at}
use Rattle.phi_conv.proofs.Leaves.{landed_same}
use Rattle.cfg_core.proofs.Spots.{landed_count as landed_length, values_count, numbers_at}
use Rattle.ws_words.proofs.Numbers.{zero_at, zeros_count, entered_at, entered_count}
use Rattle.live_vars.proofs.Needed.{After}

writes_result : (x : Option ℕ) (f : ℕ) (ts : List Term) (back y : ℕ) → (ResultIs x y → ⊥)
    → ExitWrites (Call x f ts back) y → ⊥
writes_result x f ts back y ne w = grind arith

module _ (g : Graph) (rules : IsGraph g) (live : List (List ℕ)) where
  abbrev h : Graph
  h = joined g live

  abbrev V : ℕ → ℕ
  V b = vars_at g rules b

  -- both enter a procedure on the same words
  pub enters : (f : ℕ) → f < length g.procs → (ws us : List ℕ) (o p : Outside) (fs es : List Frame) (k : ℕ)
      → length ws ≡ (proc_at g f).params → ws ≡ us → o ≡ p → Stack g rules fs es
      → Along g rules
      (At (entry_of g f) (record {
        vars = ws ++ zeros ((proc_at g f).vars - (proc_at g f).params);
        out = o;
      }) fs k)
      (At (entry_of h f) (record {
        vars = us ++ zeros ((proc_at h f).vars - (proc_at h f).params);
        out = p;
      }) es k)
  enters f lt ws us o p fs es k count same out stack = grind (
    arith,
    entry_there,
    params_at,
    entered_at,
    entered_count,
    entry_is,
    proc_is,
  )

  module _ (b : ℕ) (there : b < length (spots g)) where
    -- a Call leads to configurations that go along
    pub calls : (x : Option ℕ) (f : ℕ) (ts : List Term) (back : ℕ) → ExitIn g (spot_at g b).home (V b)
        (Call x f ts back) → (s r : ProcState) (fs es : List Frame) (k : ℕ)
        → States (V b) (After g (Call x f ts back)) s r → Stack g rules fs es
        → Along g rules (leave g (Call x f ts back) s fs k) (leave h (Call x f ts back) r es k)
    calls x f ts back i s r fs es k st stack =
        let A : ℕ → Type 0 = After g (Call x f ts back) in
        let on = terms_states g (V b) A s r st ts i.3 (λ y m. inl m) in
        let sv : V back ≡ V b = same_vars g rules b back there i.4.0 i.4.1 in
        let vs = values_of ts s in
        let us = values_of ts r in
        let frame : Frame = record { result = x; back = back; vars = vs.1.vars } in
        let other : Frame = record { result = x; back = back; vars = us.1.vars } in
        let w : Waits g rules frame other = record {
          back = refl;
          result = refl;
          there = i.4.0;
          inside = subst (λ n. TargetIn n x) (sym sv) i.0;
          vars = λ y lt q. on.vars y (subst (λ n. y < n) sv lt)
              (inr (writes_result x f ts back y q.0, (back, refl, q.1)));
          long = on.long ∙ sym sv;
          longer = on.longer ∙ ap more_vars (sym sv);
        } in
        enters f i.1 vs.0 us.0 vs.1.out us.1.out (frame ∷ fs) (other ∷ es) k
        (values_count ts s.vars s.out.cells ∙ i.2) (terms_values g (V b) A s r st ts i.3 (λ y m. inl m))
        on.out (w, stack)

    landing_there : (a : ℕ) (ls : List ℕ) → 1 ≤ length ls → AllByRecursion (λ l. l < length (spots g)) ls
        → landing a ls < length (spots g)
    landing_there a ls some all = all_at (λ l. l < length (spots g)) ls (min a (length ls - 1)) all
        (omega arith)

    -- words that a Send brings to block c
    lands : (c : ℕ) → c < length (spots g) → (ws us : List ℕ) (o p : Outside) (fs es : List Frame) (k : ℕ)
        → ws ≡ us → o ≡ p → Stack g rules fs es
        → Along g rules
        (At c (record { vars = landed (block_at g c).named ws (zeros (spot_at g c).vars); out = o }) fs k)
        (At c (record { vars = landed (block_at h c).named us (zeros (spot_at h c).vars); out = p }) es k)
    lands c lt ws us o p fs es k same out stack =
        let names : List ℕ = (block_at g c).named in
        let first : List ℕ = zeros (V c) in
        let second : List ℕ = zeros (more_vars (V c)) in
        let st : States (V c) (Live g c) (record { vars = landed names ws first; out = o })
        (record { vars = landed names us second; out = p }) = record {
          vars = λ x lx l. landed_same (V c) names ws first second (numbers_at g rules c).named
              (let z = zeros_count (V c) in omega (arith, z)) (let z = zeros_count (more_vars (V c)) in
              omega (arith, z)) (λ y ly. zero_at (V c) y ∙ sym (zero_at (more_vars (V c)) y)) x lx
              ∙ ap (λ (zs : List ℕ). get_or (landed names zs second) x 0) same;
          long = landed_length names ws first ∙ zeros_count (V c);
          longer = landed_length names us second ∙ zeros_count (more_vars (V c));
          out = out;
        } in (
          refl,
          refl,
          lt,
          subst (λ (ns : List ℕ). States (V c) (Live g c) (record { vars = landed names ws first; out = o })
              (record { vars = landed ns us (zeros (spot_at h c).vars); out = p })) (sym (named_is c))
              (subst (λ n. States (V c) (Live g c) (record { vars = landed names ws first; out = o })
              (record { vars = landed names us (zeros n); out = p }))
              (ap (λ (s : Spot). s.vars) (sym (spot_is g live c lt))) st),
          stack,
        )
      where
        named_is : (d : ℕ) → (block_at h d).named ≡ (block_at g d).named
        named_is d = ap (λ (x : Block). x.named) (block_is g live d) ∙ by_short (short g (block_at g d).exit)
          where
            by_short : (s : Option Short) → (joined_if live (spot_at g d).vars (block_at g d) s).named
                ≡ (block_at g d).named
            by_short None = refl
            by_short (Some s) = refl

    -- so does a Send
    pub sends : (t : Term) (ts : List Term) (ls : List ℕ) → ExitIn g (spot_at g b).home (V b) (Send t ts ls)
        → Lands g (Send t ts ls) → (s r : ProcState) (fs es : List Frame) (k : ℕ)
        → States (V b) (After g (Send t ts ls)) s r → Stack g rules fs es
        → Along g rules (leave g (Send t ts ls) s fs k) (leave h (Send t ts ls) r es k)
    sends t ts ls i l s r fs es k st stack =
        let A : ℕ → Type 0 = After g (Send t ts ls) in
        let on = term_states g (V b) A s r st t i.0 (λ y m. inl (inl m)) in
        let more = terms_states g (V b) A _ _ on ts i.1 (λ y m. inl (inr m)) in
        let same = term_value g (V b) A s r st t i.0 (λ y m. inl (inl m)) in
        let c : ℕ = landing (value_of t s).0 ls in
        let lt : c < length (spots g) = landing_there (value_of t s).0 ls l.0 i.2 in
        let at : Config = leave g (Send t ts ls) s fs k in
        let vs = values_of ts (value_of t s).1 in
        let us = values_of ts (value_of t r).1 in
        subst (λ n. Along g rules at
        (At (landing n ls)
        (record {
          vars = landed (block_at h (landing n ls)).named us.0
              (zeros (spot_at h (landing n ls)).vars);
          out = us.1.out;
        }) es k)) same
        (lands c lt vs.0 us.0 vs.1.out us.1.out fs es k
        (terms_values g (V b) A _ _ on ts i.1 (λ y m. inl (inr m))) more.out stack)
