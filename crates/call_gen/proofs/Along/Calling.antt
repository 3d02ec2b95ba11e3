-- What both walks do at a Call.
use Rattle.std.proofs.Common.{ℕ, suc, ◌+◌, ◌-◌, ◌≡◌, ◌<◌, ◌≤◌, ◌⊎◌, Bool, true, if◌then◌else◌, List, [], ◌∷◌}
use Rattle.std.proofs.Common.{◌++◌, length, map, get_or, refl, sym, ap, ◌∙◌, inl, inr, Option, arith}
use Rattle.std.specs.List.{AllByRecursion, filter}
use Rattle.std.proofs.lemmas.Bool.{cases_lt}
use Rattle.std.proofs.lemmas.List.{get_or_append_left, get_or_push, length_push, get_or_past}
use Rattle.ws_words.specs.Outside.{Outside, ProcState, zeros, with_acts}
use Rattle.cfg_core.specs.Graph.{Term, Number, Goto, Call, Graph, GraphProc, Spot, no_proc, spots, spot_at}
use Rattle.cfg_core.specs.Graph.{block_at, proc_at, entry_of}
use Rattle.cfg_core.specs.Rules.{TermIn, ProcNumbers}
use Rattle.cfg_core.specs.Walk.{OpsOutcome, Done, and_then, run_ops, values, values_of, all_loads, Frame, At}
use Rattle.cfg_core.specs.Walk.{landed, entered, leave, passed, step}
use Rattle.call_gen.specs.Spelled.{is_called, is_calling, moved, door, address, cell, below, saves, left}
use Rattle.call_gen.specs.Spelled.{is_unset, clear, door_block, spelled}
use Rattle.call_gen.proofs.Along.Visible.{Same}
use Rattle.call_gen.proofs.Along.Agreeing.{States, terms_states, terms_values}
use Rattle.call_gen.proofs.Spelled.Slots.{peek, pokes, Roomy, pokes_roomy, pokes_in, pokes_other, below_all}
use Rattle.call_gen.proofs.Spelled.Slots.{below_count, below_at, below_apart, apart_push}
use Rattle.call_gen.proofs.Along.Spilling.{same_nil, Saved, saves_run, clears_run}
use Rattle.call_gen.proofs.Along.Landing.{landed_other, landed_at, values_push, loads_push}
use Rattle.call_gen.proofs.Spelled.Facts.{Given, Placed, Celled}
use Rattle.call_gen.proofs.Along.Standing.{total, rows, size, Waits, Stack, owed, Reaches, reaches_by}
use Rattle.call_gen.proofs.Along.Standing.{reaches_later, exit_in, callee_earlier, SameAbove, stack_kept}
use Rattle.call_gen.proofs.Along.Standing.{stack_any}
use Rattle.call_gen.proofs.Along.Leaves.{kept, kept_low, kept_live, kept_address, kept_in, at, at_apart}
use Rattle.call_gen.proofs.Along.Leaves.{result_not, writes}
use Rattle.cfg_core.proofs.Spots.{filter_in, landed_count, values_count}
use Rattle.ws_words.proofs.Numbers.{zero_at, zeros_count, entered_at, entered_count}
use Rattle.ws_words.proofs.Bools.{decide}
use Rattle.ws_words.specs.Items.{nth, or_else, In, Distinct}
use Rattle.ws_words.proofs.Acts.{with_more}
use Rattle.live_vars.proofs.Needed.{After}

-- At the door of procedure f, from which both go on into its first block.
module _ (g : Graph) (live : List (List ℕ)) (G : Given g live) (F : Placed g live) (f : ℕ)
    (there : f < length g.procs) where
  abbrev h : Graph
  h = spelled g live

  abbrev params : ℕ
  params = (proc_at g f).params

  abbrev vf : ℕ
  vf = (proc_at g f).vars

  abbrev start : ℕ
  start = entry_of g f

  start_there : start < length (spots g)
  start_there = (F.first f there).0

  start_home : (spot_at g start).home ≡ f
  start_home = (F.first f there).1

  start_vars : (spot_at g start).vars ≡ vf
  start_vars = (F.home start start_there).1 ∙ ap (λ n. (proc_at g n).vars) start_home

  -- at the door
  pub at_door : (vars : Spot → List ℕ) (o : Outside) (k : ℕ)
      → step h (At (door g f) (record { vars = vars (spot_at h (door g f)); out = o }) [] k)
      ≡ passed h (run_ops (door_block g live f (proc_at g f)).ops
      (record {
        vars =
            vars (record { home = f; vars = suc vf; block = door_block g live f (proc_at g f) });
        out = o;
      }) k)
      (Goto (moved g start)) []
  at_door vars o k = grind (arith, h)

  -- the variables that the door clears
  abbrev unset : List ℕ
  unset = filter (is_unset g live f params) (below vf)

  pub unset_low : (x : ℕ) → In x unset → x < vf
  unset_low x i = below_all vf x (filter_in (is_unset g live f params) (below vf) x i).0

  unset_param : is_called g f ≡ true → (x : ℕ) → x < params → In x unset → ⊥
  unset_param c x lt i = grind (arith, start, params, filter_in, vf)

  -- Both go on with values of parameters that agree; other variables are 0.
  pub goes_in : (w : ℕ → ℕ) (o p : Outside) (ws vars : List ℕ) (frames : List Frame) (callers : List ℕ)
      (extra k : ℕ) (hidden : List (List ℕ)) → length ws ≡ vf → length vars ≡ suc vf
      → ((x : ℕ) → x < vf → get_or ws x 0 ≡ get_or vars x 0) → ((x : ℕ) → In x unset → get_or vars x 0 ≡ 0)
      → get_or vars vf 0 ≡ extra
      → Same (length g.arrays) (rows g live) (size g live) hidden o p → Roomy (total g live) hidden
      → Stack g live hidden f extra frames callers
      → Reaches g live w (owed g live w callers) (At start (record { vars = ws; out = o }) frames k)
      (passed h (run_ops (map clear unset) (record { vars = vars; out = p }) k) (Goto (moved g start)) [])
  goes_in w o p ws vars frames callers extra k hidden long longer agree zero_there more out roomy stack =
      let c = clears_run g (total g live) hidden o (record { vars = vars; out = p }) unset k out in
      let same : (x : ℕ) → get_or c.state.vars x 0 ≡ get_or vars x 0 = grind arith in
      reaches_by g live w _ _ _ _ (ap (λ (q : OpsOutcome). passed h q (Goto (moved g start)) []) c.run)
      (record {
        blocks = 0;
        callers = callers;
        weigh = omega arith;
        relates = grind (arith, start_there, start_vars, start_home);
      })

-- A call in block b.
module _ (g : Graph) (live : List (List ℕ)) (G : Given g live) (F : Placed g live) (C : Celled g) (b : ℕ)
    (there : b < length (spots g)) (r : Option ℕ) (f : ℕ) (ts : List Term) (back : ℕ)
    (is : (block_at g b).exit ≡ Call r f ts back) (s t : ProcState) (frames : List Frame) (callers : List ℕ)
    (k extra : ℕ) (hidden : List (List ℕ)) (roomy : Roomy (total g live) hidden)
    (stack : Stack g live hidden (spot_at g b).home extra frames callers)
    (st : States g (rows g live) (size g live) (spot_at g b).vars extra hidden (After g (Call r f ts back)) s
    t) where
  abbrev hg : Graph
  hg = spelled g live

  abbrev home : ℕ
  home = (spot_at g b).home

  abbrev v : ℕ
  v = (spot_at g b).vars

  abbrev n : ℕ
  n = length g.arrays

  abbrev xs : List ℕ
  xs = kept g live G F C b there r back

  abbrev P : ℕ → Type 0
  P = After g (Call r f ts back)

  calling : is_calling g home ≡ true
  calling = (F.called b r f ts back there is).1

  called : is_called g f ≡ true
  called = (F.called b r f ts back there is).0

  earlier : f < home
  earlier = callee_earlier g live G F b r f ts back is

  f_there : f < length g.procs
  f_there = omega (arith, earlier, (F.home b there).0)

  -- the saves
  abbrev after : List (List ℕ)
  after = pokes (at g live G F C b there r back) hidden xs t.vars

  in_cells : AllByRecursion (λ x. cell g home x < total g live) xs
  in_cells = kept_in g live G F C b there r back calling

  done : Saved g (total g live) home v extra hidden P s t xs k
  done = saves_run g (total g live) home v extra hidden P s t xs k in_cells st

  after_roomy : Roomy (total g live) after
  after_roomy = grind (arith, pokes_roomy, total, at_apart, xs, in_cells)

  saved_word : (x : ℕ) → In x xs → peek after (cell g home x) ≡ get_or t.vars x 0
  saved_word x i = pokes_in (total g live) (at g live G F C b there r back)
      (at_apart g live G F C b there r back) hidden xs t.vars x in_cells roomy (inr i)

  above : SameAbove g live G F home hidden after
  above e x up lt c le = pokes_other (total g live) (at g live G F C b there r back)
      (at_apart g live G F C b there r back) hidden xs t.vars (cell g e x) in_cells roomy
      (λ y i same. C.apart home e y x up lt calling
      (omega (arith, kept_low g live G F C b there r back y i, (F.home b there).1)) same)

  waits : Waits g live after f (address g f b) (record { result = r; back = back; vars = s.vars }) b
  waits = record {
    there = there;
    terms = ts;
    exit = is;
    address = refl;
    long = st.long;
    kept = λ x lt l never.
        let nw = writes g live G F C b there r f ts back is x never in
        let i = exit_in g live G F b (Call r f ts back) is in
        grind (arith, saved_word, kept_live, result_not);
  }

  rest : Stack g live after home (peek after (cell g home v)) frames callers
  rest =
      let kept_stack = stack_kept g live G F home hidden after above home extra frames callers (omega arith)
      stack in
      grind (arith, decide, saved_word, kept_address, stack_any, peek)

  -- what is sent
  abbrev last : Term
  last = Number (address g f b)

  abbrev named : List ℕ
  named = below (proc_at g f).params ++ (proc_at g f).vars ∷ []

  abbrev words : List ℕ
  words = (values_of ts s).0

  arity : length words ≡ (proc_at g f).params
  arity = values_count ts s.vars s.out.cells ∙ (exit_in g live G F b (Call r f ts back) is).2

  few_params : (proc_at g f).params ≤ (proc_at g f).vars
  unfolding proc_at
  few_params = each g.procs f G.rules.numbers.procs f_there
    where
      each : (ps : List GraphProc) (f : ℕ) → AllByRecursion ProcNumbers ps → f < length ps
          → (or_else (nth ps f) no_proc).params ≤ (or_else (nth ps f) no_proc).vars
      each (p ∷ ps) (suc f) h lt = each ps f h.1 (omega arith)
      each ps f h lt = grind arith

  abbrev sent : ProcState
  sent = with_acts done.state []

  sent_states : States g (rows g live) (size g live) v extra after P s sent
  sent_states = record {
    vars = done.states.vars;
    long = done.states.long;
    longer = done.states.longer;
    more = done.states.more;
    out = same_nil g (total g live) after s.out done.state.out done.states.out;
  }

  terms_in : AllByRecursion (TermIn (length g.arrays) v) ts
  terms_in = (exit_in g live G F b (Call r f ts back) is).3

  sent_words : values (ts ++ last ∷ []) sent.vars sent.out.cells ≡ words ++ address g f b ∷ []
  sent_words = values_push ts last sent.vars sent.out.cells ∙ ap (λ (ns : List ℕ). ns ++ address g f b ∷ [])
      (sym (terms_values g (rows g live) (size g live) v extra after P s sent sent_states ts terms_in
      (λ x m. inl m)))

  sent_out : Same n (rows g live) (size g live) after (values_of ts s).1.out
      (with_more sent.out (all_loads (ts ++ last ∷ []) sent.vars sent.out.cells))
  sent_out = rw (loads_push ts last sent.vars sent.out.cells refl)
      (terms_states g (rows g live) (size g live) v extra after P s sent sent_states ts terms_in
      (λ x m. inl m)).out

  abbrev fresh : List ℕ
  fresh = landed named (words ++ address g f b ∷ []) (zeros (suc (proc_at g f).vars))

  named_apart : Distinct named
  named_apart = grind (arith, apart_push, below_apart, below_all, few_params)

  fresh_param : (x : ℕ) → x < (proc_at g f).params → get_or fresh x 0 ≡ get_or words x 0
  fresh_param x lt =
      grind (
        arith,
        get_or_append_left,
        below_count,
        below_at,
        landed_at,
        named_apart,
        length_push,
        arity,
        few_params,
        zeros_count,
      )

  not_named : (x : ℕ) → (proc_at g f).params ≤ x → x < (proc_at g f).vars → In x named → ⊥
  not_named x from to i = elim (split (below (proc_at g f).params) i) [
    | inl j ↦
        omega (arith, below_all (proc_at g f).params x j, from)
    | inr e ↦ omega arith
  ]
    where
      split : (ys : List ℕ) → In x (ys ++ (proc_at g f).vars ∷ []) → In x ys ⊎ (x ≡ (proc_at g f).vars)
      split [] (inl e) = inr e
      split [] (inr z) = absurd z
      split (y ∷ ys) (inl e) = inl (inl e)
      split (y ∷ ys) (inr i) = elim (split ys i) [ inl j ↦ inl (inr j) | inr e ↦ inr e ]

  fresh_zero : (x : ℕ) → (proc_at g f).params ≤ x → x < (proc_at g f).vars → get_or fresh x 0 ≡ 0
  fresh_zero x from to = grind (arith, landed_other, named, words, not_named, zero_at)

  fresh_address : get_or fresh (proc_at g f).vars 0 ≡ address g f b
  fresh_address =
      let p = (proc_at g f).params in
      let name : get_or named p 0 ≡ (proc_at g f).vars = grind (arith, get_or_push, below_count) in
      grind (arith, landed_at, named_apart, length_push, below_count, arity, zeros_count, get_or_push)

  agrees : (x : ℕ) → x < (proc_at g f).vars → get_or (entered (proc_at g f) words) x 0 ≡ get_or fresh x 0
  agrees x lt = grind (arith, entered_at, words, cases_lt, fresh_param, get_or_past, arity, fresh_zero)

  at_named : (if is_called g f then named else []) ≡ named
  at_named = ap (λ (c : Bool). if c then named else []) called

  pub calls : (w : ℕ → ℕ) → Reaches g live w (w (door g f) + owed g live w (b ∷ callers))
      (leave g (Call r f ts back) s frames k)
      (passed hg (and_then (Done t k) (run_ops (saves g live home v (Call r f ts back))))
      (left g home v b (Call r f ts back)) [])
  calls w =
      let all = with_more sent.out (all_loads (ts ++ last ∷ []) sent.vars sent.out.cells) in
      let door_vars : Spot → List ℕ =
      λ p. landed p.block.named (values (ts ++ last ∷ []) sent.vars sent.out.cells) (zeros p.vars) in
      let vars_are : landed (if is_called g f then named else [])
      (values (ts ++ last ∷ []) sent.vars sent.out.cells) (zeros (suc (proc_at g f).vars)) ≡ fresh =
      ap (λ (xs : List ℕ). landed xs (values (ts ++ last ∷ []) sent.vars sent.out.cells)
      (zeros (suc (proc_at g f).vars))) at_named
      ∙ ap (λ (ws : List ℕ). landed named ws (zeros (suc (proc_at g f).vars))) sent_words in
      reaches_by g live w _ _ _ _
      (ap (λ (q : OpsOutcome). passed hg q (left g home v b (Call r f ts back)) []) done.run)
      (reaches_later g live w (owed g live w (b ∷ callers)) _ (door g f) _ _ _ (reaches_by g live w _ _ _ _
      (at_door g live G F f f_there door_vars all k
      ∙ ap (λ (vs : List ℕ). passed hg (run_ops (door_block g live f (proc_at g f)).ops
      (record { vars = vs; out = all }) k) (Goto (moved g (entry_of g f))) []) vars_are)
      (goes_in g live G F f f_there w (values_of ts s).1.out all (entered (proc_at g f) words) fresh
      (record { result = r; back = back; vars = s.vars } ∷ frames) (b ∷ callers) (address g f b) k after
      (entered_count words ((proc_at g f).vars - (proc_at g f).params) ∙ (omega (arith, arity, few_params)))
      (landed_count named (words ++ address g f b ∷ []) (zeros (suc (proc_at g f).vars))
      ∙ zeros_count (suc (proc_at g f).vars))
      agrees
      (λ x i. let low = unset_low g live G F f f_there x i in elim (cases_lt x (proc_at g f).params) [
        | inl p ↦ absurd (unset_param g live G F f f_there called x p i)
        | inr up ↦ fresh_zero x up low
      ])
      fresh_address sent_out after_roomy (waits, rest))))
