-- What stands in the last graph for a block of the graph before unreached ones are dropped weighs no more
-- than that is charged.
use Rattle.std.proofs.Common.{ℕ, zero, suc, ◌+◌, ◌-◌, ◌*◌, ◌||◌, ◌≡◌, ◌<◌, ◌≤◌, Bool, true, false}
use Rattle.std.proofs.Common.{if◌then◌else◌, List, [], ◌∷◌, ◌++◌, length, refl, sym, ap, ◌∙◌, subst, inl, inr}
use Rattle.std.proofs.Common.{arith}
use Rattle.std.specs.List.{sum_by}
use Rattle.std.proofs.lemmas.Bool.{cases_lt}
use Rattle.std.proofs.lemmas.List.{length_push}
use Rattle.std.proofs.lemmas.List.Sums.{sum_by-cons, sum_by-append}
use Rattle.src_ast.specs.Syntax.{Part}
use Rattle.src_ast.specs.Bound.{widest, most_variables}
use Rattle.cfg_core.specs.Graph.{Term, Number, Var, Op, Exit, Goto, Branch, Call, Return, Send, Stop, Graph}
use Rattle.cfg_core.specs.Graph.{Spot, spots, spot_at, no_spot, block_at, proc_at, entry_of}
use Rattle.cfg_core.specs.Rules.{ExitIn, Leads, calls}
use Rattle.cfg_core.specs.Weights.{first_block, WalksWeigh}
use Rattle.live_vars.specs.Live.{Live}
use Rattle.live_vars.specs.Marks.{has}
use Rattle.wave_cut.specs.Cut.{Cut}
use Rattle.cfg_core.proofs.Homes.{same_vars}
use Rattle.call_gen.specs.Reached.{Enters, Reached, start, follow, enter}
use Rattle.call_gen.specs.Charged.{Places, beside, charged, LiveBelow, live_count, most_saved, StandsForExit}
use Rattle.call_gen.specs.Charged.{StandsFor, SameExit, DoesTheSame}
use Rattle.call_gen.proofs.Spelled.Facts.{Placed}
use Rattle.call_gen.proofs.Spelled.Places.{all_placed}
use Rattle.call_gen.proofs.Parted.PartRules.{none_past}
use Rattle.wave_gen.specs.Cost.{term_quarters, op_quarters, live_in, exit_quarters, quarters}
use Rattle.wave_build.specs.Charges.{exit_charge, charge, base, pay}
use Rattle.wave_build.specs.Passed.{CallsFew, Costed, LastGraphs}
use Rattle.wave_build.proofs.Weights.{number_few, saves_weigh, loads_weigh, clears_weigh}
use Rattle.wave_build.proofs.Counting.{few_in, some_and, some_count, in_some}
use Rattle.ws_words.proofs.Bools.{or_comes as either_true}
use Rattle.ws_words.specs.Items.{In}
use Rattle.cfg_core.proofs.Spots.{numbers_at}

count_most : (live : List (List ℕ)) (b n : ℕ) → live_count live b n ≤ n
count_most live b zero = omega arith
count_most live b (suc n) = let i = count_most live b n in by_test (has live b n) i
  where
    by_test : (v : Bool) → live_count live b n ≤ n → live_count live b n + (if v then 1 else 0) ≤ suc n
    by_test true i = omega (arith, i)
    by_test false i = omega (arith, i)

-- no more are counted than there are below a bound
count_low : (live : List (List ℕ)) (b m n : ℕ) → LiveBelow live b n m → live_count live b n ≤ m
count_low live b m zero h = omega arith
count_low live b m (suc n) h = elim (cases_lt n m) [
  | inl low ↦ let i = count_most live b (suc n) in omega (arith, i, low)
  | inr high ↦ by_test high (has live b n) refl (count_low live b m n (λ x lt e. h x (omega (arith, lt)) e))
]
  where
    by_test : m ≤ n → (v : Bool) → has live b n ≡ v → live_count live b n ≤ m
        → live_count live b n + (if has live b n then 1 else 0) ≤ m
    by_test high true e i = absurd (let lt : n < m = h n (omega arith) e in omega (arith, lt, high))
    by_test high false e i =
        let none : 0 + (if has live b n then 1 else 0) ≡ 0 + 0 = ap (λ (c : Bool). 0 + (if c then 1 else 0))
        e in omega (arith, none, i)

gone : (g : Graph) (c : ℕ) → length (spots g) ≤ c → (spot_at g c).vars ≡ 0
unfolding no_spot
gone g c ge = ap (λ (s : Spot). s.vars) (none_past g c ge)

-- a block of the last graph with one instruction more
abbrev pub weight : Graph → List (List ℕ) → ℕ → ℕ
weight s live c = quarters s (has live) c + 4

module _ (parts : List Part) (j k s : Graph) (needed live : List (List ℕ)) (cut : Cut)
    (C : Costed parts j) (P : LastGraphs j k s needed live cut) where
  abbrev V : ℕ
  V = most_variables parts

  abbrev pl : Places
  pl = P.spelling.charged.places

  abbrev at : ℕ → ℕ
  at = P.keeping.places.place

  abbrev weigh : ℕ → ℕ
  weigh = weight s live

  live_few : (c : ℕ) (ys : List ℕ) → ((x : ℕ) → Live s c x → In x ys)
      → live_in (has live c) (spot_at s c).vars ≤ length ys
  live_few c ys h = elim (cases_lt c (length (spots s))) [
    | inl lt ↦ few_in ys (has live c) 0 (spot_at s c).vars
        (λ x lx e. h x ((P.living c x lt (omega (arith, lx))).0 e))
    | inr ge ↦ few_in ys (has live c) 0 (spot_at s c).vars (λ x lx e. let z = gone s c ge in
        absurd (omega (arith, lx, z)))
  ]

  arms_few : (q a d : ℕ) (t : Term) (ys : List ℕ) → (block_at s q).exit ≡ Branch t a d
      → ((x : ℕ) → Live s a x → In x ys) → ((x : ℕ) → Live s d x → In x ys)
      → live_in (λ x. has live a x || has live d x) (spot_at s q).vars ≤ length ys
  arms_few q a d t ys e ha hd = elim (cases_lt q (length (spots s))) [
    | inl lt ↦
        let i = subst (λ (x : Exit). ExitIn s (spot_at s q).home (spot_at s q).vars x) e
        (numbers_at s P.spelling.rules q).exit in
        let va : (spot_at s a).vars ≡ (spot_at s q).vars = same_vars s P.spelling.rules q a lt i.1.0 i.1.1 in
        let vd : (spot_at s d).vars ≡ (spot_at s q).vars = same_vars s P.spelling.rules q d lt i.2.0 i.2.1 in
        few_in ys (λ x. has live a x || has live d x) 0 (spot_at s q).vars
        (λ x lx h. elim (either_true (has live a x) (has live d x) h) [
          | inl u ↦ ha x ((P.living a x i.1.0 (omega (arith, lx, va))).0 u)
          | inr u ↦ hd x ((P.living d x i.2.0 (omega (arith, lx, vd))).0 u)
        ])
    | inr ge ↦ few_in ys (λ x. has live a x || has live d x) 0 (spot_at s q).vars
        (λ x lx h. let z = gone s q ge in absurd (omega (arith, lx, z)))
  ]

  -- what is live at a reached block is a variable of the program
  kept_low : (b : ℕ) → b < length (spots j) → Reached j b → (x : ℕ) → Live k (at b) x → x < V
  kept_low b lt r x h = C.low b x lt ((P.keeping.places.same b lt r).held x h)

  sets_low : (b : ℕ) → b < length (spots j) → Reached j b → (n : ℕ) → n ≤ (spot_at k (at b)).vars
      → LiveBelow needed (at b) n V
  sets_low b lt r n inside x lx h =
      kept_low b lt r x
      ((P.needing (at b) x (P.keeping.places.same b lt r).there (omega (arith, lx, inside))).0 h)

  held_low : (b : ℕ) → b < length (spots j) → Reached j b → (x : ℕ) → Live s (pl.block (at b)) x
      → In x (some_and V (spot_at k (at b)).vars)
  held_low b lt r x h = elim ((P.spelling.charged.blocks (at b) (P.keeping.places.same b lt r).there).held x
      h) [
        | inl here ↦ in_some V (spot_at k (at b)).vars x (kept_low b lt r x here)
        | inr e ↦ inl e
      ]

  K : Placed k []
  K = all_placed k [] P.keeping.rules

  J : Placed j []
  J = all_placed j [] C.rules

  -- an entry that is the place of a reached block
  entry_low : (f : ℕ) → f < length k.procs → (b : ℕ) → b < length (spots j) → Reached j b
      → entry_of k f ≡ at b → LiveBelow needed (entry_of k f) (proc_at k f).vars V
  entry_low f lf b lt r e =
      let first = K.first f lf in
      let v : (spot_at k (entry_of k f)).vars ≡ (proc_at k f).vars = (K.home (entry_of k f) first.0).1
      ∙ ap (λ n. (proc_at k n).vars) first.1 in
      let w : (spot_at k (entry_of k f)).vars ≡ (spot_at k (at b)).vars = ap (λ n. (spot_at k n).vars) e in
      subst (λ n. LiveBelow needed n (proc_at k f).vars V) (sym e)
      (sets_low b lt r (proc_at k f).vars (omega (arith, v, w)))

  -- a block that names, does operations of one weight and goes on
  pub goes_weigh : (c d n : ℕ) → (block_at s c).exit ≡ Goto d
      → ((x : ℕ) → Live s c x → In x (block_at s c).named) → sum_by op_quarters (block_at s c).ops ≤ n
      → weigh c ≤ n + 11 * length (block_at s c).named + 20
  goes_weigh c d n e held ops =
      let h = live_few c (block_at s c).named held in
      let x : exit_quarters (has live) (spot_at s c).vars (block_at s c).exit ≡ 0 =
      ap (exit_quarters (has live) (spot_at s c).vars) e in
      omega (arith, h, x, ops)

  module _ (b : ℕ) (lt : b < length (spots j)) (r : Reached j b) where
    abbrev c : ℕ
    c = at b

    abbrev q : ℕ
    q = pl.block c

    same : DoesTheSame j k at b
    same = P.keeping.places.same b lt r

    st : StandsFor k needed s pl c q
    st = P.spelling.charged.blocks c same.there

    abbrev own : ℕ
    own = sum_by op_quarters (block_at j b).ops

    whole : (m n : ℕ) → exit_quarters (has live) (spot_at s q).vars (block_at s q).exit ≤ m
        → length st.saves ≤ n → weigh q ≤ own + (11 * n + (m + (11 * V + 31)))
    whole m n exit few =
        let a = saves_weigh st.saves st.are_saves in
        let e : sum_by op_quarters (block_at s q).ops ≡ own + sum_by op_quarters st.saves =
        ap (sum_by op_quarters) (st.ops ∙ ap (λ (xs : List Op). xs ++ st.saves) same.ops)
        ∙ sum_by-append op_quarters (block_at j b).ops st.saves in
        let h = live_few q (some_and V (spot_at k c).vars) (held_low b lt r) in
        let n' = some_count V (spot_at k c).vars in
        omega (arith, a, e, h, n', exit, few)

    exit_j : (y : Exit) → (block_at j b).exit ≡ y → ExitIn j (spot_at j b).home (spot_at j b).vars y
    exit_j y e = subst (λ (x : Exit). ExitIn j (spot_at j b).home (spot_at j b).vars x) e
        (numbers_at j C.rules b).exit

    exit_k : (z : Exit) → (block_at k c).exit ≡ z → ExitIn k (spot_at k c).home (spot_at k c).vars z
    exit_k z e = subst (λ (x : Exit). ExitIn k (spot_at k c).home (spot_at k c).vars x) e
        (numbers_at k P.keeping.rules c).exit

    follows : (y : Exit) → (block_at j b).exit ≡ y → (d : ℕ) → Leads y d → Reached j d
    follows y e d i = follow b d r (subst (λ (x : Exit). Leads x d) (sym e) i)

    z_of : (y : Exit) → (block_at j b).exit ≡ y → SameExit j k at y (block_at k c).exit
    z_of y e = subst (λ (x : Exit). SameExit j k at x (block_at k c).exit) e same.exit

    u_of : (z : Exit) → (block_at k c).exit ≡ z → StandsForExit pl z (block_at s q).exit
    u_of z e = subst (λ (x : Exit). StandsForExit pl x (block_at s q).exit) e st.exit

    n_of : (z : Exit) → (block_at k c).exit ≡ z → length st.saves ≤ most_saved needed (spot_at k c).vars z
    n_of z e = subst (λ (x : Exit). length st.saves ≤ most_saved needed (spot_at k c).vars x) e st.few

    -- an exit that saves nothing, and that goes on or stops
    simple : (z u : Exit) → (block_at k c).exit ≡ z → (block_at s q).exit ≡ u
        → most_saved needed (spot_at k c).vars z ≤ 0 → beside weigh pl c z ≤ 0 → (m : ℕ)
        → exit_quarters (has live) (spot_at s q).vars u ≤ m → weigh q + beside weigh pl c
        (block_at k c).exit ≤ own + (m + (11 * V + 31))
    simple z u ez eu none alone m le =
        let n : length st.saves ≤ 0 = (let a = n_of z ez in omega (arith, a, none)) in
        let w = whole m 0 (subst (λ (x : Exit). exit_quarters (has live) (spot_at s q).vars x ≤ m) (sym eu)
        le) n in
        let z : beside weigh pl c (block_at k c).exit ≡ beside weigh pl c z = ap (beside weigh pl c) ez in
        omega (arith, w, z, alone)

    by_branch : (t : Term) (a d : ℕ) → (block_at j b).exit ≡ Branch t a d
        → weigh q + beside weigh pl c (block_at k c).exit ≤ own + exit_charge V (Branch t a d)
    by_branch t a d e =
        let z = z_of (Branch t a d) e in
        let u = u_of (Branch t (at a) (at d)) z in
        let i = exit_j (Branch t a d) e in
        let ki = exit_k (Branch t (at a) (at d)) z in
        let va : (spot_at k (at a)).vars ≡ (spot_at k c).vars = same_vars k P.keeping.rules c (at a)
        same.there ki.1.0 ki.1.1 in
        let vd : (spot_at k (at d)).vars ≡ (spot_at k c).vars = same_vars k P.keeping.rules c (at d)
        same.there ki.2.0 ki.2.1 in
        let f = arms_few q (pl.block (at a)) (pl.block (at d)) t (some_and V (spot_at k c).vars) u
        (λ x h. subst (λ n. In x (some_and V n)) va (held_low a i.1.0 (follows (Branch t a d) e a (inl refl))
        x h))
        (λ x h. subst (λ n. In x (some_and V n)) vd (held_low d i.2.0 (follows (Branch t a d) e d (inr refl))
        x h)) in
        let n = some_count V (spot_at k c).vars in
        let w = simple (Branch t (at a) (at d)) (Branch t (pl.block (at a)) (pl.block (at d))) z u
        (omega arith) (omega arith) (term_quarters t + (7 * V + 21)) (omega (arith, f, n)) in
        omega (arith, w)

    by_return : (t : Term) → (block_at j b).exit ≡ Return t → weigh q + beside weigh pl c
        (block_at k c).exit ≤ own + exit_charge V (Return t)
    by_return t e =
        let z = z_of (Return t) e in
        elim (u_of (Return t) z) [
          | inl u ↦
              (let w = simple (Return t) (Return t) z u (omega arith) (omega arith) (term_quarters t + 24)
              (omega arith) in omega (arith, w))
          | inr u ↦ (let o = sum_by-cons term_quarters t [] in
              let w = simple (Return t) (Send (Var u.0) (t ∷ []) u.1) z u.2 (omega arith) (omega arith)
              (term_quarters t + 24) (omega (arith, o)) in omega (arith, w))
        ]

    by_call : (x : Rattle.std.proofs.Common.Option ℕ) (f : ℕ) (ts : List Term) (back : ℕ)
        → (block_at j b).exit ≡ Call x f ts back → weigh q + beside weigh pl c (block_at k c).exit
        ≤ own + exit_charge V (Call x f ts back)
    by_call x f ts back e =
        let zz = z_of (Call x f ts back) e in
        let g : ℕ = zz.0 in
        let call : Exit = Call x g ts (at back) in
        let z : (block_at k c).exit ≡ call = zz.1 in
        let uu = u_of call z in
        let i = exit_j (Call x f ts back) e in
        let ki = exit_k call z in
        let values : length ts ≤ V =
        (subst (CallsFew V) e (C.calls b)).0 in
        let rb : Reached j back = follows (Call x f ts back) e back refl in
        let vb : (spot_at k (at back)).vars ≡ (spot_at k c).vars = same_vars k P.keeping.rules c (at back)
        same.there ki.4.0 ki.4.1 in
        let few : live_count needed (at back) (spot_at k c).vars ≤ V = count_low needed (at back) V
        (spot_at k c).vars (sets_low back i.4.0 rb (spot_at k c).vars (omega (arith, vb))) in
        let saves : length st.saves ≤ suc V = (let n = n_of call z in omega (arith, n, few)) in
        let sent : List Term = ts ++ Number uu.0 ∷ [] in
        let sum : sum_by term_quarters sent ≡ sum_by term_quarters ts + sum_by term_quarters
        (Number uu.0 ∷ []) = sum_by-append term_quarters ts (Number uu.0 ∷ []) in
        let one = sum_by-cons term_quarters (Number uu.0) [] in let number = number_few uu.0 in
        let count : length sent ≡ length ts + 1 = length_push ts (Number uu.0) in
        let exit : exit_quarters (has live) (spot_at s q).vars (block_at s q).exit ≤ sum_by term_quarters ts
        + (12 * length ts + 30) =
        subst (λ (y : Exit). exit_quarters (has live) (spot_at s q).vars y ≤ sum_by term_quarters ts
        + (12 * length ts + 30)) (sym uu.1) (omega (arith, sum, one, number, count)) in
        let w = whole (sum_by term_quarters ts + (12 * length ts + 30)) (suc V) exit saves in
        let door = P.spelling.charged.doors g ki.1 in
        let entered : Reached j (entry_of j f) = enter b (entry_of j f) r
        (subst (λ (y : Exit). Enters j y (entry_of j f)) (sym e) refl) in
        let low = entry_low g ki.1 (entry_of j f) (J.first f i.1).0 entered zz.2 in
        let params : (proc_at k g).params ≤ V = omega (arith, values, ki.2) in
        let cleared = P.spelling.charged.clears g V ki.1 params low in
        let dw = clears_weigh (block_at s (pl.door g)).ops door.ops in
        let d = goes_weigh (pl.door g) door.goes.0 (length (block_at s (pl.door g)).ops * 6) door.goes.1
        door.held dw in
        let is_call : calls (block_at k c).exit ≡ true = ap calls z in
        let point = P.spelling.charged.points c same.there is_call in
        let loads : length (block_at s (pl.point c)).ops ≤ most_saved needed (spot_at k c).vars call =
        subst (λ (y : Exit). length (block_at s (pl.point c)).ops ≤ most_saved needed (spot_at k c).vars
        y) z (P.spelling.charged.loads c same.there is_call) in
        let pw = loads_weigh (block_at s (pl.point c)).ops point.ops in
        let p = goes_weigh (pl.point c) point.goes.0 (length (block_at s (pl.point c)).ops * 15) point.goes.1
        point.held pw in
        let besides : beside weigh pl c (block_at k c).exit ≡ weigh (pl.door g) + weigh (pl.point c) =
        ap (beside weigh pl c) z in
        let named = door.named in
        let one_name = point.named in
        omega (arith, w, d, p, besides, few, loads, cleared, named, one_name, ki.2, values)

    by_exit : (y : Exit) → (block_at j b).exit ≡ y → weigh q + beside weigh pl c (block_at k c).exit
        ≤ own + exit_charge V y
    by_exit (Goto d) e = let z = z_of (Goto d) e in let w = simple (Goto (at d)) (Goto (pl.block (at d))) z
        (u_of (Goto (at d)) z) (omega arith) (omega arith) 0 (omega arith) in omega (arith, w)
    by_exit (Branch t a d) e = by_branch t a d e
    by_exit (Call x f ts back) e = by_call x f ts back e
    by_exit (Return t) e = by_return t e
    by_exit (Send t ts ls) e = let z = z_of (Send t ts ls) e in let w =
        simple Stop Stop z (u_of Stop z) (omega arith) (omega arith) 5 (omega arith) in omega (arith, w)
    by_exit Stop e = let z = z_of Stop e in let w = simple Stop Stop z (u_of Stop z) (omega arith)
        (omega arith) 5 (omega arith) in omega (arith, w)

    pub fits : charged k pl weigh c ≤ charge V j b
    fits = by_exit (block_at j b).exit refl

  -- the first block
  opening_weighs : weigh (first_block s) ≤ 6 * V + 20
  opening_weighs =
      let main = length k.procs - 1 in
      let lk : main < length k.procs = omega (arith, P.keeping.rules.numbers.some_proc) in
      let lj : length j.procs - 1 < length j.procs = omega (arith, C.rules.numbers.some_proc) in
      let low = entry_low main lk (first_block j) (J.first (length j.procs - 1) lj).0 start
      P.keeping.places.begins in
      let few = P.spelling.charged.opens V low in
      let is = P.spelling.charged.begins in
      let door = P.spelling.charged.doors main lk in
      let d = goes_weigh (pl.door main) door.goes.0 (length (block_at s (pl.door main)).ops * 6) door.goes.1
      door.held (clears_weigh (block_at s (pl.door main)).ops door.ops) in
      let same : weigh (first_block s) ≡ weigh (pl.door main) = ap weigh is in
      let named : length (block_at s (pl.door main)).named ≡ 0 = ap (λ n. length (block_at s n).named)
      (sym is) ∙ ap length P.spelling.start in
      let ops : length (block_at s (pl.door main)).ops ≡ length (block_at s (first_block s)).ops =
      ap (λ n. length (block_at s n).ops) (sym is) in
      omega (arith, d, few, same, named, ops)

  -- walks of the last graph weigh no more than turns pay for
  pub last_weighs : WalksWeigh s (weight s live) (17 * most_variables parts + 80)
      (pay (most_variables parts) (widest parts))
  last_weighs world turns m =
      let most = pay V (widest parts) in
      let kept = P.keeping.places.walks (charged k pl weigh) (charge V j) (base V) most fits C.paid in
      let h = P.spelling.charged.walks weigh (base V) most kept world turns m in
      let o = opening_weighs in
      omega (arith, h, o)
