-- What turns pay for on the way to the last graph.
use Rattle.std.proofs.Common.{ℕ, zero, suc, ◌+◌, ◌*◌, ◌≡◌, ◌<◌, ◌≤◌, max, List, [], ◌∷◌, ◌++◌, refl, sym}
use Rattle.std.proofs.Common.{ap, ◌∙◌, subst, inl, inr, arith}
use Rattle.std.specs.List.{AllByRecursion, sum_by}
use Rattle.std.proofs.lemmas.Bool.{cases_lt}
use Rattle.std.proofs.lemmas.List.Sums.{sum_by-append}
use Rattle.std.proofs.Math.Nat.{mul-le-mul_left}
use Rattle.src_ast.specs.Syntax.{Part}
use Rattle.src_ast.specs.Bound.{widest, most_variables}
use Rattle.src_ast.specs.LanguageLimits.{most_parameters}
use Rattle.cfg_core.specs.Graph.{Term, Op, Exit, Goto, Branch, Call, Return, Send, Stop, Block, GraphProc}
use Rattle.cfg_core.specs.Graph.{Graph, Spot, spots, spots_in, spots_from, spot_at, no_spot, block_at}
use Rattle.cfg_core.specs.Graph.{no_proc, proc_at, entry_of}
use Rattle.cfg_core.specs.Rules.{ExitIn, ProcNumbers}
use Rattle.cfg_core.specs.Weights.{turns_of, turns_at, acts_of, jumps_of, term_nodes, op_nodes, exit_nodes}
use Rattle.cfg_core.specs.Weights.{highest, handed_on, IsPotential, first_block, TwoBlocksATurn, WalksWeigh}
use Rattle.cfg_core.proofs.Weighing.{walk_paid}
use Rattle.phi_conv.specs.Joined.{joining}
use Rattle.phi_conv.specs.Keeps.{JoinedAt}
use Rattle.wave_gen.specs.Cost.{term_quarters, op_quarters}
use Rattle.wave_build.specs.Charges.{exit_charge, charge, base, pay}
use Rattle.wave_build.specs.Passed.{Lowered, Joined, CallsFew, Costed}
use Rattle.wave_build.proofs.Weights.{term_paid, terms_paid, ops_paid, no_acts, joining_weight}
use Rattle.ws_words.proofs.Lists.{all_append as all_both}
use Rattle.ws_words.specs.Items.{nth, or_else}
use Rattle.cfg_core.proofs.Spots.{each_at, numbers_at}

-- a bound on turns, scaled
scaled : (k n p t : ℕ) → 1 + n ≤ p + 2 * t → k + k * n ≤ k * p + 2 * (k * t)
scaled k n p t h =
    let m : k * (1 + n) ≤ k * (p + 2 * t) = mul-le-mul_left k h in
    let a : k * (1 + n) ≡ k + k * n = grind arith in
    let b : k * (p + 2 * t) ≡ k * p + 2 * (k * t) = grind arith in
    omega (arith, m, a, b)

finish : (k n p t d q c extra handed : ℕ) → 1 + n ≤ p + 2 * t → handed ≤ k * n + extra
    → q + c + extra ≤ k + 29 + d * t → q + c + handed ≤ k * p + 29 + (2 * k + d) * t
finish k n p t d q c extra handed paid h le =
    let s = scaled k n p t paid in
    let e : (2 * k + d) * t ≡ 2 * (k * t) + d * t = grind arith in
    omega (arith, s, e, h, le)

at_least_once : (k t : ℕ) → 1 ≤ t → k ≤ k * t
at_least_once k t h = let m : k * 1 ≤ k * t = mul-le-mul_left k h in let e : k * 1 ≡ k = grind arith in
    omega (arith, m, e)

times_none : (k t : ℕ) → t ≤ 0 → k * t ≤ 0
times_none k t h = let m : k * t ≤ k * 0 = mul-le-mul_left k h in let e : k * 0 ≡ 0 = grind arith in
    omega (arith, m, e)

spread : (v e t : ℕ) → (42 * v + 180 + 9 * e) * t ≡ 42 * (v * t) + 180 * t + 9 * (e * t)
spread v e t = grind arith

in_blocks : (V home v : ℕ) (bs : List Block) → v ≤ V → AllByRecursion (λ (s : Spot). s.vars ≤ V)
    (spots_in home v bs)
in_blocks V home v [] le = tt
in_blocks V home v (b ∷ bs) le = (le, in_blocks V home v bs le)

pub in_procs : (V home : ℕ) (ps : List GraphProc) → AllByRecursion (λ p. p.vars ≤ V) ps
    → AllByRecursion (λ (s : Spot). s.vars ≤ V) (spots_from home ps)
in_procs V home [] h = tt
in_procs V home (p ∷ ps) h = all_both (λ (s : Spot). s.vars ≤ V) (spots_in home p.vars p.blocks)
    (spots_from (suc home) ps) (in_blocks V home p.vars p.blocks h.0) (in_procs V (suc home) ps h.1)

params_at_most : (n : ℕ) (ps : List GraphProc) (f : ℕ) → AllByRecursion (λ p. p.params ≤ n) ps
    → (or_else (nth ps f) no_proc).params ≤ n
unfolding no_proc
params_at_most n [] f h = omega arith
params_at_most n (p ∷ ps) zero h = h.0
params_at_most n (p ∷ ps) (suc f) h = params_at_most n ps f h.1

params_few : (V : ℕ) (ps : List GraphProc) (f : ℕ) → AllByRecursion ProcNumbers ps
    → AllByRecursion (λ p. p.vars ≤ V) ps → (or_else (nth ps f) no_proc).params ≤ V
unfolding no_proc
params_few V [] f n h = omega arith
params_few V (p ∷ ps) zero n h = omega (arith, n.0.params, h.0)
params_few V (p ∷ ps) (suc f) n h = params_few V ps f n.1 h.1

module _ (parts : List Part) (l j : Graph) (L : Lowered parts l) (J : Joined l j) where
  abbrev V : ℕ
  V = most_variables parts

  abbrev E : ℕ
  E = widest parts

  -- procedures of the lowered graph have few variables
  vars_few : (b : ℕ) → (spot_at l b).vars ≤ V
  unfolding spot_at no_spot
  vars_few b = each_at (λ (s : Spot). s.vars ≤ V) (spots l) no_spot
      (in_procs V 0 l.procs L.small.vars) (omega arith) b

  values_few : (f : ℕ) → (proc_at l f).params ≤ V
  unfolding proc_at
  values_few f = params_few V l.procs f L.rules.numbers.procs L.small.vars

  few_params : (f : ℕ) → (proc_at l f).params ≤ most_parameters
  unfolding proc_at
  few_params f = params_at_most most_parameters l.procs f L.small.params

  -- what a block is charged
  abbrev given : ℕ → ℕ
  given = charge V j

  -- what a block costs, and what a turn pays
  abbrev each : ℕ
  each = 11 * most_variables parts + 31

  two : TwoBlocksATurn j
  two = J.turns L.turns

  abbrev p : ℕ → ℕ
  p = two.potential

  abbrev potential : ℕ → ℕ
  potential b = each * p b + 29

  abbrev beyond : ℕ
  beyond = 42 * most_variables parts + 180 + 9 * widest parts

  of_branch : (a c : ℕ) → max (potential a) (potential c) ≤ each * max (p a) (p c) + 29
  of_branch a c = in_numbers each (p a) (p c)
    where
      in_numbers : (k m n : ℕ) → max (k * m + 29) (k * n + 29) ≤ k * max m n + 29
      in_numbers k m n =
          let x : k * m ≤ k * max m n = mul-le-mul_left k (let le : m ≤ max m n = omega arith in le) in
          let y : k * n ≤ k * max m n = mul-le-mul_left k (let le : n ≤ max m n = omega arith in le) in
          omega (arith, x, y)

  highest_few : (ls : List ℕ) → highest potential ls ≤ each * highest p ls + 29
  highest_few [] = omega arith
  highest_few (b ∷ bs) = in_numbers each (p b) (highest p bs) (highest potential bs) (highest_few bs)
    where
      in_numbers : (k m n h : ℕ) → h ≤ k * n + 29 → max (k * m + 29) h ≤ k * max m n + 29
      in_numbers k m n h i =
          let x : k * m ≤ k * max m n = mul-le-mul_left k (let le : m ≤ max m n = omega arith in le) in
          let y : k * n ≤ k * max m n = mul-le-mul_left k (let le : n ≤ max m n = omega arith in le) in
          omega (arith, x, y, i)

  abbrev extra : Exit → ℕ
  extra (Call x f ts back) = 58
  extra (Return t) = 0
  extra Stop = 0
  extra _ = 29

  handed_few : (y : Exit) → handed_on j potential y ≤ each * handed_on j p y + extra y
  handed_few (Goto c) = omega arith
  handed_few (Branch t a c) = of_branch a c
  handed_few (Call x f ts back) = in_numbers each (p (entry_of j f)) (p back)
    where
      in_numbers : (k m n : ℕ) → (k * m + 29) + (k * n + 29) ≤ k * (m + n) + 58
      in_numbers k m n = let e : k * (m + n) ≡ k * m + k * n = grind arith in omega (arith, e)
  handed_few (Return t) = omega arith
  handed_few (Send t ts ls) = highest_few ls
  handed_few Stop = omega arith

  module _ (t : ℕ) (ops : List Op) where
    abbrev q : ℕ
    q = sum_by op_quarters ops

    -- what a block weighs beyond what its potential gives, by its turns
    plain_few : (y : Exit) → CallsFew V y → sum_by acts_of ops + jumps_of y ≤ t
        → sum_by op_nodes ops + exit_nodes y ≤ E * t + 1 → q + exit_charge V y + extra y ≤ each + 29 + beyond
        * t
    plain_few (Goto c) few acts nodes = let o = ops_paid ops in let e = spread V E t in elim (cases_lt 0 t) [
      | inl pos ↦ omega (arith, o, e, acts, nodes)
      | inr none ↦ let z = no_acts ops (omega (arith, acts, none)) in omega (arith, z, e)
    ]
    plain_few (Branch u a c) few acts nodes =
        let o = ops_paid ops in let e = spread V E t in let h = term_paid u in
        let v = at_least_once V t (omega (arith, acts)) in omega (arith, o, e, h, v, acts, nodes)
    plain_few (Call x f ts back) few acts nodes =
        let o = ops_paid ops in let e = spread V E t in let h = terms_paid ts in
        let v = at_least_once V t (omega (arith, acts)) in
        omega (arith, o, e, h, v, acts, nodes, few.0, few.1)
    plain_few (Return u) few acts nodes = let o = ops_paid ops in let e = spread V E t in
        let h = term_paid u in elim (cases_lt 0 t) [
          | inl pos ↦ omega (arith, o, e, h, acts, nodes)
          | inr none ↦ let z = no_acts ops (omega (arith, acts, none)) in let w = times_none E t none in
              omega (arith, z, e, h, w, nodes)
        ]
    plain_few (Send u ts ls) few acts nodes =
        let o = ops_paid ops in let e = spread V E t in
        let v = at_least_once V t (omega (arith, acts)) in omega (arith, o, e, v, acts, nodes)
    plain_few Stop few acts nodes = let o = ops_paid ops in let e = spread V E t in elim (cases_lt 0 t) [
      | inl pos ↦ omega (arith, o, e, acts, nodes)
      | inr none ↦ let z = no_acts ops (omega (arith, acts, none)) in omega (arith, z, e)
    ]

    -- the same where a short branch is joined
    joined_few : (more : List Op) (test : Term) (n : ℕ) → n ≤ t → sum_by acts_of ops + 1 ≤ n
        → sum_by op_nodes ops + term_nodes test ≤ E * n + 1 → sum_by op_quarters more ≤ term_quarters test
        + 168 → sum_by op_quarters (ops ++ more) + (11 * V + 31) + 29 ≤ each + 29 + beyond * t
    joined_few more test n le acts nodes weigh =
        let o = ops_paid ops in let e = spread V E t in let h = term_paid test in
        let a = sum_by-append op_quarters ops more in
        let m : E * n ≤ E * t = mul-le-mul_left E le in
        omega (arith, o, e, h, a, m, le, acts, nodes, weigh)

  calls_few : (b : ℕ) (y : Exit) → (block_at l b).exit ≡ y → CallsFew V y
  calls_few b (Goto c) e = tt
  calls_few b (Branch t a c) e = tt
  calls_few b (Call x f ts back) e =
      let i = subst (λ (x : Exit). ExitIn l (spot_at l b).home (spot_at l b).vars x) e
      (numbers_at l L.rules b).exit in
      let v = values_few f in let w = few_params f in (omega (arith, i.2, v), omega (arith, i.2, w))
  calls_few b (Return t) e = tt
  calls_few b (Send t ts ls) e = tt
  calls_few b Stop e = tt

  -- a call of the joined graph has no more values than a procedure has variables
  joined_calls_few : (b : ℕ) (y : Exit) → (block_at j b).exit ≡ y → CallsFew V y
  joined_calls_few b y e = elim (J.short.others b) [
    | inl same ↦ calls_few b y (ap (λ (x : Block). x.exit) (sym same) ∙ e)
    | inr new ↦ subst (CallsFew V) (sym new.goes ∙ e) tt
  ]

  -- turns pay for what a block is charged, also where they are but those of the lowered block
  paid_by : (b t : ℕ) → turns_at l b ≤ t → given b + extra (block_at j b).exit ≤ each + 29 + beyond * t
  paid_by b t le = elim (J.short.others b) [
    | inl same ↦
        let a = L.work.acts b in let n = L.work.nodes b in
        let m : E * turns_at l b ≤ E * t = mul-le-mul_left E le in
        subst (λ (x : Block). sum_by op_quarters x.ops + exit_charge V x.exit + extra x.exit ≤ each + 29
        + beyond * t) (sym same)
        (plain_few t (block_at l b).ops (block_at l b).exit (calls_few b (block_at l b).exit refl)
        (omega (arith, a, le)) (omega (arith, n, m)))
    | inr new ↦ of_joined new
  ]
    where
      of_joined : JoinedAt l j b → given b + extra (block_at j b).exit ≤ each + 29 + beyond * t
      of_joined new =
          let ops = (block_at l b).ops in
          let more = joining new.sets new.vars new.short in
          let a = L.work.acts b in
          let n = L.work.nodes b in
          let acts : sum_by acts_of ops + 1 ≤ turns_at l b =
          subst (λ (x : Exit). sum_by acts_of ops + jumps_of x ≤ turns_at l b) new.branch a in
          let nodes : sum_by op_nodes ops + term_nodes new.test ≤ E * turns_at l b + 1 =
          subst (λ (x : Exit). sum_by op_nodes ops + exit_nodes x ≤ E * turns_at l b + 1) new.branch n in
          let w : sum_by op_quarters more ≤ term_quarters new.short.test + 168 =
          joining_weight new.sets new.vars new.short new.is.few in
          let s : term_quarters new.short.test ≡ term_quarters new.test = ap term_quarters new.is.test in
          let weigh : sum_by op_quarters more ≤ term_quarters new.test + 168 = omega (arith, w, s) in
          let f = joined_few t ops more new.test (turns_at l b) le acts nodes weigh in
          subst (λ (x : Exit). sum_by op_quarters (block_at j b).ops + exit_charge V x + extra x ≤ each + 29
          + beyond * t) (sym new.goes)
          (subst (λ (xs : List Op). sum_by op_quarters xs + (11 * V + 31) + 29 ≤ each + 29 + beyond * t)
          (sym new.ops) f)

  -- a joined block takes no fewer turns
  turns_more : (b : ℕ) → turns_at l b ≤ turns_at j b
  turns_more b = elim (J.short.others b) [
    | inl same ↦ (let e : turns_at j b ≡ turns_at l b = ap (λ (x : Block). sum_by turns_of x.ops) same in
        omega (arith, e))
    | inr new ↦
        let more = joining new.sets new.vars new.short in
        let e : turns_at j b ≡ turns_at l b + sum_by turns_of more = ap (λ (xs : List Op). sum_by turns_of xs)
        new.ops ∙ sum_by-append turns_of (block_at l b).ops more in omega (arith, e)
  ]

  block_few : (b : ℕ) → given b + extra (block_at j b).exit ≤ each + 29 + beyond * turns_at j b
  block_few b = paid_by b (turns_at j b) (turns_more b)

  -- whatever blocks walks pass, the turns of the program pay for what each block is charged
  pub charge_few : (b : ℕ) → given b ≤ (11 * most_variables parts + 60)
      + (42 * most_variables parts + 180 + 9 * widest parts) * turns_at l b
  charge_few b = let p = paid_by b (turns_at l b) (omega arith) in omega (arith, p)

  pays_all : IsPotential j given (pay V E) potential
  pays_all b lt = finish each (handed_on j p (block_at j b).exit) (p b) (turns_at j b) beyond
      (sum_by op_quarters (block_at j b).ops) (exit_charge V (block_at j b).exit) (extra (block_at j b).exit)
      (handed_on j potential (block_at j b).exit)
      (two.pays b lt) (handed_few (block_at j b).exit) (block_few b)

  -- in the joined graph walks are charged no more
  joined_weighs : WalksWeigh j given (base V) (pay V E)
  joined_weighs world turns m =
      let h = walk_paid j J.rules given (pay V E) potential pays_all world turns m in
      let e : each * p (first_block j) ≤ each * 1 = mul-le-mul_left each two.begins in
      let o : each * 1 ≡ each = grind arith in
      omega (arith, h, e, o)

  -- what the cost of the image rests on
  pub joined_costs : Costed parts j
  joined_costs = record {
    rules = J.rules;
    low = λ b x lt h.
        (let i = J.copies b x (subst (λ n. b < n) J.sizes.count lt) h in let v = vars_few b in
        omega (arith, i, v));
    calls = λ b. joined_calls_few b (block_at j b).exit refl;
    paid = joined_weighs;
  }
