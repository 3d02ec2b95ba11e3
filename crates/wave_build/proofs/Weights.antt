-- What operations weigh, by their nodes and acts, and what passes add.
use Rattle.std.proofs.Common.{ℕ, zero, suc, ◌+◌, ◌*◌, ◌≡◌, ◌≤◌, Bool, true, false, if◌then◌else◌, List, []}
use Rattle.std.proofs.Common.{◌∷◌, ◌++◌, length, map, refl, ap, arith}
use Rattle.std.specs.List.{AllByRecursion, sum_by}
use Rattle.std.proofs.lemmas.List.Sums.{sum_by-cons, sum_by-append}
use Rattle.cfg_core.specs.Graph.{Term, Number, Var, Cell, Flip, Not, Neg, Binary, Op, Assign, Store, Print}
use Rattle.cfg_core.specs.Graph.{Read, Give, Take, Choose, Tick, TickBy}
use Rattle.cfg_core.specs.Weights.{term_nodes, op_nodes, acts_of}
use Rattle.phi_conv.specs.Short.{Short, all_nodes, most_nodes}
use Rattle.phi_conv.specs.Joined.{first_base, second_base, added, renamed, arm, written_by, is_still}
use Rattle.phi_conv.specs.Joined.{keep_test, test_if, test_of, choice, choices, joining}
use Rattle.call_gen.specs.Charged.{IsSave, IsLoad, IsClear}
use Rattle.wave_gen.specs.Cost.{term_quarters, op_quarters}
use Rattle.phi_conv.proofs.Sizing.{chosen, chosen_count, arms, turns}

pub number_few : (n : ℕ) → term_quarters (Number n) ≤ 5
number_few zero = omega arith
number_few (suc n) = omega arith

pub term_paid : (t : Term) → term_quarters t + 4 ≤ 9 * term_nodes t
term_paid (Number n) = let h = number_few n in omega (arith, h)
term_paid (Var x) = omega arith
term_paid (Cell a t) = let h = term_paid t in omega (arith, h)
term_paid (Flip t) = let h = term_paid t in omega (arith, h)
term_paid (Not t) = let h = term_paid t in omega (arith, h)
term_paid (Neg t) = let h = term_paid t in omega (arith, h)
term_paid (Binary op a b) = let h = term_paid a in let i = term_paid b in omega (arith, h, i)

pub terms_paid : (ts : List Term) → sum_by term_quarters ts + 4 * length ts ≤ 9 * sum_by term_nodes ts
terms_paid [] = omega arith
terms_paid (t ∷ ts) =
    let h = term_paid t in let i = terms_paid ts in
    let a = sum_by-cons term_quarters t ts in let b = sum_by-cons term_nodes t ts in omega (arith, h, i, a, b)

op_paid : (op : Op) → op_quarters op ≤ 9 * op_nodes op + 5 * acts_of op
op_paid (Assign x t) = let h = term_paid t in omega (arith, h)
op_paid (Store a t u) = let h = term_paid t in let i = term_paid u in omega (arith, h, i)
op_paid (Print t) = let h = term_paid t in omega (arith, h)
op_paid (Read x) = omega arith
op_paid (Give p x) = omega arith
op_paid (Take p t) = let h = term_paid t in omega (arith, h)
op_paid (Choose x t a b) = let h = term_paid t in let i = term_paid a in let j = term_paid b in
    omega (arith, h, i, j)
op_paid (Tick n) = omega arith
op_paid (TickBy t n m) = omega arith

pub ops_paid : (ops : List Op) → sum_by op_quarters ops ≤ 9 * sum_by op_nodes ops + 5 * sum_by acts_of ops
ops_paid [] = omega arith
ops_paid (op ∷ ops) =
    let h = op_paid op in let i = ops_paid ops in
    let a = sum_by-cons op_quarters op ops in let b = sum_by-cons op_nodes op ops in
    let c = sum_by-cons acts_of op ops in omega (arith, h, i, a, b, c)

idle : (op : Op) → acts_of op ≤ 0 → op_quarters op ≤ 0
idle (Tick n) h = omega arith
idle (Assign x t) h = absurd (omega (arith, h))
idle (Store a t u) h = absurd (omega (arith, h))
idle (Print t) h = absurd (omega (arith, h))
idle (Read x) h = absurd (omega (arith, h))
idle (Give p x) h = absurd (omega (arith, h))
idle (Take p t) h = absurd (omega (arith, h))
idle (Choose x t a b) h = absurd (omega (arith, h))
idle (TickBy t n m) h = absurd (omega (arith, h))

-- operations without an act weigh nothing
pub no_acts : (ops : List Op) → sum_by acts_of ops ≤ 0 → sum_by op_quarters ops ≤ 0
no_acts [] h = omega arith
no_acts (op ∷ ops) h =
    let c = sum_by-cons acts_of op ops in
    let a = idle op (omega (arith, h, c)) in let i = no_acts ops (omega (arith, h, c)) in
    let b = sum_by-cons op_quarters op ops in omega (arith, a, i, b)

-- operations of one kind
each_weighs : (Is : Op → Type 0) (k : ℕ) → ((op : Op) → Is op → op_quarters op ≤ k) → (ops : List Op)
    → AllByRecursion Is ops → sum_by op_quarters ops ≤ length ops * k
each_weighs Is k h [] all = omega arith
each_weighs Is k h (op ∷ ops) all =
    let a = h op all.0 in let i = each_weighs Is k h ops all.1 in
    let e : suc (length ops) * k ≡ k + length ops * k = grind arith in
    let c = sum_by-cons op_quarters op ops in omega (arith, a, i, e, c)

save_weighs : (op : Op) → IsSave op → op_quarters op ≤ 11
save_weighs (Store a (Number n) (Var x)) h = let f = number_few n in omega (arith, f)
save_weighs (Store a (Number n) (Number m)) h = absurd h
save_weighs (Store a (Number n) (Cell b t)) h = absurd h
save_weighs (Store a (Number n) (Flip t)) h = absurd h
save_weighs (Store a (Number n) (Not t)) h = absurd h
save_weighs (Store a (Number n) (Neg t)) h = absurd h
save_weighs (Store a (Number n) (Binary o t u)) h = absurd h
save_weighs (Store a (Var y) u) h = absurd h
save_weighs (Store a (Cell b t) u) h = absurd h
save_weighs (Store a (Flip t) u) h = absurd h
save_weighs (Store a (Not t) u) h = absurd h
save_weighs (Store a (Neg t) u) h = absurd h
save_weighs (Store a (Binary o t v) u) h = absurd h
save_weighs (Assign x t) h = absurd h
save_weighs (Print t) h = absurd h
save_weighs (Read x) h = absurd h
save_weighs (Give p x) h = absurd h
save_weighs (Take p t) h = absurd h
save_weighs (Choose x t a b) h = absurd h
save_weighs (Tick n) h = absurd h
save_weighs (TickBy t n m) h = absurd h

load_weighs : (op : Op) → IsLoad op → op_quarters op ≤ 15
load_weighs (Assign x (Cell a (Number n))) h = let f = number_few n in omega (arith, f)
load_weighs (Assign x (Cell a (Var y))) h = absurd h
load_weighs (Assign x (Cell a (Cell b t))) h = absurd h
load_weighs (Assign x (Cell a (Flip t))) h = absurd h
load_weighs (Assign x (Cell a (Not t))) h = absurd h
load_weighs (Assign x (Cell a (Neg t))) h = absurd h
load_weighs (Assign x (Cell a (Binary o t u))) h = absurd h
load_weighs (Assign x (Number n)) h = absurd h
load_weighs (Assign x (Var y)) h = absurd h
load_weighs (Assign x (Flip t)) h = absurd h
load_weighs (Assign x (Not t)) h = absurd h
load_weighs (Assign x (Neg t)) h = absurd h
load_weighs (Assign x (Binary o t u)) h = absurd h
load_weighs (Store a t u) h = absurd h
load_weighs (Print t) h = absurd h
load_weighs (Read x) h = absurd h
load_weighs (Give p x) h = absurd h
load_weighs (Take p t) h = absurd h
load_weighs (Choose x t a b) h = absurd h
load_weighs (Tick n) h = absurd h
load_weighs (TickBy t n m) h = absurd h

clear_weighs : (op : Op) → IsClear op → op_quarters op ≤ 6
clear_weighs (Assign x (Number zero)) h = omega arith
clear_weighs (Assign x (Number (suc n))) h = absurd h
clear_weighs (Assign x (Var y)) h = absurd h
clear_weighs (Assign x (Cell a t)) h = absurd h
clear_weighs (Assign x (Flip t)) h = absurd h
clear_weighs (Assign x (Not t)) h = absurd h
clear_weighs (Assign x (Neg t)) h = absurd h
clear_weighs (Assign x (Binary o t u)) h = absurd h
clear_weighs (Store a t u) h = absurd h
clear_weighs (Print t) h = absurd h
clear_weighs (Read x) h = absurd h
clear_weighs (Give p x) h = absurd h
clear_weighs (Take p t) h = absurd h
clear_weighs (Choose x t a b) h = absurd h
clear_weighs (Tick n) h = absurd h
clear_weighs (TickBy t n m) h = absurd h

pub saves_weigh : (ops : List Op) → AllByRecursion IsSave ops → sum_by op_quarters ops ≤ length ops * 11
saves_weigh ops all = each_weighs IsSave 11 save_weighs ops all

pub loads_weigh : (ops : List Op) → AllByRecursion IsLoad ops → sum_by op_quarters ops ≤ length ops * 15
loads_weigh ops all = each_weighs IsLoad 15 load_weighs ops all

pub clears_weigh : (ops : List Op) → AllByRecursion IsClear ops → sum_by op_quarters ops ≤ length ops * 6
clears_weigh ops all = each_weighs IsClear 6 clear_weighs ops all

-- What stands for a short branch.

renamed_weight : (base : ℕ) (done : List ℕ) (t : Term) → term_quarters (renamed base done t) ≡ term_quarters t
renamed_weight base done (Number n) = refl
renamed_weight base done (Var x) = refl
renamed_weight base done (Cell a t) = ap (λ n. 5 + n) (renamed_weight base done t)
renamed_weight base done (Flip t) = ap (λ n. 9 + n) (renamed_weight base done t)
renamed_weight base done (Not t) = ap (λ n. 5 + n) (renamed_weight base done t)
renamed_weight base done (Neg t) = ap (λ n. 5 + n) (renamed_weight base done t)
renamed_weight base done (Binary op a b) = let x = renamed_weight base done a in
    let y = renamed_weight base done b in omega (arith, x, y)

arm_weight : (base : ℕ) (done : List ℕ) (ops : List Op) → sum_by op_quarters (arm base done ops)
    ≤ 10 * all_nodes ops
arm_weight base done [] = omega arith
arm_weight base done (Assign x t ∷ ops) =
    let a = renamed_weight base done t in let h = term_paid t in let b = arm_weight base (added done x) ops in
    let c = sum_by-cons op_quarters (Assign (base + x) (renamed base done t)) (arm base (added done x) ops) in
    omega (arith, a, h, b, c)
arm_weight base done (Store a t u ∷ ops) = let b = arm_weight base done ops in omega (arith, b)
arm_weight base done (Print t ∷ ops) = let b = arm_weight base done ops in omega (arith, b)
arm_weight base done (Read x ∷ ops) = let b = arm_weight base done ops in omega (arith, b)
arm_weight base done (Give p x ∷ ops) = let b = arm_weight base done ops in omega (arith, b)
arm_weight base done (Take p t ∷ ops) = let b = arm_weight base done ops in omega (arith, b)
arm_weight base done (Choose x t a b ∷ ops) = let c = arm_weight base done ops in omega (arith, c)
arm_weight base done (Tick n ∷ ops) = let b = arm_weight base done ops in omega (arith, b)
arm_weight base done (TickBy t n m ∷ ops) = let b = arm_weight base done ops in omega (arith, b)

-- where the test stands for itself it weighs at most 5, else its variable weighs nothing
held_weight : (c : Bool) (v : ℕ) (either : List ℕ) (t : Term) → is_still either t ≡ c
    → term_quarters (test_if c v t) ≤ (if c then 5 else 0)
held_weight true v either (Number n) e = let h = number_few n in omega (arith, h)
held_weight true v either (Var x) e = omega arith
held_weight true v either (Cell a t) e = absurd (cc)
held_weight true v either (Flip t) e = absurd (cc)
held_weight true v either (Not t) e = absurd (cc)
held_weight true v either (Neg t) e = absurd (cc)
held_weight true v either (Binary op a b) e = absurd (cc)
held_weight false v either t e = omega arith

keep_weight : (c : Bool) (v : ℕ) (t : Term) → sum_by op_quarters (keep_test c v t)
    ≤ (if c then 0 else term_quarters t + 5)
keep_weight true v t = omega arith
keep_weight false v t = omega arith

module _ (live : List (List ℕ)) (v : ℕ) (s : Short) (few : all_nodes s.first + all_nodes s.second
    ≤ most_nodes) where
  choices_weight : (k : ℕ) → term_quarters (test_of v s) ≤ k → (xs : List ℕ)
      → sum_by op_quarters (map (choice v s) xs) ≤ length xs * (k + 6)
  choices_weight k h [] = omega arith
  choices_weight k h (x ∷ xs) =
      let r = choices_weight k h xs in let c = sum_by-cons op_quarters (choice v s x) (map (choice v s) xs) in
      let e : suc (length xs) * (k + 6) ≡ (k + 6) + length xs * (k + 6) = grind arith in
      omega (arith, h, r, c, e)

  abbrev still : Bool
  still = is_still (written_by s) s.test

  parts_weigh : sum_by op_quarters (joining live v s) ≡ sum_by op_quarters (keep_test still v s.test)
      + (sum_by op_quarters (arm (first_base v) [] s.first)
      + (sum_by op_quarters (arm (second_base v) [] s.second) + sum_by op_quarters (choices live v s)))
  parts_weigh =
      let f = sum_by-append op_quarters (keep_test still v s.test) (turns live v s ∷ arms live v s) in
      let i = sum_by-append op_quarters (arm (first_base v) [] s.first)
      (arm (second_base v) [] s.second ++ choices live v s) in
      let j = sum_by-append op_quarters (arm (second_base v) [] s.second) (choices live v s) in
      let l = sum_by-cons op_quarters (turns live v s) (arms live v s) in
      omega (arith, f, i, j, l)

  -- what stands for a short branch weighs at most so much beside its test
  pub joining_weight : sum_by op_quarters (joining live v s) ≤ term_quarters s.test + 168
  joining_weight = by_still still refl
    where
      by_still : (c : Bool) → still ≡ c → sum_by op_quarters (joining live v s) ≤ term_quarters s.test + 168
      by_still true e =
          let a = arm_weight (first_base v) [] s.first in
          let b = arm_weight (second_base v) [] s.second in
          let t : term_quarters (test_of v s) ≤ (if still then 5 else 0) =
          held_weight still v (written_by s) s.test refl in
          let five : 0 + (if still then 5 else 0) ≡ 0 + 5 = ap (λ (x : Bool). 0 + (if x then 5 else 0)) e in
          let d = choices_weight 5 (omega (arith, t, five)) (chosen live v s) in
          let k : sum_by op_quarters (keep_test still v s.test)
          ≤ (if still then 0 else term_quarters s.test + 5) = keep_weight still v s.test in
          let none : 0 + (if still then 0 else term_quarters s.test + 5) ≡ 0 + 0 =
          ap (λ (x : Bool). 0 + (if x then 0 else term_quarters s.test + 5)) e in
          let n : length (chosen live v s) ≤ 8 = chosen_count live v s few in
          let m : length (chosen live v s) * (5 + 6) ≤ 88 = omega (arith, n) in
          omega (arith, parts_weigh, a, b, d, k, none, m, few)
      by_still false e =
          let a = arm_weight (first_base v) [] s.first in
          let b = arm_weight (second_base v) [] s.second in
          let t : term_quarters (test_of v s) ≤ (if still then 5 else 0) =
          held_weight still v (written_by s) s.test refl in
          let zero_held : 0 + (if still then 5 else 0) ≡ 0 + 0 = ap (λ (x : Bool). 0 + (if x then 5 else 0))
          e in
          let d = choices_weight 0 (omega (arith, t, zero_held)) (chosen live v s) in
          let k : sum_by op_quarters (keep_test still v s.test)
          ≤ (if still then 0 else term_quarters s.test + 5) = keep_weight still v s.test in
          let all : 0 + (if still then 0 else term_quarters s.test + 5) ≡ 0 + (term_quarters s.test + 5) =
          ap (λ (x : Bool). 0 + (if x then 0 else term_quarters s.test + 5)) e in
          let n : length (chosen live v s) ≤ 8 = chosen_count live v s few in
          let m : length (chosen live v s) * (0 + 6) ≤ 48 = omega (arith, n) in
          omega (arith, parts_weigh, a, b, d, k, all, m, few)
