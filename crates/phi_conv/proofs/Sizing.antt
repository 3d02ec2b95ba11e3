-- How large what stands for a short branch is.
use Rattle.std.proofs.Common.{ℕ, suc, ◌+◌, ◌*◌, ◌≡◌, ◌≤◌, ◌⊎◌, Bool, List, [], ◌∷◌, ◌++◌, length, map, Option}
use Rattle.std.proofs.Common.{Some, None, refl, ap, ◌∙◌, inl, inr, arith, length-append}
use Rattle.std.specs.List.{filter, sum_by}
use Rattle.std.proofs.lemmas.List.Sums.{sum_by-cons, sum_by-append}
use Rattle.cfg_core.specs.Graph.{Term, Cell, Flip, Not, Neg, Binary, Op, Assign, Store, Print}
use Rattle.cfg_core.specs.Graph.{Read, Give, Take, Choose, Tick, TickBy, Exit, Goto, Branch, Call, Return}
use Rattle.cfg_core.specs.Graph.{Send, Stop, Graph, spot_at, block_at}
use Rattle.cfg_core.specs.Weights.{term_nodes, op_nodes, exit_nodes, block_nodes}
use Rattle.live_vars.specs.Marks.{has}
use Rattle.phi_conv.specs.Short.{Short, all_nodes, most_nodes, short}
use Rattle.phi_conv.specs.Joined.{first_base, second_base, turns_of, added, renamed, arm, written}
use Rattle.phi_conv.specs.Joined.{written_by, is_still, keep_test, test_if, test_of, choice, choices, joining}
use Rattle.phi_conv.specs.Joined.{joined_if, joined}
use Rattle.phi_conv.specs.Keeps.{most_more_ops, most_more_nodes, JoinedAt, ShortJoined, SizesKept}
use Rattle.phi_conv.proofs.Counting.{some_nodes}
use Rattle.phi_conv.proofs.Ways.{ways, found}
use Rattle.phi_conv.proofs.Placing.{block_is, spots_count}
use Rattle.ws_words.proofs.Lists.{filter_few as filter_count, length_map as map_count}

-- an arm

renamed_nodes : (base : ℕ) (done : List ℕ) (t : Term) → term_nodes (renamed base done t) ≡ term_nodes t
renamed_nodes base done (Cell a t) = ap suc (renamed_nodes base done t)
renamed_nodes base done (Flip t) = ap suc (renamed_nodes base done t)
renamed_nodes base done (Not t) = ap suc (renamed_nodes base done t)
renamed_nodes base done (Neg t) = ap suc (renamed_nodes base done t)
renamed_nodes base done (Binary op a b) = grind (arith, renamed_nodes base done a, renamed_nodes base done b)
renamed_nodes base done t = grind arith

arm_size : (base : ℕ) (done : List ℕ) (ops : List Op) → sum_by op_nodes (arm base done ops) ≡ all_nodes ops
arm_size base done [] = refl
arm_size base done (Assign x t ∷ ops) = let a = renamed_nodes base done t in
    let b = arm_size base (added done x) ops in let c = sum_by-cons op_nodes
    (Assign (base + x) (renamed base done t)) (arm base (added done x) ops) in omega (arith, a, b, c)
arm_size base done (Store a t u ∷ ops) = let b = arm_size base done ops in omega (arith, b)
arm_size base done (Print t ∷ ops) = let b = arm_size base done ops in omega (arith, b)
arm_size base done (Read x ∷ ops) = let b = arm_size base done ops in omega (arith, b)
arm_size base done (Give p x ∷ ops) = let b = arm_size base done ops in omega (arith, b)
arm_size base done (Take p t ∷ ops) = let b = arm_size base done ops in omega (arith, b)
arm_size base done (Choose x t a b ∷ ops) = let b = arm_size base done ops in omega (arith, b)
arm_size base done (Tick n ∷ ops) = let b = arm_size base done ops in omega (arith, b)
arm_size base done (TickBy t n m ∷ ops) = let b = arm_size base done ops in omega (arith, b)

arm_count : (base : ℕ) (done : List ℕ) (ops : List Op) → length (arm base done ops) ≤ all_nodes ops
arm_count base done [] = omega arith
arm_count base done (Assign x t ∷ ops) = grind (arith, some_nodes, arm_count base (added done x) ops)
arm_count base done (Store a t u ∷ ops) = let b = arm_count base done ops in omega (arith, b)
arm_count base done (Print t ∷ ops) = let b = arm_count base done ops in omega (arith, b)
arm_count base done (Read x ∷ ops) = let b = arm_count base done ops in omega (arith, b)
arm_count base done (Give p x ∷ ops) = let b = arm_count base done ops in omega (arith, b)
arm_count base done (Take p t ∷ ops) = let b = arm_count base done ops in omega (arith, b)
arm_count base done (Choose x t a b ∷ ops) = let b = arm_count base done ops in omega (arith, b)
arm_count base done (Tick n ∷ ops) = let b = arm_count base done ops in omega (arith, b)
arm_count base done (TickBy t n m ∷ ops) = let b = arm_count base done ops in omega (arith, b)

-- the variables that it writes

pub added_count : (done : List ℕ) (x : ℕ) → length (added done x) ≤ suc (length done)
added_count done x = grind (arith, length-append)

pub written_count : (done : List ℕ) (ops : List Op) → length (written done ops) ≤ length done + all_nodes ops
written_count done [] = omega arith
written_count done (Assign x t ∷ ops) = grind (
  arith,
  some_nodes,
  added_count,
  written_count (added done x) ops,
)
written_count done (Store a t u ∷ ops) = let b = written_count done ops in omega (arith, b)
written_count done (Print t ∷ ops) = let b = written_count done ops in omega (arith, b)
written_count done (Read x ∷ ops) = let b = written_count done ops in omega (arith, b)
written_count done (Give p x ∷ ops) = let b = written_count done ops in omega (arith, b)
written_count done (Take p t ∷ ops) = let b = written_count done ops in omega (arith, b)
written_count done (Choose x t a b ∷ ops) = let b = written_count done ops in omega (arith, b)
written_count done (Tick n ∷ ops) = let b = written_count done ops in omega (arith, b)
written_count done (TickBy t n m ∷ ops) = let b = written_count done ops in omega (arith, b)

-- a sum over two lists
pub sum_both : (f : Op → ℕ) (xs ys : List Op) → sum_by f (xs ++ ys) ≡ sum_by f xs + sum_by f ys
sum_both f xs ys = sum_by-append f xs ys

held_nodes : (c : Bool) (v : ℕ) (either : List ℕ) (t : Term) → is_still either t ≡ c
    → term_nodes (test_if c v t) ≡ 1
held_nodes c v either t e = grind arith

keep_count : (c : Bool) (v : ℕ) (t : Term) → length (keep_test c v t) ≤ 1
keep_count c v t = grind arith

keep_size : (c : Bool) (v : ℕ) (t : Term) → sum_by op_nodes (keep_test c v t) ≤ term_nodes t
keep_size c v t = grind arith

-- what stands for a short branch: the variables that are chosen, the operations behind its test, and its
-- turns
module _ (live : List (List ℕ)) (v : ℕ) (s : Short) where
  abbrev pub chosen : List ℕ
  chosen = filter (has live s.join) (written_by s)

  abbrev pub arms : List Op
  arms = arm (first_base v) [] s.first ++ (arm (second_base v) [] s.second ++ choices live v s)

  abbrev pub turns : Op
  turns = TickBy (test_of v s) (turns_of s.first) (turns_of s.second)

module _ (live : List (List ℕ)) (v : ℕ) (s : Short) (few : all_nodes s.first + all_nodes s.second
    ≤ most_nodes) where
  test_nodes : term_nodes (test_of v s) ≡ 1
  test_nodes = held_nodes (is_still (written_by s) s.test) v (written_by s) s.test refl

  choices_size : (xs : List ℕ) → sum_by op_nodes (map (choice v s) xs) ≡ 3 * length xs
  choices_size [] = refl
  choices_size (x ∷ xs) = let a = test_nodes in let r = choices_size xs in
      let c = sum_by-cons op_nodes (choice v s x) (map (choice v s) xs) in omega (arith, a, r, c)

  pub chosen_count : length (chosen live v s) ≤ most_nodes
  chosen_count = grind (arith, filter_count, written_count)

  -- how many operations stand for a short branch
  pub joining_count : length (joining live v s) ≤ most_more_ops
  joining_count = grind (arith, arm_count, chosen_count, map_count, keep_count, length-append)

  -- how many nodes they have
  pub joining_size : sum_by op_nodes (joining live v s) ≤ term_nodes s.test + most_more_nodes
  joining_size =
      let a = arm_size (first_base v) [] s.first in
      let b = arm_size (second_base v) [] s.second in
      let c = chosen_count in
      let d = choices_size (chosen live v s) in
      let e = keep_size (is_still (written_by s) s.test) v s.test in
      let f = sum_both op_nodes (keep_test (is_still (written_by s) s.test) v s.test)
      (turns live v s ∷ arms live v s) in
      let i = sum_both op_nodes (arm (first_base v) [] s.first)
      (arm (second_base v) [] s.second ++ choices live v s) in
      let j = sum_both op_nodes (arm (second_base v) [] s.second) (choices live v s) in
      let k = test_nodes in
      let l = sum_by-cons op_nodes (turns live v s) (arms live v s) in
      omega (arith, a, b, c, d, e, f, i, j, k, l, few)

module _ (g : Graph) (live : List (List ℕ)) where
  abbrev h : Graph
  h = joined g live

  -- a block whose exit is this short branch
  is_joined : (b : ℕ) (x : Exit) (s : Short) → (block_at g b).exit ≡ x → short g x ≡ Some s → JoinedAt g h b
  is_joined b (Branch t c d) s e f = record {
    test = t;
    first = c;
    second = d;
    short = s;
    branch = e;
    is = ways g t c d s f;
    goes = grind (arith, block_is);
    sets = live;
    vars = (spot_at g b).vars;
    ops = grind (arith, block_is);
  }
  is_joined b (Goto c) s e f = absurd (cc)
  is_joined b (Call r c ts back) s e f = absurd (cc)
  is_joined b (Return t) s e f = absurd (cc)
  is_joined b (Send t ts ls) s e f = absurd (cc)
  is_joined b Stop s e f = absurd (cc)

  -- every short branch is joined, and all other blocks are the same
  pub short_joined : ShortJoined g h
  short_joined = record {
    every = λ b t c d s e i. let r = found g t c d s i in is_joined b (Branch t c d) r.0 e r.1;
    others = λ b. by_short b (short g (block_at g b).exit) refl;
  }
    where
      by_short : (b : ℕ) (r : Option Short) → short g (block_at g b).exit ≡ r → (block_at h b ≡ block_at g b)
          ⊎ JoinedAt g h b
      by_short b None e = inl (block_is g live b ∙ ap (joined_if live (spot_at g b).vars (block_at g b)) e)
      by_short b (Some s) e = inr (is_joined b (block_at g b).exit s refl e)

  exit_has : (x : Exit) (s : Short) → short g x ≡ Some s → (exit_nodes x ≡ term_nodes s.test)
      × (all_nodes s.first + all_nodes s.second ≤ most_nodes)
  exit_has x s e = grind (arith, ways)

  -- how many operations stand for a short branch
  pub joining_few : (b v : ℕ) (s : Short) → short g (block_at g b).exit ≡ Some s
      → length (joining live v s) ≤ most_more_ops
  joining_few b v s e = joining_count live v s (exit_has (block_at g b).exit s e).1

  ops_kept : (b : ℕ) (v : ℕ) (r : Option Short) → short g (block_at g b).exit ≡ r
      → length (joined_if live v (block_at g b) r).ops ≤ length (block_at g b).ops + most_more_ops
  ops_kept b v None e = omega arith
  ops_kept b v (Some s) e = let a = joining_count live v s (exit_has (block_at g b).exit s e).1 in
      omega (arith, a, length-append (block_at g b).ops (joining live v s))

  -- how many nodes a block has more
  pub nodes_kept : (b : ℕ) (v : ℕ) (r : Option Short) → short g (block_at g b).exit ≡ r
      → block_nodes (joined_if live v (block_at g b) r) ≤ block_nodes (block_at g b) + most_more_nodes
  nodes_kept b v r e = grind (arith, exit_has, joining_size, sum_both)

  -- as many blocks, not much larger ones
  pub sizes_kept : SizesKept g h
  sizes_kept = grind (arith, spots_count, block_is, ops_kept, nodes_kept)
