-- What turns of the joined graph pay for.
use Rattle.std.proofs.Common.{ℕ, suc, ◌+◌, ◌*◌, ◌≡◌, ◌<◌, ◌≤◌, min, Bool, true, List, []}
use Rattle.std.proofs.Common.{◌∷◌, ◌++◌, length, map, Option, Some, refl, ◌∙◌, arith}
use Rattle.std.specs.List.{filter, sum_by}
use Rattle.std.proofs.lemmas.List.Sums.{sum_by-cons}
use Rattle.std.proofs.Math.Nat.{mul-le-mul_left}
use Rattle.cfg_core.specs.Graph.{Term, Op, Assign, Store, Print, Read, Give, Take, Choose, Tick, TickBy, Exit}
use Rattle.cfg_core.specs.Graph.{Graph, spots, spot_at, block_at}
use Rattle.cfg_core.specs.Rules.{IsGraph}
use Rattle.cfg_core.specs.Weights as weights
use Rattle.cfg_core.specs.Weights.{turns_at, acts_of, jumps_of, block_nodes, handed_on, first_block}
use Rattle.cfg_core.specs.Weights.{TwoBlocksATurn, TurnsPayWork}
use Rattle.live_vars.specs.Marks.{has}
use Rattle.phi_conv.specs.Short.{Short, is_bare, all_light, short}
use Rattle.phi_conv.specs.IsShort.{Way}
use Rattle.phi_conv.specs.Joined.{first_base, second_base, turns_of, added, arm, written_by, is_still}
use Rattle.phi_conv.specs.Joined.{keep_test, test_of, choice, choices, joining, joined_if, joined}
use Rattle.phi_conv.specs.Keeps.{most_more_ops, most_more_nodes, TurnsPayMost}
use Rattle.phi_conv.proofs.Ways.{ways}
use Rattle.phi_conv.proofs.Placing.{spots_count, block_is, entry_is}
use Rattle.phi_conv.proofs.Sizing.{sum_both, joining_few, nodes_kept}
use Rattle.ws_words.proofs.Lists.{length_map as map_count}
use Rattle.ws_words.proofs.Bools.{and_right as right_true}
use Rattle.cfg_core.proofs.Spots.{numbers_at}

-- the turns of what stands for a short branch

arm_turns : (base : ℕ) (done : List ℕ) (ops : List Op) → sum_by weights.turns_of (arm base done ops) ≡ 0
arm_turns base done [] = refl
arm_turns base done (Assign x t ∷ ops) = grind (arith, sum_by-cons, arm_turns base (added done x) ops)
arm_turns base done (Store a t u ∷ ops) = arm_turns base done ops
arm_turns base done (Print t ∷ ops) = arm_turns base done ops
arm_turns base done (Read x ∷ ops) = arm_turns base done ops
arm_turns base done (Give p x ∷ ops) = arm_turns base done ops
arm_turns base done (Take p t ∷ ops) = arm_turns base done ops
arm_turns base done (Choose x t a b ∷ ops) = arm_turns base done ops
arm_turns base done (Tick n ∷ ops) = arm_turns base done ops
arm_turns base done (TickBy t n m ∷ ops) = arm_turns base done ops

choices_turns : (v : ℕ) (s : Short) (xs : List ℕ) → sum_by weights.turns_of (map (choice v s) xs) ≡ 0
choices_turns v s [] = refl
choices_turns v s (x ∷ xs) = grind (arith, sum_by-cons, choices_turns v s xs)

keep_turns : (c : Bool) (v : ℕ) (t : Term) → sum_by weights.turns_of (keep_test c v t) ≡ 0
keep_turns c v t = grind arith

light_turns : (ops : List Op) → all_light ops ≡ true → sum_by weights.turns_of ops ≡ turns_of ops
light_turns (Assign x t ∷ ops) l = grind (
  arith,
  sum_by-cons,
  right_true,
  light_turns ops (right_true (is_bare t) (all_light ops) l),
)
light_turns (Tick n ∷ ops) l = sum_by-cons weights.turns_of (Tick n) ops
    ∙ (let r = light_turns ops l in omega (arith, r))
light_turns ops l = grind arith

one_act : (op : Op) → acts_of op ≤ 1
one_act op = grind arith

few_acts : (ops : List Op) → sum_by acts_of ops ≤ length ops
few_acts [] = omega arith
few_acts (op ∷ ops) = let a = one_act op in let r = few_acts ops in let c = sum_by-cons acts_of op ops in
    omega (arith, a, r, c)

joining_turns : (live : List (List ℕ)) (v : ℕ) (s : Short) → sum_by weights.turns_of (joining live v s)
    ≡ min (turns_of s.first) (turns_of s.second)
joining_turns live v s =
    let turns : Op = TickBy (test_of v s) (turns_of s.first) (turns_of s.second) in
    let arms : List Op = arm (first_base v) [] s.first ++ (arm (second_base v) [] s.second ++ choices live v
    s) in
    let a = keep_turns (is_still (written_by s) s.test) v s.test in
    let b = arm_turns (first_base v) [] s.first in
    let c = arm_turns (second_base v) [] s.second in
    let d = choices_turns v s (filter (has live s.join) (written_by s)) in
    let e = sum_both weights.turns_of (keep_test (is_still (written_by s) s.test) v s.test) (turns ∷ arms) in
    let f = sum_both weights.turns_of (arm (first_base v) [] s.first)
    (arm (second_base v) [] s.second ++ choices live v s) in
    let i = sum_both weights.turns_of (arm (second_base v) [] s.second) (choices live v s) in
    let j = sum_by-cons weights.turns_of turns arms in
    omega (arith, a, b, c, d, e, f, i, j)

module _ (g : Graph) (live : List (List ℕ)) where
  abbrev h : Graph
  h = joined g live

  more_turns : (b : ℕ) (r : Option Short) → turns_at g b ≤ sum_by weights.turns_of
      (joined_if live (spot_at g b).vars (block_at g b) r).ops
  more_turns b r = grind (arith, sum_both)

  turns_kept : (b : ℕ) → turns_at g b ≤ turns_at h b
  turns_kept b = grind (arith, block_is, more_turns)

  exit_handed : (p : ℕ → ℕ) (x : Exit) → handed_on h p x ≡ handed_on g p x
  exit_handed p x = grind (arith, entry_is)

  module _ (rules : IsGraph g) (two : TwoBlocksATurn g) where
    abbrev p : ℕ → ℕ
    p = two.potential

    by_way : (c j : ℕ) (ops : List Op) → c < length (spots g) → Way g c j ops → p j ≤ p c + 2 * turns_of ops
    by_way c j ops lt h = grind (arith, light_turns)

    by_exit : (b : ℕ) (v : ℕ) (x : Exit) (s : Short) → b < length (spots g) → (block_at g b).exit ≡ x
        → short g x ≡ Some s → 1 + p s.join ≤ p b + 2 * sum_by weights.turns_of
        ((block_at g b).ops ++ joining live v s)
    by_exit b v x s lt e f = grind (arith, numbers_at, ways, by_way, s.first, sum_both, joining_turns)

    by_short : (b : ℕ) (v : ℕ) (r : Option Short) → b < length (spots g) → short g (block_at g b).exit ≡ r →
        1 + handed_on h p (joined_if live v (block_at g b) r).exit ≤ p b + 2 * sum_by weights.turns_of
        (joined_if live v (block_at g b) r).ops
    by_short b v r lt e = grind (arith, exit_handed, by_exit)

    begins_there : first_block h ≡ first_block g
    begins_there = grind (arith, map_count, entry_is)

    -- a turn pays for two blocks, by the same potential
    pub two_blocks_still : TwoBlocksATurn h
    two_blocks_still = grind (arith, block_is, by_short, spots_count, begins_there)

  branches : (x : Exit) (s : Short) → short g x ≡ Some s → jumps_of x ≡ 1
  branches x s e = grind arith

  module _ (most : ℕ) (pays : TurnsPayWork g most) where
    acts_by : (b : ℕ) (r : Option Short) → short g (block_at g b).exit ≡ r
        → sum_by acts_of (joined_if live (spot_at g b).vars (block_at g b) r).ops + jumps_of
        (joined_if live (spot_at g b).vars (block_at g b) r).exit ≤ suc most_more_ops * turns_at g b
    acts_by b r e = grind (arith, pays.acts, sum_both, few_acts, joining_few, branches)

    nodes_by : (b : ℕ) (r : Option Short) → short g (block_at g b).exit ≡ r
        → block_nodes (joined_if live (spot_at g b).vars (block_at g b) r) ≤ (most + most_more_nodes)
        * turns_at g b + 1
    nodes_by b r e = grind (arith, pays.nodes, pays.acts, branches, nodes_kept)

    -- the acts, jumps and nodes of a block are paid for by its turns
    pub turns_pay_most : TurnsPayMost h most
    turns_pay_most = grind (arith, block_is, acts_by, turns_kept, nodes_by, mul-le-mul_left)
