-- A path of the joined graph that may take no turn is one of the given graph.
use Rattle.std.proofs.Common.{ℕ, zero, ◌≡◌, ◌⊎◌, true, false, List, [], ◌∷◌, ◌++◌, Option}
use Rattle.std.proofs.Common.{Some, None, refl, sym, subst, inl, inr, arith}
use Rattle.cfg_core.specs.Graph.{Term, Op, Assign, Tick, TickBy, Exit, Branch, Graph, spot_at, block_at}
use Rattle.cfg_core.specs.Rules.{takes_turn, has_turn, Leads, Quiet, one, more}
use Rattle.phi_conv.specs.Short.{Short, is_bare, all_light, short, short_to}
use Rattle.phi_conv.specs.Joined.{written_by, first_base, second_base, turns_of, arm, is_still, keep_test}
use Rattle.phi_conv.specs.Joined.{test_of, choices, joining, joined_if, joined}
use Rattle.phi_conv.specs.IsShort.{Way, direct, through}
use Rattle.phi_conv.proofs.Ways.{ways}
use Rattle.phi_conv.proofs.Placing.{block_is}
use Rattle.cfg_core.proofs.Quiet.{quiet_left}
use Rattle.ws_words.proofs.Bools.{either_right, and_right as right_true}

quiet_right : (xs ys : List Op) → has_turn (xs ++ ys) ≡ false → has_turn ys ≡ false
quiet_right [] ys e = e
quiet_right (x ∷ xs) ys e = grind (
  arith,
  either_right,
  quiet_right xs ys (either_right (takes_turn x) (has_turn (xs ++ ys)) e),
)

quiet_head : (x : Op) (xs : List Op) → has_turn (x ∷ xs) ≡ false → takes_turn x ≡ false
quiet_head x xs e = grind arith

-- turns by a test that may be none are none for one of the two
none_of_two : (t : Term) (n m : ℕ) → takes_turn (TickBy t n m) ≡ false → (n ≡ 0) ⊎ (m ≡ 0)
none_of_two t n m e = grind arith

light_quiet : (ops : List Op) → all_light ops ≡ true → turns_of ops ≡ 0 → has_turn ops ≡ false
light_quiet (Assign x t ∷ ops) l e = grind (
  arith,
  right_true,
  light_quiet ops (right_true (is_bare t) (all_light ops) l) e,
)
light_quiet (Tick zero ∷ ops) l e = light_quiet ops l (omega (arith, e))
light_quiet ops l e = grind arith

quiet_path : (g : Graph) (a b c : ℕ) → Quiet g a b → Quiet g b c → Quiet g a c
quiet_path g a b c p (one d e quiet leads) = more a d e p quiet leads
quiet_path g a b c p (more d e f q quiet leads) = more a e f (quiet_path g a d e p q) quiet leads

module _ (g : Graph) (live : List (List ℕ)) where
  abbrev h : Graph
  h = joined g live

  module _ (b v : ℕ) (quiet : has_turn (block_at g b).ops ≡ false) where
    -- by a way without turns, out of a block that takes none
    by_way : (c j : ℕ) (ops : List Op) → Leads (block_at g b).exit c → turns_of ops ≡ 0 → Way g c j ops
        → Quiet g b j
    by_way c j ops leads none (direct e empty) = subst (Quiet g b) e (one b c quiet leads)
    by_way c j ops leads none (through same exit light) =
        let at : has_turn (block_at g c).ops ≡ false = grind (arith, light_quiet) in
        more b c j (one b c quiet leads) at (subst (λ (x : Exit). Leads x j) (sym exit) refl)

    by_branch : (t : Term) (c d : ℕ) (s : Short) → (block_at g b).exit ≡ Branch t c d
        → short_to g t c d ≡ Some s → has_turn (joining live v s) ≡ false → Quiet g b s.join
    by_branch t c d s is short none =
        let w = ways g t c d s short in
        let rest : List Op = arm (first_base v) [] s.first ++ (arm (second_base v) [] s.second ++ choices live
        v s) in
        let by : Op = TickBy (test_of v s) (turns_of s.first) (turns_of s.second) in
        let tail = quiet_right (keep_test (is_still (written_by s) s.test) v s.test) (by ∷ rest) none in
        elim (none_of_two (test_of v s) (turns_of s.first) (turns_of s.second) (quiet_head by rest tail)) [
          | inl e ↦ by_way c s.join s.first (subst (λ (x : Exit). Leads x c) (sym is) (inl refl)) e w.first
          | inr e ↦ by_way d s.join s.second (subst (λ (x : Exit). Leads x d) (sym is) (inr refl)) e w.second
        ]

    by_exit : (x : Exit) (s : Short) → (block_at g b).exit ≡ x → short g x ≡ Some s
        → has_turn (joining live v s) ≡ false → Quiet g b s.join
    by_exit x s is e none = grind (arith, by_branch)

  -- an edge of the joined graph out of a block that may take no turn
  edge : (b c : ℕ) → has_turn (block_at h b).ops ≡ false → Leads (block_at h b).exit c → Quiet g b c
  edge b c quiet leads = grind (arith, by_short, block_is)
    where
      v : ℕ
      v = (spot_at g b).vars

      by_short : (found : Option Short) → short g (block_at g b).exit ≡ found
          → has_turn (joined_if live (spot_at g b).vars (block_at g b) found).ops ≡ false
          → Leads (joined_if live (spot_at g b).vars (block_at g b) found).exit c → Quiet g b c
      by_short None e q l = one b c q l
      by_short (Some s) e q l =
          subst (Quiet g b) (sym l)
          (by_exit b (spot_at g b).vars (quiet_left (block_at g b).ops (joining live (spot_at g b).vars s)
          q) (block_at g b).exit s refl e
          (quiet_right (block_at g b).ops (joining live (spot_at g b).vars s) q))

  -- a quiet path of the joined graph is one of the given graph
  pub quiet_before : (b c : ℕ) → Quiet h b c → Quiet g b c
  quiet_before b c (one d e quiet leads) = edge d e quiet leads
  quiet_before b c (more d e f p quiet leads) = grind (arith, quiet_path, edge, quiet_before d e p)
