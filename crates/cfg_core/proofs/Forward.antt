-- Where each edge leads forward, or to a block that takes a turn, no cycle is without one.
use Rattle.std.proofs.Common.{ℕ, suc, ◌+◌, ◌≡◌, ◌<◌, ◌⊎◌, nat_lt, Bool, true, false, ◌&&◌, ◌||◌, List}
use Rattle.std.proofs.Common.{[], ◌∷◌, inl, inr, arith}
use Rattle.std.proofs.lemmas.Bool.Decides.{nat_tests}
use Rattle.cfg_core.specs.Graph.{Exit, Goto, Branch, Call, Return, Send, Stop, Graph, Spot, no_spot, spots}
use Rattle.cfg_core.specs.Graph.{spot_at, block_at}
use Rattle.cfg_core.specs.Rules.{Leads, has_turn, Quiet, one, more}
use Rattle.ws_words.proofs.Bools.{and_left, and_right, no_both}
use Rattle.ws_words.specs.Items.{nth, or_else, In}

-- each edge of an exit leads to a later block or to one that takes a turn
abbrev pub OnlyOn : Graph → ℕ → Exit → Type 0
OnlyOn g c exit = (d : ℕ) → Leads exit d → (c < d) ⊎ (has_turn (block_at g d).ops ≡ true)

-- the same of a list of blocks, the first of which has this number
abbrev pub AllOn : Graph → ℕ → List Spot → Type 0
AllOn g c [] = Unit {0}
AllOn g c (s ∷ xs) = OnlyOn g c s.block.exit × AllOn g (suc c) xs

pub starts_quiet : (g : Graph) (b c : ℕ) → Quiet g b c → has_turn (block_at g b).ops ≡ false
starts_quiet g b c (one _ _ h l) = h
starts_quiet g b c (more _ d _ q h l) = starts_quiet g b d q

on_at : (g : Graph) (b : ℕ) (xs : List Spot) → AllOn g b xs → (k c : ℕ) → c ≡ k + b
    → OnlyOn g c (or_else (nth xs k) no_spot).block.exit
unfolding no_spot
on_at g b (s ∷ xs) h (suc k) c e = on_at g (suc b) xs h.1 k c (omega (arith, e))
on_at g b xs h k c e = grind arith

module _ (g : Graph) (all : AllOn g 0 (spots g)) where
  only_on : (b : ℕ) → OnlyOn g b (block_at g b).exit
  unfolding spot_at
  only_on b = on_at g 0 (spots g) all b b (omega arith)

  forward : (b c : ℕ) → Quiet g b c → (b < c) ⊎ (has_turn (block_at g c).ops ≡ true)
  forward b c (one _ _ h l) = only_on b c l
  forward b c (more _ d _ q h l) = grind (arith, only_on, no_both, forward b d q)

  pub no_quiet_cycle : (b : ℕ) → Quiet g b b → ⊥
  no_quiet_cycle b q = grind (arith, forward, no_both, starts_quiet)

-- the same as a test
abbrev pub edge_on : Graph → ℕ → ℕ → Bool
edge_on g c d = nat_lt c d || has_turn (block_at g d).ops

-- whether each of these blocks is a later one or takes a turn
abbrev pub edges_on : Graph → ℕ → List ℕ → Bool
edges_on g c [] = true
edges_on g c (l ∷ ls) = edge_on g c l && edges_on g c ls

-- the test of the edges of an exit
abbrev pub exit_on : Graph → ℕ → Exit → Bool
exit_on g c (Goto b) = edge_on g c b
exit_on g c (Branch t a b) = edge_on g c a && edge_on g c b
exit_on g c (Call x f ts back) = edge_on g c back
exit_on g c (Return t) = true
exit_on g c (Send t ts ls) = edges_on g c ls
exit_on g c Stop = true

-- the test of blocks, the first of which has this number
abbrev pub all_on : Graph → ℕ → List Spot → Bool
all_on g c [] = true
all_on g c (s ∷ xs) = exit_on g c s.block.exit && all_on g (suc c) xs

edge_is : (g : Graph) (c d e : ℕ) → e ≡ d → edge_on g c d ≡ true → (c < e)
    ⊎ (has_turn (block_at g e).ops ≡ true)
edge_is g c d e same h = grind (arith, nat_lt, nat_tests)

edges_are : (g : Graph) (c : ℕ) (ls : List ℕ) → edges_on g c ls ≡ true → (e : ℕ) → In e ls
    → (c < e) ⊎ (has_turn (block_at g e).ops ≡ true)
edges_are g c [] h e i = absurd i
edges_are g c (l ∷ ls) h e (inl same) = edge_is g c l e same (and_left (edge_on g c l) _ h)
edges_are g c (l ∷ ls) h e (inr i) = edges_are g c ls (and_right (edge_on g c l) _ h) e i

exit_is : (g : Graph) (c : ℕ) (exit : Exit) → exit_on g c exit ≡ true → OnlyOn g c exit
exit_is g c exit h = grind (arith, edge_is, and_left, and_right, edges_are)

all_are : (g : Graph) (c : ℕ) (xs : List Spot) → all_on g c xs ≡ true → AllOn g c xs
all_are g c [] h = tt
all_are g c (s ∷ xs) h = (
  exit_is g c s.block.exit (and_left (exit_on g c s.block.exit) _ h),
  all_are g (suc c) xs (and_right (exit_on g c s.block.exit) _ h),
)

-- where that test holds of all blocks, no quiet path comes back
pub tested : (g : Graph) → all_on g 0 (spots g) ≡ true → (b : ℕ) → Quiet g b b → ⊥
tested g h = no_quiet_cycle g (all_are g 0 (spots g) (h))
