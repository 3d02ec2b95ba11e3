-- What the joined graph's operations and exits name exists.
use Rattle.std.proofs.Common.{ℕ, ◌+◌, ◌≡◌, ◌<◌, ◌≤◌, Bool, if◌then◌else◌, List, [], ◌∷◌, length}
use Rattle.std.proofs.Common.{Option, Some, sym, subst, arith}
use Rattle.std.specs.List.{AllByRecursion, filter}
use Rattle.cfg_core.specs.Graph.{Term, Cell, Flip, Not, Neg, Binary, Op, Assign, Store, Print, Read, Give}
use Rattle.cfg_core.specs.Graph.{Take, Choose, Tick, TickBy, Exit, Branch, Graph, spots, spot_at, block_at}
use Rattle.cfg_core.specs.Rules.{TermIn, OpIn, StaysIn, TargetIn, ExitIn, IsGraph}
use Rattle.live_vars.specs.Marks.{has}
use Rattle.phi_conv.specs.Short.{Short, short_to}
use Rattle.phi_conv.specs.Joined.{first_base, second_base, more_vars, is_among, copied, added, renamed, arm}
use Rattle.phi_conv.specs.Joined.{written, written_by, is_still, keep_test, test_if, choice, choices, joining}
use Rattle.phi_conv.specs.Joined.{joined}
use Rattle.phi_conv.proofs.Picked.{written_low}
use Rattle.phi_conv.specs.IsShort.{Way, direct, through}
use Rattle.phi_conv.proofs.Ways.{ways}
use Rattle.phi_conv.proofs.Placing.{spots_count, spot_is, proc_is}
use Rattle.cfg_core.proofs.Homes.{vars_at, same_vars}
use Rattle.ws_words.proofs.Lists.{all_append as all_both, all_mapped, all_with as all_so}
use Rattle.ws_words.proofs.Lists.{length_map as map_count}
use Rattle.cfg_core.proofs.Spots.{all_from, filter_in, numbers_at}

if_below : (b : Bool) (m n w : ℕ) → m < w → n < w → (if b then m else n) < w
if_below b m n w h i = grind arith

module _ (g : Graph) (live : List (List ℕ)) where
  abbrev h : Graph
  h = joined g live

  module _ (v w : ℕ) (le : v ≤ w) where
    -- a term that names what exists does so in a larger procedure of the joined graph
    pub term_more : (t : Term) → TermIn (length g.arrays) v t → TermIn (length h.arrays) w t
    term_more (Cell a t) i = (i.0, term_more t i.1)
    term_more (Flip t) i = term_more t i
    term_more (Not t) i = term_more t i
    term_more (Neg t) i = term_more t i
    term_more (Binary op a b) i = (term_more a i.0, term_more b i.1)
    term_more t i = grind (arith, le)

    less_more : (x : ℕ) → x < v → x < w
    less_more x i = omega (arith, i, le)

    -- so does an operation
    pub op_more : (op : Op) → OpIn (length g.arrays) v op → OpIn (length h.arrays) w op
    op_more op i = grind (arith, less_more, term_more)

    result_more : (x : Option ℕ) → TargetIn v x → TargetIn w x
    result_more x i = grind (arith, less_more)

    -- a block of the procedure is one in the joined graph
    pub stays_too : (home b : ℕ) → StaysIn g home b → StaysIn h home b
    stays_too home b i = grind (arith, spots_count, spot_is)

    -- an exit that names what exists does so in the joined graph
    pub exit_more : (home : ℕ) (x : Exit) → ExitIn g home v x → ExitIn h home w x
    exit_more home x i = grind (
      arith,
      stays_too,
      term_more,
      result_more,
      map_count,
      proc_is,
      all_so,
      spots_count,
    )

    module _ (base : ℕ) (room : base + v ≤ w) where
      -- a copy is a variable of the larger procedure
      pub copied_low : (done : List ℕ) (x : ℕ) → x < v → copied base done x < w
      copied_low done x lt = if_below (is_among done x) (base + x) x w (omega arith) (omega arith)

      renamed_in : (done : List ℕ) (t : Term) → TermIn (length g.arrays) v t
          → TermIn (length h.arrays) w (renamed base done t)
      renamed_in done (Cell a t) i = (i.0, renamed_in done t i.1)
      renamed_in done (Flip t) i = renamed_in done t i
      renamed_in done (Not t) i = renamed_in done t i
      renamed_in done (Neg t) i = renamed_in done t i
      renamed_in done (Binary op a b) i = (renamed_in done a i.0, renamed_in done b i.1)
      renamed_in done t i = grind (arith, copied_low)

      -- an arm on copies names what exists
      pub arm_in : (done : List ℕ) (ops : List Op) → AllByRecursion (OpIn (length g.arrays) v) ops
          → AllByRecursion (OpIn (length h.arrays) w) (arm base done ops)
      arm_in done [] i = tt
      arm_in done (Assign x t ∷ ops) i = (grind (arith, renamed_in), arm_in (added done x) ops i.1)
      arm_in done (Store a t u ∷ ops) i = arm_in done ops i.1
      arm_in done (Print t ∷ ops) i = arm_in done ops i.1
      arm_in done (Read x ∷ ops) i = arm_in done ops i.1
      arm_in done (Give p x ∷ ops) i = arm_in done ops i.1
      arm_in done (Take p t ∷ ops) i = arm_in done ops i.1
      arm_in done (Choose x t a b ∷ ops) i = arm_in done ops i.1
      arm_in done (Tick n ∷ ops) i = arm_in done ops i.1
      arm_in done (TickBy t n m ∷ ops) i = arm_in done ops i.1

  -- what stands for a short branch of a procedure with v variables
  module _ (v : ℕ) (s : Short) (test : TermIn (length g.arrays) v s.test)
      (first : AllByRecursion (OpIn (length g.arrays) v) s.first)
      (second : AllByRecursion (OpIn (length g.arrays) v) s.second) where
    abbrev w : ℕ
    w = more_vars v

    le : v ≤ w
    le = omega arith

    held_in : (c : Bool) (t : Term) → TermIn (length g.arrays) v t
        → TermIn (length h.arrays) w (test_if c v t)
    held_in c t i = grind (arith, term_more, le)

    keep_in : (c : Bool) (t : Term) → TermIn (length g.arrays) v t → AllByRecursion (OpIn (length h.arrays) w)
        (keep_test c v t)
    keep_in c t i = grind (arith, term_more, le)

    choice_in : (x : ℕ) → x < v → OpIn (length h.arrays) w (choice v s x)
    choice_in x lt = grind (arith, held_in, copied_low, le)

    choices_in : AllByRecursion (OpIn (length h.arrays) w) (choices live v s)
    choices_in = all_mapped (OpIn (length h.arrays) w) (choice v s) (filter (has live s.join) (written_by s))
        (all_from (λ x. OpIn (length h.arrays) w (choice v s x)) (filter (has live s.join) (written_by s))
        (λ x i. choice_in x (written_low g v (written [] s.first) s.second second
        (written_low g v [] s.first first (λ y z. absurd z)) x
        (filter_in (has live s.join) (written_by s) x i).0)))

    -- what stands for a short branch names what exists
    pub joining_in : AllByRecursion (OpIn (length h.arrays) w) (joining live v s)
    joining_in =
        all_both (OpIn (length h.arrays) w) (keep_test (is_still (written_by s) s.test) v s.test) _
        (keep_in (is_still (written_by s) s.test) s.test test) (
          held_in (is_still (written_by s) s.test) s.test test,
          all_both (OpIn (length h.arrays) w) (arm (first_base v) [] s.first) _
              (arm_in v w le (first_base v) (omega arith) [] s.first first)
              (all_both (OpIn (length h.arrays) w) (arm (second_base v) [] s.second) (choices live v s)
              (arm_in v w le (second_base v) (omega arith) [] s.second second) choices_in),
        )

-- of a short branch in block b: its join is a block of the same procedure, and its arms name what exists
module _ (g : Graph) (rules : IsGraph g) (b : ℕ) (there : b < length (spots g)) where
  abbrev V : ℕ → ℕ
  V n = vars_at g rules n

  way_in : (c j : ℕ) (ops : List Op) → StaysIn g (spot_at g b).home c → Way g c j ops
      → AllByRecursion (OpIn (length g.arrays) (V b)) ops
  way_in c j ops stays (direct e empty) = grind arith
  way_in c j ops stays (through same exit light) =
      subst (λ (o : List Op). AllByRecursion (OpIn (length g.arrays) (V b)) o) (sym same)
      (subst (λ n. AllByRecursion (OpIn (length g.arrays) n) (block_at g c).ops)
      (same_vars g rules b c there stays.0 stays.1) (numbers_at g rules c).ops)

  way_stays : (c j : ℕ) (ops : List Op) → StaysIn g (spot_at g b).home c → Way g c j ops
      → StaysIn g (spot_at g b).home j
  way_stays c j ops stays h = grind (arith, numbers_at)

  module _ (t : Term) (c d : ℕ) (s : Short) (exit : ExitIn g (spot_at g b).home (V b) (Branch t c d))
      (short : short_to g t c d ≡ Some s) where
    -- the join is a block of the same procedure
    pub join_stays : StaysIn g (spot_at g b).home s.join
    join_stays = way_stays c s.join s.first exit.1 (ways g t c d s short).first

    -- the first arm names what exists
    pub first_in : AllByRecursion (OpIn (length g.arrays) (V b)) s.first
    first_in = way_in c s.join s.first exit.1 (ways g t c d s short).first

    -- so does the second
    pub second_in : AllByRecursion (OpIn (length g.arrays) (V b)) s.second
    second_in = way_in d s.join s.second exit.2 (ways g t c d s short).second

    -- so does the test
    pub test_in : TermIn (length g.arrays) (V b) s.test
    test_in = subst (TermIn (length g.arrays) (V b)) (sym (ways g t c d s short).test) exit.0
