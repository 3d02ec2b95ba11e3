-- A walk of any number of turns comes to an answer: each block makes it lighter.
use Rattle.std.proofs.Common.{ℕ, zero, suc, ◌+◌, ◌-◌, ◌*◌, ◌≡◌, ◌<◌, ◌≤◌, min, Bool, true, false, List}
use Rattle.std.proofs.Common.{◌∷◌, length, if◌then◌else◌, refl, arith}
use Rattle.ws_words.specs.Outside.{Outside, ProcState}
use Rattle.cfg_core.specs.Graph.{Exit, Goto, Branch, Call, Return, Send, Stop, Graph, Spot, no_spot, spots}
use Rattle.cfg_core.specs.Graph.{spot_at, block_at, entry_of}
use Rattle.cfg_core.specs.Walk.{value_of, values_of, OpsOutcome, Done, Out, run_ops, Frame, Config, At, Over}
use Rattle.cfg_core.specs.Walk.{Going, landing, returned, leave, passed, step, walk, IsOver}
use Rattle.cfg_core.specs.Rules.{Leads, has_turn, has_tick, calls, Lands, IsGraph}
use Rattle.cfg_core.proofs.Turns.{AtMost, Fewer, ops_most, ops_fewer, has_tick_turns}
use Rattle.cfg_core.proofs.Rank.{rank, rank_most, rank_falls}
use Rattle.ws_words.specs.Items.{In}
use Rattle.ws_words.proofs.Bools.{by_bool, no_both}
use Rattle.cfg_core.proofs.Spots.{each_at}
use Rattle.ws_words.proofs.Places.{in_place}

pub in_landing : (a : ℕ) (ls : List ℕ) → 1 ≤ length ls → In (landing a ls) ls
in_landing a ls some = in_place ls (min a (length ls - 1)) (omega arith)

-- what falls at each block of a walk: turns, calls that wait, and blocks without a turn
unfoldable pub weight : Graph → ℕ → ℕ → ℕ → ℕ
weight g frames turns b = (frames + 2 * turns) * suc (length (spots g)) + rank g b

-- a place of the walk weighs less than this
abbrev pub Lighter : Graph → ℕ → Config → Type 0
Lighter g w (At b s frames k) = weight g (length frames) k b < w
Lighter g w (Over o k) = Unit {0}
Lighter g w (Going o) = Unit {0}

more_rows : (n a b r q : ℕ) → a < b → r ≤ n → a * suc n + r < b * suc n + q
more_rows n a b r q lt le = grind arith

no_more_rows : (n a b r q : ℕ) → a ≤ b → r < q → a * suc n + r < b * suc n + q
no_more_rows n a b r q le lt = grind arith

module _ (g : Graph) where
  fewer_rounds : (f k e j b c : ℕ) → e + 2 * j < f + 2 * k → weight g e j c < weight g f k b
  unfolding weight
  fewer_rounds f k e j b c lt = more_rows (length (spots g)) (e + 2 * j) (f + 2 * k) (rank g c) (rank g b) lt
      (rank_most g c)

  lower_rank : (f k j b c : ℕ) → j ≤ k → rank g c < rank g b → weight g f j c < weight g f k b
  unfolding weight
  lower_rank f k j b c le lt = grind (arith, no_more_rows)

  if_lighter : (w : ℕ) (b : Bool) (c d : Config) → Lighter g w c → Lighter g w d
      → Lighter g w (if b then c else d)
  if_lighter w b c d h i = grind arith

  module _ (w : ℕ) (frames : List Frame) (k : ℕ) where
    returned_lighter : ((c : ℕ) (f : Frame) (fs : List Frame) → frames ≡ f ∷ fs
        → weight g (length fs) k c < w) → (v : ℕ) (o : Outside) (fs : List Frame) → frames ≡ fs
        → Lighter g w (returned v o fs k)
    returned_lighter small v o fs e = grind arith

    -- after a turn
    leave_turn : ((c : ℕ) (fs : List Frame) → length fs ≤ suc (length frames) → weight g (length fs) k c < w)
        → (exit : Exit) (s : ProcState) → Lighter g w (leave g exit s frames k)
    leave_turn small (Goto b) s = small b frames (omega arith)
    leave_turn small (Branch t a b) s = grind (arith, if_lighter, value_of)
    leave_turn small (Call x f ts back) s =
        small (entry_of g f) (record { result = x; back = back; vars = (values_of ts s).1.vars } ∷ frames)
        (omega arith)
    leave_turn small (Return t) s = grind (arith, returned_lighter)
    leave_turn small (Send t ts ls) s = small _ frames (omega arith)
    leave_turn small Stop s = tt

    -- along an edge
    leave_quiet : ((c : ℕ) (f : Frame) (fs : List Frame) → frames ≡ f ∷ fs → weight g (length fs) k c < w)
        → (exit : Exit) → Lands g exit → calls exit ≡ false
        → ((c : ℕ) → Leads exit c → weight g (length frames) k c < w) → (s : ProcState)
        → Lighter g w (leave g exit s frames k)
    leave_quiet small exit lands none edge s =
        grind (arith, if_lighter, value_of, no_both, returned_lighter, in_landing)

  passed_turn : (o : OpsOutcome) (exit : Exit) (frames : List Frame) (k b : ℕ) → Fewer k o
      → Lighter g (weight g (length frames) k b) (passed g o exit frames)
  passed_turn o exit frames k b lt = grind (arith, leave_turn, fewer_rounds)

  module _ (rules : IsGraph g) where
    -- the landings of a block fit what it sends
    pub lands_at : (b : ℕ) → Lands g (block_at g b).exit
    unfolding spot_at no_spot
    lands_at b = each_at (λ (s : Spot). Lands g s.block.exit) (spots g) no_spot rules.landings tt b

    ticks_at : (b : ℕ) → calls (block_at g b).exit ≡ true → has_tick (block_at g b).ops ≡ true
    unfolding spot_at no_spot
    ticks_at b = each_at (λ (s : Spot). calls s.block.exit ≡ true → has_tick s.block.ops ≡ true) (spots g)
        no_spot rules.call_ticks (λ e. absurd (no_both e refl)) b

    passed_quiet : (b : ℕ) → has_turn (block_at g b).ops ≡ false → (o : OpsOutcome) (frames : List Frame)
        (k : ℕ) → AtMost k o → Lighter g (weight g (length frames) k b)
        (passed g o (block_at g b).exit frames)
    passed_quiet b e (Done s j) frames k le = leave_quiet (weight g (length frames) k b) frames j
        (grind (arith, fewer_rounds))
        (block_at g b).exit (lands_at b) (no_call (calls (block_at g b).exit) refl)
        (grind (arith, lower_rank, rank_falls, rules.cycles)) s
      where
        no_call : (v : Bool) → calls (block_at g b).exit ≡ v → calls (block_at g b).exit ≡ false
        no_call v c = grind (arith, no_both, has_tick_turns, ticks_at)
    passed_quiet b e (Out o) frames k le = tt

    -- each block leads to a place that weighs less
    pub step_lighter : (b : ℕ) (s : ProcState) (frames : List Frame) (k : ℕ)
        → Lighter g (weight g (length frames) k b) (step g (At b s frames k))
    step_lighter b s frames k = by_bool (has_turn (block_at g b).ops)
        (Lighter g (weight g (length frames) k b) (step g (At b s frames k)))
        (λ e. passed_turn (run_ops (block_at g b).ops s k) (block_at g b).exit frames k b
        (ops_fewer (block_at g b).ops e s k))
        (λ e. passed_quiet b e (run_ops (block_at g b).ops s k) frames k (ops_most (block_at g b).ops s k))

    -- from a place the walk comes to an answer
    abbrev pub Comes : Config → Type 0
    Comes c = (n : ℕ) × IsOver (walk g n c)

    comes_below : (w : ℕ) (c : Config) → Lighter g w c → Comes c
    comes_below w (Over o k) h = (0, tt)
    comes_below w (Going o) h = (0, tt)
    comes_below zero (At b s frames k) h = absurd (omega arith)
    comes_below (suc w) (At b s frames k) h =
        let r = comes_below w (step g (At b s frames k))
        (lighter_still (step g (At b s frames k)) (step_lighter b s frames k)) in (suc r.0, r.1)
      where
        lighter_still : (c : Config) → Lighter g (weight g (length frames) k b) c → Lighter g w c
        lighter_still (At d u fs j) i = omega arith
        lighter_still (Over o j) i = tt
        lighter_still (Going o) i = tt

    -- it does so from the start of each block
    pub comes : (b : ℕ) (s : ProcState) (frames : List Frame) (k : ℕ) → Comes (At b s frames k)
    comes b s frames k = comes_below (suc (weight g (length frames) k b)) (At b s frames k) (omega arith)
