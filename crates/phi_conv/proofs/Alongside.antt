-- The walk of the joined graph goes along with that of the given graph, which takes a block more where an arm
-- is one.
use Rattle.std.proofs.Common.{ℕ, suc, ◌-◌, ◌≡◌, ◌<◌, ◌≤◌, ◌⊎◌, ◌==◌, Bool, true, false, if◌then◌else◌, List}
use Rattle.std.proofs.Common.{[]}
use Rattle.std.proofs.Common.{length, Option, Some, None, refl, sym, ap, ◌∙◌, subst, inl, inr, arith}
use Rattle.ws_words.specs.Outside.{Outside, ProcState, World, zeros, opening_out}
use Rattle.cfg_core.specs.Graph.{Term, Op, Exit, Goto, Branch, Call, Return, Send, Stop, Block, Graph}
use Rattle.cfg_core.specs.Graph.{spots, spot_at, block_at, proc_at, entry_of}
use Rattle.cfg_core.specs.Rules.{ExitIn, Lands, IsGraph}
use Rattle.cfg_core.specs.Walk.{value_of, OpsOutcome, Done, Out, and_then, run_ops, Frame, Config, At, Over}
use Rattle.cfg_core.specs.Walk.{Going, leave, passed, step, walk, cells_of, opening, IsOver}
use Rattle.cfg_core.proofs.Paired.{Match}
use Rattle.cfg_core.proofs.Total.{lands_at}
use Rattle.live_vars.specs.Live.{Live}
use Rattle.live_vars.specs.Marks.{AreLive}
use Rattle.phi_conv.specs.Short.{Short, short, short_to}
use Rattle.phi_conv.specs.Joined.{more_vars, joining, joined_if, joined}
use Rattle.cfg_core.specs.Passing.{PassesNoMore}
use Rattle.phi_conv.proofs.Light.{light_run}
use Rattle.phi_conv.proofs.Choices.{by_zero}
use Rattle.phi_conv.proofs.Agreeing.{States, Outcomes, ops_same, weaker}
use Rattle.phi_conv.proofs.Branching.{arm_run}
use Rattle.phi_conv.specs.IsShort.{Way}
use Rattle.phi_conv.proofs.Ways.{ways}
use Rattle.phi_conv.proofs.Placing.{block_is, entry_is, proc_is}
use Rattle.phi_conv.proofs.Standing.{Stack, Along, goes_to}
use Rattle.cfg_core.proofs.Homes.{vars_at, entry_there}
use Rattle.phi_conv.proofs.Leaves.{jumps, branches, gives_back, stops}
use Rattle.phi_conv.proofs.Entering.{calls, sends}
use Rattle.phi_conv.proofs.Beside.{beside}
use Rattle.ws_words.proofs.Lists.{length_map as map_count}
use Rattle.ws_words.proofs.Numbers.{zero_at, zeros_count}
use Rattle.cfg_core.proofs.Spots.{numbers_at}
use Rattle.cfg_core.proofs.Outcomes.{run_append}
use Rattle.live_vars.proofs.Needed.{After, needed_is_live}

module _ (g : Graph) (rules : IsGraph g) (live : List (List ℕ)) (is : AreLive g live) where
  abbrev h : Graph
  h = joined g live

  abbrev V : ℕ → ℕ
  V b = vars_at g rules b

  -- the configurations go along, now or where the given graph has passed one block more
  abbrev Follows : Config → Config → Type 0
  Follows c d = Along g rules c d ⊎ Along g rules (step g c) d

  module _ (b : ℕ) (there : b < length (spots g)) (fs es : List Frame) (stack : Stack g rules fs es) where
    -- an exit that both graphs have
    same_exit : (x : Exit) → ExitIn g (spot_at g b).home (V b) x → Lands g x → (s r : ProcState) (k : ℕ)
        → States (V b) (After g x) s r → Along g rules (leave g x s fs k) (leave h x r es k)
    same_exit (Goto c) i l s r k st = jumps g rules h b there c i s r fs es k st stack
    same_exit (Branch t c d) i l s r k st = branches g rules h b there t c d i s r fs es k st stack
    same_exit (Call x f ts back) i l s r k st = calls g rules live b there x f ts back i s r fs es k st stack
    same_exit (Return t) i l s r k st = gives_back g rules h b there t i s r fs es k st stack
    same_exit (Send t ts ls) i l s r k st = sends g rules live b there t ts ls i l s r fs es k st stack
    same_exit Stop i l s r k st = stops g rules h b there s r fs es k st

    same_passed : (x : Exit) → ExitIn g (spot_at g b).home (V b) x → Lands g x → (o p : OpsOutcome)
        → Outcomes (V b) (After g x) o p → Along g rules (passed g o x fs) (passed h p x es)
    same_passed x i l o p e = grind (arith, same_exit)

    -- on to the join of a short branch
    at_join : (j : ℕ) → j < length (spots g) → (spot_at g j).home ≡ (spot_at g b).home → (o p : OpsOutcome)
        → Outcomes (V b) (Live g j) o p → Along g rules (passed g o (Goto j) fs) (passed h p (Goto j) es)
    at_join j lt home (Done s k) (Done r i) e = subst (λ n. Along g rules (At j s fs k) (At j r es n)) e.0
        (goes_to g rules b j there (lt, home) s r fs es k e.1 stack)
    at_join j lt home (Out o) (Out p) e = e
    at_join j lt home (Done s k) (Out p) e = absurd e
    at_join j lt home (Out o) (Done r i) e = absurd e

    -- from the start of a way of a short branch
    by_way : (c j : ℕ) (ops : List Op) → j < length (spots g) → (spot_at g j).home ≡ (spot_at g b).home
        → Way g c j ops → (a : ProcState) (k : ℕ) (p : OpsOutcome)
        → Outcomes (V b) (Live g j) (arm_run ops a k) p → Follows (At c a fs k) (passed h p (Goto j) es)
    by_way c j ops lt home i a k p near = grind (arith, at_join, light_run)

    module _ (t : Term) (c d : ℕ) (s : Short) (exit : ExitIn g (spot_at g b).home (V b) (Branch t c d))
        (short : short_to g t c d ≡ Some s) where
      join_there : (s.join < length (spots g)) × ((spot_at g s.join).home ≡ (spot_at g b).home)
      join_there = by_two (ways g t c d s short).first (ways g t c d s short).second
        where
          by_two : Way g c s.join s.first → Way g d s.join s.second → (s.join < length (spots g))
              × ((spot_at g s.join).home ≡ (spot_at g b).home)
          by_two h w = grind (arith, numbers_at)

      after_branch : (a r : ProcState) (k : ℕ) → States (V b) (After g (Branch t c d)) a r
          → Follows (leave g (Branch t c d) a fs k) (passed h (run_ops (joining live (V b) s) r k)
          (Goto s.join) es)
      after_branch a r k st = by_test ((value_of t a).0 == 0) refl
        where
          to_join : (z : Bool) → ((value_of t a).0 == 0) ≡ z → Outcomes (V b) (Live g s.join)
              (arm_run (by_zero z s.first s.second) (value_of t a).1 k) (run_ops (joining live (V b) s) r k)
          to_join z e = beside g rules live is b there t c d s exit short join_there.0 join_there.1 a r k z e
              st

          by_test : (z : Bool) → ((value_of t a).0 == 0) ≡ z
              → Follows (if z then At d (value_of t a).1 fs k else At c (value_of t a).1 fs k)
              (passed h (run_ops (joining live (V b) s) r k) (Goto s.join) es)
          by_test true e = by_way d s.join s.second join_there.0 join_there.1 (ways g t c d s short).second
              (value_of t a).1 k _ (to_join true e)
          by_test false e = by_way c s.join s.first join_there.0 join_there.1 (ways g t c d s short).first
              (value_of t a).1 k _ (to_join false e)

      after_ops : (o p : OpsOutcome) → Outcomes (V b) (After g (Branch t c d)) o p
          → Follows (passed g o (Branch t c d) fs) (passed h (and_then p (run_ops (joining live (V b) s)))
          (Goto s.join) es)
      after_ops o p e = grind (arith, after_branch)

    by_short : (x : Exit) (found : Option Short) → short g x ≡ found → ExitIn g (spot_at g b).home (V b) x
        → Lands g x → (o p : OpsOutcome) (ops : List Op) (r : ProcState) (k : ℕ) → p ≡ run_ops ops r k
        → Outcomes (V b) (After g x) o p
        → Follows (passed g o x fs)
        (passed h (run_ops (joined_if live (V b) (record { named = []; ops = ops; exit = x }) found).ops r
        k) (joined_if live (V b) (record { named = []; ops = ops; exit = x }) found).exit es)
    by_short x None e i l o p ops r k ran near = grind (arith, same_passed)
    by_short (Branch t c d) (Some s) e i l o p ops r k ran near = grind (arith, run_append, after_ops)
    by_short (Goto c) (Some s) e i l o p ops r k ran near = absurd (cc)
    by_short (Call x f ts back) (Some s) e i l o p ops r k ran near = absurd (cc)
    by_short (Return t) (Some s) e i l o p ops r k ran near = absurd (cc)
    by_short (Send t ts ls) (Some s) e i l o p ops r k ran near = absurd (cc)
    by_short Stop (Some s) e i l o p ops r k ran near = absurd (cc)

    at_block : (s r : ProcState) (k : ℕ) → States (V b) (Live g b) s r
        → Follows (step g (At b s fs k)) (step h (At b r es k))
    at_block s r k st =
        let block : Block = block_at g b in
        let near = ops_same g (V b) block.ops (After g block.exit) (numbers_at g rules b).ops s r k
        (weaker g (V b) (Live g b) _ s r (λ x n. needed_is_live g b x n) st) in
        subst (λ (x : Block). Follows (passed g (run_ops block.ops s k) block.exit fs)
        (passed h (run_ops x.ops r k) x.exit es)) (sym (block_is g live b))
        (by_found block (short g block.exit) refl near)
      where
        by_found : (block : Block) (found : Option Short) → short g (block_at g b).exit ≡ found
            → Outcomes (V b) (After g (block_at g b).exit) (run_ops (block_at g b).ops s k)
            (run_ops (block_at g b).ops r k)
            → Follows (passed g (run_ops (block_at g b).ops s k) (block_at g b).exit fs)
            (passed h (run_ops (joined_if live (V b) (block_at g b) found).ops r k)
            (joined_if live (V b) (block_at g b) found).exit es)
        by_found block None e near = by_short (block_at g b).exit None e (numbers_at g rules b).exit
            (lands_at g rules b) _ _ (block_at g b).ops r k refl near
        by_found block (Some s) e near = by_short (block_at g b).exit (Some s) e (numbers_at g rules b).exit
            (lands_at g rules b) _ _ (block_at g b).ops r k refl near

  one_block : (b : ℕ) (s : ProcState) (fs : List Frame) (k : ℕ) (d : Config) → Along g rules (At b s fs k) d
      → Follows (step g (At b s fs k)) (step h d)
  one_block b s fs k d a = grind (arith, at_block)

  -- the second walk comes to an answer that goes with this one, in at most m blocks
  abbrev Answers : ℕ → Config → Config → Type 0
  Answers m c d = (n : ℕ) × (n ≤ m) × Match (λ (o p : Outside). o ≡ p) c (walk h n d)

  later : (m : ℕ) (c d : Config) → Answers m c d → Answers (suc m) c d
  later m c d r = let le = r.1 in (r.0, omega (arith, le), r.2)

  -- where the first comes to one in m blocks
  answers : (m : ℕ) (c d : Config) → Follows c d → IsOver (walk g m c) → Answers m (walk g m c) d
  answers (suc m) (At b s fs k) d (inl a) over =
      let r = answers m (step g (At b s fs k)) (step h d) (one_block b s fs k d a) over in
      let le = r.1 in (suc r.0, omega (arith, le), r.2)
  answers (suc m) (At b s fs k) d (inr a) over = later m _ d (answers m (step g (At b s fs k)) d (inl a) over)
  answers (suc m) (Over o k) d (inl a) over = later m _ d (answers m (Over o k) d (inl a) over)
  answers (suc m) (Over o k) d (inr a) over = later m _ d (answers m (Over o k) d (inl a) over)
  answers (suc m) (Going o) d (inl a) over = later m _ d (answers m (Going o) d (inl a) over)
  answers (suc m) (Going o) d (inr a) over = later m _ d (answers m (Going o) d (inl a) over)
  answers m c d f over = grind arith

  match_over : (c d : Config) → Match (λ (o p : Outside). o ≡ p) c d → IsOver d
  match_over c d e = grind arith

  abbrev main : ℕ
  main = length g.procs - 1

  main_there : main < length g.procs
  main_there = omega (arith, rules.numbers.some_proc)

  opened : (world : World) (k : ℕ) → opening h world k ≡ At (entry_of g main)
      (record { vars = zeros (more_vars (proc_at g main).vars); out = opening_out (cells_of g.arrays) world })
      [] k
  opened world k = grind (arith, map_count, entry_is, proc_is, main_there)

  opens : (world : World) (k : ℕ) → Along g rules (opening g world k) (opening h world k)
  opens world k =
      let e = entry_there g rules main main_there in
      let v : ℕ = (proc_at g main).vars in
      subst (λ (c : Config). Along g rules (opening g world k) c) (sym (opened world k)) (
        refl,
        refl,
        e.0,
        record {
          vars = λ x lt l. zero_at v x ∙ sym (zero_at (more_vars v) x);
          long = zeros_count v ∙ sym e.1;
          longer = zeros_count (more_vars v) ∙ ap more_vars (sym e.1);
          out = refl;
        },
        tt,
      )

  -- where the walk of the given graph comes to an answer, that of the joined graph comes to the same
  pub forth : (world : World) (turns m : ℕ) → IsOver (walk g m (opening g world turns))
      → (n : ℕ) × Match (λ (o p : Outside). o ≡ p) (walk g m (opening g world turns))
      (walk h n (opening h world turns))
  forth world turns m over = let r = answers m (opening g world turns) (opening h world turns)
      (inl (opens world turns)) over in (r.0, r.2)

  -- in no more blocks
  pub no_more : PassesNoMore g h
  no_more world turns m over =
      let r = answers m (opening g world turns) (opening h world turns) (inl (opens world turns)) over in
      grind (arith, match_over)
