-- The joined graph keeps the six rules of graphs.
use Rattle.std.proofs.Common.{ℕ, suc, ◌≡◌, ◌<◌, Bool, true, List, [], ◌∷◌, ◌++◌, length, Option, Some}
use Rattle.std.proofs.Common.{None, refl, sym, ap, ◌∙◌, subst, arith}
use Rattle.std.specs.List.{AllByRecursion, filter}
use Rattle.cfg_core.specs.Graph.{Term, Op, Assign, Store, Print}
use Rattle.cfg_core.specs.Graph.{Read, Give, Take, Choose, Tick, TickBy, Exit, Goto, Branch, Call, Return}
use Rattle.cfg_core.specs.Graph.{Send, Stop, GraphProc, Graph, Spot, spots, no_spot, spot_at, block_at}
use Rattle.cfg_core.specs.Rules.{OpIn, BlockNumbers, ProcNumbers, Lands, CallsEarlier, calls, has_tick}
use Rattle.cfg_core.specs.Rules.{NoCell, ChoosesBare, IsGraph}
use Rattle.live_vars.specs.Marks.{has}
use Rattle.phi_conv.specs.Short.{Short, short}
use Rattle.phi_conv.specs.Joined.{first_base, second_base, more_vars, added, arm, written_by, is_still}
use Rattle.phi_conv.specs.Joined.{keep_test, test_if, choice, choices, joining, joined_if, joined_proc}
use Rattle.phi_conv.specs.Joined.{joined}
use Rattle.phi_conv.proofs.Placing.{joined_spot, spots_are, block_is}
use Rattle.cfg_core.proofs.Homes.{vars_at}
use Rattle.phi_conv.proofs.Numbered.{op_more, exit_more, stays_too, joining_in, join_stays, first_in}
use Rattle.phi_conv.proofs.Numbered.{second_in, test_in}
use Rattle.phi_conv.proofs.Cycles.{quiet_before}
use Rattle.ws_words.proofs.Lists.{all_append as all_both, all_mapped, all_with as all_so}
use Rattle.ws_words.proofs.Lists.{length_map as map_count}
use Rattle.cfg_core.proofs.Spots.{all_from, each_at, numbers_at}
use Rattle.ws_words.specs.Items.{nth, or_else}

-- what holds at each place of a list holds of all its items
all_at : {A : Type 0} (P : A → Type 0) (xs : List A) (none : A)
    → ((k : ℕ) → k < length xs → P (or_else (nth xs k) none)) → AllByRecursion P xs
all_at P [] none h = tt
all_at P (x ∷ xs) none h = (h 0 (omega arith), all_at P xs none (λ k lt. h (suc k) (omega arith)))

held_bare : (c : Bool) (v : ℕ) (s : Short) (t : Term) → is_still (written_by s) t ≡ c → NoCell (test_if c v t)
held_bare c v s t e = grind arith

keep_bare : (c : Bool) (v : ℕ) (t : Term) → AllByRecursion ChoosesBare (keep_test c v t)
keep_bare c v t = grind arith

arm_bare : (base : ℕ) (done : List ℕ) (ops : List Op) → AllByRecursion ChoosesBare (arm base done ops)
arm_bare base done [] = tt
arm_bare base done (Assign x t ∷ ops) = (tt, arm_bare base (added done x) ops)
arm_bare base done (Store a t u ∷ ops) = arm_bare base done ops
arm_bare base done (Print t ∷ ops) = arm_bare base done ops
arm_bare base done (Read x ∷ ops) = arm_bare base done ops
arm_bare base done (Give p x ∷ ops) = arm_bare base done ops
arm_bare base done (Take p t ∷ ops) = arm_bare base done ops
arm_bare base done (Choose x t a b ∷ ops) = arm_bare base done ops
arm_bare base done (Tick n ∷ ops) = arm_bare base done ops
arm_bare base done (TickBy t n m ∷ ops) = arm_bare base done ops

joining_bare : (live : List (List ℕ)) (v : ℕ) (s : Short) → AllByRecursion ChoosesBare (joining live v s)
joining_bare live v s =
    let held = held_bare (is_still (written_by s) s.test) v s s.test refl in
    all_both ChoosesBare (keep_test (is_still (written_by s) s.test) v s.test) _
    (keep_bare (is_still (written_by s) s.test) v s.test) (
      held,
      all_both ChoosesBare (arm (first_base v) [] s.first) _ (arm_bare (first_base v) [] s.first)
          (all_both ChoosesBare (arm (second_base v) [] s.second) (choices live v s)
          (arm_bare (second_base v) [] s.second)
          (all_mapped ChoosesBare (choice v s) (filter (has live s.join) (written_by s))
          (all_from (λ x. ChoosesBare (choice v s x)) (filter (has live s.join) (written_by s))
          (λ x i. (held, tt, tt))))),
    )

module _ (g : Graph) (live : List (List ℕ)) (rules : IsGraph g) where
  abbrev h : Graph
  h = joined g live

  abbrev V : ℕ → ℕ
  V b = vars_at g rules b

  -- of all blocks of the joined graph
  over_spots : (P : Spot → Type 0) → ((b : ℕ) → b < length (spots g) → P (joined_spot g live (spot_at g b)))
      → AllByRecursion P (spots h)
  unfolding spot_at
  over_spots P f = subst (AllByRecursion P) (sym (spots_are g live))
      (all_mapped P (joined_spot g live) (spots g) (all_at (λ s. P (joined_spot g live s)) (spots g) no_spot
      f))

  numbers_of : (b : ℕ) → b < length (spots g) → BlockNumbers h (joined_spot g live (spot_at g b))
  numbers_of b there = by_short (block_at g b).exit (short g (block_at g b).exit) refl (numbers_at g rules b)
    where
      by_short : (x : Exit) (found : Option Short) → short g x ≡ found
          → BlockNumbers g (record {
            home = (spot_at g b).home;
            vars = V b;
            block = record { named = (block_at g b).named; ops = (block_at g b).ops; exit = x };
          })
          → BlockNumbers h (record {
            home = (spot_at g b).home;
            vars = more_vars (V b);
            block = joined_if live (V b) (record {
              named = (block_at g b).named;
              ops = (block_at g b).ops;
              exit = x;
            }) found;
          })
      by_short x None e n = record {
        ops = all_so (OpIn (length g.arrays) (V b)) (OpIn (length h.arrays) (more_vars (V b)))
            (op_more g live (V b) (more_vars (V b)) (omega arith)) (block_at g b).ops n.ops;
        exit = exit_more g live (V b) (more_vars (V b)) (omega arith) (spot_at g b).home x n.exit;
        named = all_so (λ y. y < V b) (λ y. y < more_vars (V b)) (λ y lt. omega (arith, lt))
            (block_at g b).named n.named;
        once = n.once;
      }
      by_short (Branch t c d) (Some s) e n = record {
        ops = all_both (OpIn (length h.arrays) (more_vars (V b))) (block_at g b).ops (joining live (V b) s)
            (all_so (OpIn (length g.arrays) (V b)) (OpIn (length h.arrays) (more_vars (V b)))
            (op_more g live (V b) (more_vars (V b)) (omega arith)) (block_at g b).ops n.ops)
            (joining_in g live (V b) s (test_in g rules b there t c d s n.exit e)
            (first_in g rules b there t c d s n.exit e) (second_in g rules b there t c d s n.exit e));
        exit = stays_too g live (V b) (more_vars (V b)) (omega arith) (spot_at g b).home s.join
            (join_stays g rules b there t c d s n.exit e);
        named = all_so (λ y. y < V b) (λ y. y < more_vars (V b)) (λ y lt. omega (arith, lt))
            (block_at g b).named n.named;
        once = n.once;
      }
      by_short (Goto c) (Some s) e n = absurd (cc)
      by_short (Call r f ts back) (Some s) e n = absurd (cc)
      by_short (Return t) (Some s) e n = absurd (cc)
      by_short (Send t ts ls) (Some s) e n = absurd (cc)
      by_short Stop (Some s) e n = absurd (cc)

  proc_numbers : (p : GraphProc) → ProcNumbers p → ProcNumbers (joined_proc g live p)
  proc_numbers p n = grind (arith, map_count)

  named_is : (b : ℕ) → (block_at h b).named ≡ (block_at g b).named
  named_is b = grind (arith, block_is)

  lands_too : (x : Exit) → Lands g x → Lands h x
  lands_too (Send t ts ls) l = (
    l.0,
    all_so (λ n. length (block_at g n).named ≡ length ts)
        (λ n. length (block_at h n).named ≡ length ts) (λ n e. ap length (named_is n) ∙ e) ls l.1,
  )
  lands_too (Goto c) l = tt
  lands_too (Branch t c d) l = tt
  lands_too (Call r f ts back) l = tt
  lands_too (Return t) l = tt
  lands_too Stop l = tt

  -- the exit of a block is the old one or a Goto
  by_exit : (P : Spot → Type 0) (b : ℕ)
      → (short g (block_at g b).exit ≡ None
      → P (record { home = (spot_at g b).home; vars = more_vars (V b); block = block_at g b }))
      → ((s : Short)
      → P (record {
        home = (spot_at g b).home;
        vars = more_vars (V b);
        block = record {
          named = (block_at g b).named;
          ops = (block_at g b).ops ++ joining live (V b) s;
          exit = Goto s.join;
        };
      })) → P (joined_spot g live (spot_at g b))
  by_exit P b old new = by_short (short g (block_at g b).exit) refl
    where
      by_short : (found : Option Short) → short g (block_at g b).exit ≡ found
          → P (record {
            home = (spot_at g b).home;
            vars = more_vars (V b);
            block = joined_if live (V b) (block_at g b) found;
          })
      by_short None e = old e
      by_short (Some s) e = new s

  of_spot : (P : Spot → Type 0) → AllByRecursion P (spots g) → P no_spot → (b : ℕ) → P (spot_at g b)
  unfolding spot_at
  of_spot P all none b = each_at P (spots g) no_spot all none b

  lands_at : (b : ℕ) → Lands g (block_at g b).exit
  lands_at = Rattle.cfg_core.proofs.Total.lands_at g rules

  earlier_at : (b : ℕ) → CallsEarlier (spot_at g b).home (block_at g b).exit
  unfolding no_spot
  earlier_at b = of_spot (λ s. CallsEarlier s.home s.block.exit) rules.earlier tt b

  ticks_at : (b : ℕ) → calls (block_at g b).exit ≡ true → has_tick (block_at g b).ops ≡ true
  unfolding no_spot
  ticks_at b = of_spot (λ s. calls s.block.exit ≡ true → has_tick s.block.ops ≡ true) rules.call_ticks
      (λ e. absurd (cc)) b

  bare_at : (b : ℕ) → AllByRecursion ChoosesBare (block_at g b).ops
  unfolding no_spot
  bare_at b = of_spot (λ s. AllByRecursion ChoosesBare s.block.ops) rules.bare tt b

  -- all six
  pub keeps_rules : IsGraph h
  keeps_rules = record {
    numbers = record {
      some_proc = let some = rules.numbers.some_proc in let count = map_count (joined_proc g live) g.procs in
          omega (arith, some, count);
      procs = grind (arith, all_mapped, g.procs, all_so, proc_numbers);
      blocks = over_spots (BlockNumbers h) numbers_of;
    };
    landings = over_spots (λ s. Lands h s.block.exit) (λ b lt. by_exit (λ s. Lands h s.block.exit) b
        (λ e. lands_too (block_at g b).exit (lands_at b)) (λ s. tt));
    earlier = over_spots (λ s. CallsEarlier s.home s.block.exit)
        (λ b lt. by_exit (λ s. CallsEarlier s.home s.block.exit) b (λ e. earlier_at b) (λ s. tt));
    call_ticks = over_spots (λ s. calls s.block.exit ≡ true → has_tick s.block.ops ≡ true)
        (λ b lt. by_exit (λ s. calls s.block.exit ≡ true → has_tick s.block.ops ≡ true) b (λ e. ticks_at b)
        (λ s e. absurd (cc)));
    cycles = λ b q. rules.cycles b (quiet_before g live b b q);
    bare = over_spots (λ s. AllByRecursion ChoosesBare s.block.ops)
        (λ b lt. by_exit (λ s. AllByRecursion ChoosesBare s.block.ops) b (λ e. bare_at b)
        (λ s. all_both ChoosesBare (block_at g b).ops (joining live (V b) s) (bare_at b)
        (joining_bare live (V b) s)));
  }
