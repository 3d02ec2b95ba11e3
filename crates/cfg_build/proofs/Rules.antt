-- Lowered graphs keep the rules of graphs.
use Rattle.std.proofs.Common.{ℕ, suc, ◌+◌, ◌≡◌, ◌<◌, ◌⊎◌, true, List, [], ◌∷◌, length, ap, subst, arith}
use Rattle.std.specs.List.{AllByRecursion}
use Rattle.seq_run.specs.Resolved.{Proc, nth_proc, ResolvedProgram}
use Rattle.seq_run.specs.InRange.{ProcIn, ProgramIn}
use Rattle.cfg_core.specs.Graph.{Op, Exit, Block, GraphProc, Graph, Spot, spots, spots_in, block_at, proc_at}
use Rattle.cfg_core.specs.Rules.{Leads, Lands, ChoosesBare, CallsEarlier, calls, has_tick, has_turn, Quiet}
use Rattle.cfg_core.specs.Rules.{one, more, ProcNumbers, BlockNumbers, IsGraph}
use Rattle.cfg_build.specs.Lowered.{begun, last_part, proc_blocks, arrays, procs, lowered}
use Rattle.cfg_build.specs.Keeps.{IsFirstOp, IsFirstExit}
use Rattle.cfg_build.proofs.Stand.{proc_is, count_procs, proc_spots, SpotsAt, proc_at_front, procs_after}
use Rattle.cfg_build.proofs.Stand.{all_spots_at}
use Rattle.cfg_build.proofs.Places.{each_all}
use Rattle.cfg_build.proofs.Edges.{Fine}
use Rattle.cfg_build.proofs.Shaped.{labels_of, each_fine, fine_at}
use Rattle.cfg_build.proofs.InRange.{BlockIn, made_in, last_in}
use Rattle.ws_words.proofs.Lists.{all_append as all_both, all_with as all_have}
use Rattle.cfg_core.proofs.Turns.{has_tick_turns as turns}
use Rattle.cfg_core.proofs.Forward.{starts_quiet}
use Rattle.ws_words.proofs.Bools.{no_both}

-- Of an operation or an exit of the first form.

lands : (g : Graph) (exit : Exit) → IsFirstExit exit → Lands g exit
lands g exit h = grind arith

bare_op : (o : Op) → IsFirstOp o → ChoosesBare o
bare_op o h = grind arith

-- No cycle without a turn.

module _ (g : Graph) (only_on : (b c : ℕ) → Leads (block_at g b).exit c
    → (b < c) ⊎ (has_turn (block_at g c).ops ≡ true)) where
  forward : (b c : ℕ) → Quiet g b c → (b < c) ⊎ (has_turn (block_at g c).ops ≡ true)
  forward b c (one _ _ h l) = only_on b c l
  forward b c (more _ d _ q h l) = grind (arith, no_both, forward b d q)

  no_quiet_cycle : (b : ℕ) → Quiet g b b → ⊥
  no_quiet_cycle b q = grind (arith, forward, no_both, starts_quiet)

on_or_turns : (program : ResolvedProgram) (b c : ℕ) → Leads (block_at (lowered program) b).exit c
    → (b < c) ⊎ (has_turn (block_at (lowered program) c).ops ≡ true)
on_or_turns program b c l = grind (arith, fine_at, turns)

-- Each number names something.

count_arrays : (names : List (List ℕ)) (lengths : List ℕ) → length names ≡ length lengths
    → length (arrays names lengths) ≡ length lengths
count_arrays (x ∷ names) (n ∷ lengths) e = ap suc (count_arrays names lengths (omega (arith, e)))
count_arrays names lengths e = grind arith

procs_numbered : (ps : List Proc) (c : ℕ) → AllByRecursion ProcNumbers (procs ps c)
procs_numbered [] c = tt
procs_numbered (p ∷ ps) c = grind (arith, procs_numbered ps (suc (c + begun p.body)))

module _ (g : Graph) (count : ℕ) (same : length g.arrays ≡ count) (all : List Proc)
    (params : (f : ℕ) → f < length all → (proc_at g f).params ≡ (nth_proc all f).params)
    (many : length g.procs ≡ length all) where
  abbrev SpotIn : Spot → Type 0
  SpotIn s = BlockIn g count same s.home s.vars s.block

  spots_have : (home vars : ℕ) (xs : List Block) → AllByRecursion (BlockIn g count same home vars) xs
      → AllByRecursion SpotIn (spots_in home vars xs)
  spots_have home vars [] h = tt
  spots_have home vars (x ∷ xs) h = (h.0, spots_have home vars xs h.1)

  -- the procedures, of which the first has this number and begins at this block
  procs_have : (home : ℕ) (ps : List Proc) (c : ℕ) → home + length ps ≡ length all
      → ((i : ℕ) → i < length ps → ProcIn count all (home + i) (nth_proc ps i))
      → SpotsAt g c (proc_spots home ps c) → AllByRecursion SpotIn (proc_spots home ps c)
  procs_have home [] c e h at = tt
  procs_have home (p ∷ ps) c e h at =
      let next = suc (c + begun p.body) in
      let z : home + 0 ≡ home = omega arith in
      let here : ProcIn count all home p = subst (λ n. ProcIn count all n p) z (h 0 (omega arith)) in
      let xs = made_in g count same home all (omega (arith, e, many))
      (λ f lt. params f (omega (arith, lt, e))) (p.params + p.locals) p.body c (last_part p.result)
      here.body (proc_at_front g home p ps c at).2 (last_in g count same home (p.params + p.locals)
      p.result here.result) in
      all_both SpotIn (spots_in home (p.params + p.locals) (proc_blocks p c)) (proc_spots (suc home) ps next)
      (spots_have home (p.params + p.locals) (proc_blocks p c) xs)
      (procs_have (suc home) ps next (omega (arith, e)) (λ i lt. let n : home + suc i ≡ suc home + i =
      omega arith in subst (λ m. ProcIn count all m (nth_proc ps i)) n (h (suc i) (omega (arith, lt))))
      (procs_after g home p ps c at))

  numbered : (s : Spot) → SpotIn s → BlockNumbers g s
  numbered s h = grind arith

pub is_graph : (program : ResolvedProgram) → ProgramIn program → IsGraph (lowered program)
is_graph program h =
    let g = lowered program in let all = labels_of program in
    let same : length g.arrays ≡ length program.lengths = count_arrays program.names program.lengths
    h.names in
    let many : length g.procs ≡ length program.procs = count_procs program.procs 0 in
    let params : (f : ℕ) → f < length program.procs → (proc_at g f).params
    ≡ (nth_proc program.procs f).params = λ f lt. ap (λ (p : GraphProc). p.params)
    (proc_is program f lt) in
    let procs_in : (i : ℕ) → i < length program.procs → ProcIn (length program.lengths) program.procs (0 + i)
    (nth_proc program.procs i) =
    λ i lt. let n : i ≡ 0 + i = omega arith in
    subst (λ m. ProcIn (length program.lengths) program.procs m (nth_proc program.procs i)) n
    (h.procs i lt) in
    let spots_are = procs_have g (length program.lengths) same program.procs params many 0 program.procs 0
    (omega arith) procs_in (all_spots_at program) in record {
      numbers = record {
        some_proc = omega (arith, many, h.some_proc);
        procs = procs_numbered program.procs 0;
        blocks = all_have (SpotIn g (length program.lengths) same program.procs params many) (BlockNumbers g)
            (numbered g (length program.lengths) same program.procs params many) (spots g) spots_are;
      };
      landings = each_all (λ n s. Fine g all n s.block) (λ s. Lands g s.block.exit)
          (λ n s f. lands g s.block.exit f.exit) 0 (spots g) (each_fine program);
      earlier = all_have (SpotIn g (length program.lengths) same program.procs params many)
          (λ s. CallsEarlier s.home s.block.exit) (λ s i. i.earlier) (spots g) spots_are;
      call_ticks = each_all (λ n s. Fine g all n s.block) (λ s. calls s.block.exit ≡ true
          → has_tick s.block.ops ≡ true) (λ n s f. f.ticks) 0 (spots g) (each_fine program);
      cycles = no_quiet_cycle g (on_or_turns program);
      bare = each_all (λ n s. Fine g all n s.block) (λ s. AllByRecursion ChoosesBare s.block.ops)
          (λ n s f. all_have IsFirstOp ChoosesBare bare_op s.block.ops f.ops) 0 (spots g) (each_fine program);
    }
