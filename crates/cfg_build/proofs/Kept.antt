-- The lowered graph keeps the run of its program.
use Rattle.std.proofs.Common.{ℕ, zero, suc, ◌+◌, ◌-◌, ◌≡◌, ◌<◌, ◌≤◌, ◌==◌, Bool, true, false, List, [], ◌∷◌}
use Rattle.std.proofs.Common.{◌++◌, length, if◌then◌else◌, refl, sym, ap, ◌∙◌, subst, arith}
use Rattle.std.proofs.lemmas.Bool.{eqb-true}
use Rattle.std.proofs.lemmas.Bool.Decides.{nat_tests}
use Rattle.ws_words.specs.Outside.{Outside, ProcState, World, zeros, opening_out}
use Rattle.src_ast.specs.Syntax.{Part}
use Rattle.src_ast.specs.Turns.{CallEnd, Returned, Stopped}
use Rattle.src_ast.specs.Meaning as meaning
use Rattle.src_ast.specs.Meaning.{empty_cells}
use Rattle.seq_run.specs.Resolved.{Steps, Proc, ResolvedProgram, run_all, run_proc, run, nth_proc}
use Rattle.seq_run.specs.Resolved.{calls_below}
use Rattle.seq_run.specs.Resolving as resolving
use Rattle.seq_run.specs.InRange.{ProgramIn}
use Rattle.seq_run.specs.TurnsLeft.{AtMost}
use Rattle.cfg_core.specs.Graph.{Graph, proc_at, entry_of}
use Rattle.cfg_core.specs.Walk.{Frame, Config, At, Over, Going, IsOver, entered, opening, cells_of}
use Rattle.cfg_build.specs.Lowered.{last_part, made, proc_blocks, arrays, lowered}
use Rattle.cfg_build.specs.Keeps.{KeepsRun}
use Rattle.cfg_build.proofs.Stand.{HasAt, has_blocks, proc_is, count_procs}
use Rattle.cfg_build.proofs.Simulation.{Reaches, FollowsCall, CallsFollow, at_whole, follow, finished}
use Rattle.cfg_core.proofs.Cost.{one_answer}

-- a run never has more turns left than it had
abbrev pub TurnsNeverGrow : Type 0
TurnsNeverGrow = (procs : List Proc) (below : ℕ) (steps : Steps) (s : ProcState) (turns : ℕ)
    → AtMost turns (run_all (calls_below below procs) steps s turns)

-- the run on names is the run on their places
abbrev pub NamesArePlaces : Type 0
NamesArePlaces = (parts : List Part) (world : World) (turns : ℕ) → meaning.run parts world turns
    ≡ run (resolving.program parts) world turns

cells_same : (names : List (List ℕ)) (lengths : List ℕ) → length names ≡ length lengths
    → cells_of (arrays names lengths) ≡ empty_cells lengths
cells_same [] [] e = refl
cells_same (x ∷ xs) (n ∷ ns) e = ap (λ rows. zeros n ∷ rows) (cells_same xs ns (omega (arith, e)))
cells_same names lengths e = absurd (omega (arith, e))

by_number : (g : Graph) (b : Bool) (o u : CallEnd) (c : Config) (fs : List Frame)
    → (b ≡ true → FollowsCall g o c fs) → (b ≡ false → FollowsCall g u c fs)
    → FollowsCall g (if b then o else u) c fs
by_number g b o u c fs h i = grind arith

-- how the run of a program shows in its graph
abbrev end_of : CallEnd → Config
end_of (Returned v o k) = Over o k
end_of (Stopped o) = Going o

end_over : (e : CallEnd) → IsOver (end_of e)
end_over e = grind arith

main_reaches : (g : Graph) (e : CallEnd) (c : Config) → FollowsCall g e c [] → Reaches g c (end_of e)
main_reaches g e c h = grind arith

returns_only : (e : CallEnd) (o : Outside) → end_of e ≡ Over o 0 → (v : ℕ) × (e ≡ Returned v o 0)
returns_only e o p = grind arith

stops_only : (e : CallEnd) (o : Outside) → end_of e ≡ Going o → e ≡ Stopped o
stops_only e o p = grind arith

module _ (grow : TurnsNeverGrow) (program : ResolvedProgram) (fit : ProgramIn program) where
  -- a call of a procedure, on variables that begin with its arguments
  follow_proc : (n : ℕ) → n < length program.procs → CallsFollow (lowered program) n
      (calls_below n program.procs) → (args vars : List ℕ)
      → vars ≡ args ++ zeros (nth_proc program.procs n).locals → (o : Outside) (k : ℕ) (fs : List Frame) →
      FollowsCall (lowered program) (run_proc (calls_below n program.procs) (nth_proc program.procs n) args o
      k) (At (entry_of (lowered program) n) (record { vars = vars; out = o }) fs k) fs
  follow_proc n lt cf args vars same o k fs =
      let g = lowered program in let p = nth_proc program.procs n in let calls =
      calls_below n program.procs in
      let first = entry_of g n in let rest = last_part p.result in
      let at : HasAt g n (p.params + p.locals) first (proc_blocks p first) = has_blocks program n lt in
      let s : ProcState = record { vars = args ++ zeros p.locals; out = o } in
      subst (λ (vs : List ℕ). FollowsCall g (run_proc calls p args o k)
      (At first (record { vars = vs; out = o }) fs k) fs) (sym same)
      (finished g (run_all calls p.body s k) p.result (At first s fs k) fs
      (at_whole g n (p.params + p.locals) first (made p.body first rest) at (run_all calls p.body s k) s k
      rest fs
      (follow g (length program.lengths) program.procs n (p.params + p.locals) calls cf (grow program.procs n)
      p.body first rest (fit.procs n lt).body at.2 s k fs)))

  -- the variables at the entry of a procedure of the graph
  entered_is : (n : ℕ) → n < length program.procs → (args : List ℕ) → entered (proc_at (lowered program) n)
      args ≡ args ++ zeros (nth_proc program.procs n).locals
  entered_is n lt args = grind (arith, proc_is)

  follow_calls : (n : ℕ) → n ≤ length program.procs → CallsFollow (lowered program) n
      (calls_below n program.procs)
  follow_calls zero le f lt args o k fs = absurd (omega arith)
  follow_calls (suc n) le f lt args o k fs =
      let g = lowered program in let calls = calls_below n program.procs in
      let inside : n < length program.procs = omega arith in
      by_number g (f == n) (run_proc calls (nth_proc program.procs n) args o k) (calls f args o k)
      (At (entry_of g f) (record { vars = entered (proc_at g f) args; out = o }) fs k) fs
      (λ e. subst (λ (m : ℕ). FollowsCall g (run_proc calls (nth_proc program.procs n) args o k)
      (At (entry_of g m) (record { vars = entered (proc_at g m) args; out = o }) fs k) fs)
      (sym (eqb-true f n e))
      (follow_proc n inside (follow_calls n (omega arith)) args (entered (proc_at g n) args)
      (entered_is n inside args) o k fs))
      (λ e. follow_calls n (omega arith) f (grind (arith, nat_tests)) args o k fs)

  -- main begins on zeros
  zeros_is : (n : ℕ) → n < length program.procs → (nth_proc program.procs n).params ≡ 0
      → zeros (proc_at (lowered program) n).vars ≡ [] ++ zeros (nth_proc program.procs n).locals
  zeros_is n lt e = grind (arith, proc_is)

  follow_main : (world : World) (k : ℕ) → Reaches (lowered program) (opening (lowered program) world k)
      (end_of (run program world k))
  follow_main world k =
      let g = lowered program in let main = length program.procs - 1 in
      let some : 0 < length program.procs = fit.some_proc in
      let inside : main < length program.procs = omega arith in
      main_reaches g (run program world k) (opening g world k)
      (subst (λ (m : ℕ). FollowsCall g (run program world k)
      (At (entry_of g (m - 1)) (record {
        vars = zeros (proc_at g (m - 1)).vars;
        out = opening_out (cells_of g.arrays) world;
      }) [] k) []) (sym (count_procs program.procs 0))
      (subst (λ (rows : List (List ℕ)). FollowsCall g (run program world k)
      (At (entry_of g main) (record { vars = zeros (proc_at g main).vars; out = opening_out rows world })
      [] k) []) (sym (cells_same program.names program.lengths fit.names))
      (follow_proc main inside (follow_calls main (omega arith)) [] (zeros (proc_at g main).vars)
      (zeros_is main inside fit.main) (opening_out (empty_cells program.lengths) world) k [])))

pub lowered_keeps_run : TurnsNeverGrow → NamesArePlaces → (parts : List Part)
    → ProgramIn (resolving.program parts) → KeepsRun parts (lowered (resolving.program parts))
lowered_keeps_run grow places parts fit =
    let program = resolving.program parts in let g = lowered program in
    record {
      ends = λ world n o e. let r = follow_main grow program fit world n in
          (r.0, r.1 ∙ ap end_of (sym (places parts world n) ∙ e.1));
      goes = λ world n o e. let r = follow_main grow program fit world n in
          (r.0, r.1 ∙ ap end_of (sym (places parts world n) ∙ e));
      ends_only = λ world n o e. let r = follow_main grow program fit world n in
          let t = returns_only (run program world n) o
          (one_answer g r.0 e.0 (opening g world n) (end_of (run program world n)) (Over o 0)
          (end_over (run program world n)) tt r.1 e.1) in
          (t.0, places parts world n ∙ t.1);
      goes_only = λ world n o e. let r = follow_main grow program fit world n in
          places parts world n ∙ stops_only (run program world n) o
          (one_answer g r.0 e.0 (opening g world n) (end_of (run program world n)) (Going o)
          (end_over (run program world n)) tt r.1 e.1);
    }
