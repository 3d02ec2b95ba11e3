-- In a walk each state has as many variables as its block's procedure.
use Rattle.std.proofs.Common.{ℕ, ◌-◌, ◌≡◌, ◌<◌, ◌≤◌, ◌==◌, min, Bool, true, false, List, []}
use Rattle.std.proofs.Common.{◌∷◌}
use Rattle.std.proofs.Common.{◌++◌, length, if◌then◌else◌, sym}
use Rattle.std.proofs.Common.{◌∙◌}
use Rattle.std.proofs.Common.{arith}
use Rattle.std.specs.List.{AllByRecursion}
use Rattle.ws_words.specs.Outside.{Outside, ProcState, World, zeros}
use Rattle.ws_words.proofs.Numbers.{zeros_count, entered_count}
use Rattle.cfg_core.specs.Graph.{Exit, Goto, Branch, Call, Return, Send, Stop, Graph}
use Rattle.cfg_core.specs.Graph.{spots, spot_at, block_at, proc_at}
use Rattle.cfg_core.specs.Graph.{entry_of}
use Rattle.cfg_core.specs.Rules.{StaysIn, ExitIn, Lands, IsGraph}
use Rattle.cfg_core.specs.Walk.{value_of, values_of, OpsOutcome, Done, Out, run_ops, Frame, Config, At, Over}
use Rattle.cfg_core.specs.Walk.{Going, landing, landed, returned, leave, passed, step, opening}
use Rattle.cfg_core.proofs.Spots.{landed_count, values_count, numbers_at}
use Rattle.cfg_core.proofs.Every.{all_at}
use Rattle.cfg_core.proofs.Homes.{result_count, same_vars, entry_there, params_at}
use Rattle.cfg_core.proofs.Total.{lands_at}
use Rattle.cfg_fold.specs.Known.{Fact}
use Rattle.cfg_fold.specs.Folded.{after_all}
use Rattle.cfg_fold.proofs.Running.{State, Knows, ops_know}

module _ (g : Graph) (rules : IsGraph g) where
  -- as many variables as a block's procedure has
  pub record Fits (b : ℕ) (vars : List ℕ) : Type 0 where
    pub there : b < length (spots g)
    pub long : length vars ≡ (spot_at g b).vars

  -- in calls that wait
  abbrev pub AllFit : List Frame → Type 0
  AllFit [] = Unit {0}
  AllFit (f ∷ fs) = Fits f.back f.vars × AllFit fs

  -- at a place of the walk
  abbrev pub Stands : Config → Type 0
  Stands (At b s frames k) = Fits b s.vars × AllFit frames
  Stands (Over o k) = Unit {0}
  Stands (Going o) = Unit {0}

  -- on to a block of the same procedure
  goes_on : (b c : ℕ) (vars : List ℕ) → Fits b vars → StaysIn g (spot_at g b).home c → Fits c vars
  goes_on b c vars h stays = record {
    there = stays.0;
    long = h.long ∙ sym (same_vars g rules b c h.there stays.0 stays.1);
  }

  if_stands : (v : Bool) (c d : Config) → Stands c → Stands d → Stands (if v then c else d)
  if_stands true c d h i = h
  if_stands false c d h i = i

  returned_stands : (v : ℕ) (o : Outside) (frames : List Frame) (k : ℕ) → AllFit frames
      → Stands (returned v o frames k)
  returned_stands v o [] k h = tt
  returned_stands v o (f ∷ frames) k h = (
    record { there = h.0.there; long = result_count f.result v f.vars ∙ h.0.long },
    h.1,
  )

  enters : (f : ℕ) → f < length g.procs → (vs : List ℕ) → length vs ≡ (proc_at g f).params
      → Fits (entry_of g f) (vs ++ zeros ((proc_at g f).vars - (proc_at g f).params))
  enters f lt vs e =
      let at = entry_there g rules f lt in
      let le = params_at g rules f in
      let count = entered_count vs ((proc_at g f).vars - (proc_at g f).params) in
      record { there = at.0; long = omega (arith, at.1, le, count, e) }

  lands : (c : ℕ) → c < length (spots g) → (vs : List ℕ)
      → Fits c (landed (block_at g c).named vs (zeros (spot_at g c).vars))
  lands c lt vs = record {
    there = lt;
    long = landed_count (block_at g c).named vs (zeros (spot_at g c).vars) ∙ zeros_count (spot_at g c).vars;
  }

  landing_there : (a : ℕ) (ls : List ℕ) → 1 ≤ length ls → AllByRecursion (λ l. l < length (spots g)) ls
      → landing a ls < length (spots g)
  landing_there a ls some all = all_at (λ l. l < length (spots g)) ls (min a (length ls - 1)) all
      (omega arith)

  -- an exit leads on
  leaves : (b : ℕ) (exit : Exit) → ExitIn g (spot_at g b).home (spot_at g b).vars exit → Lands g exit
      → (s : ProcState) (frames : List Frame) (k : ℕ) → Fits b s.vars → AllFit frames
      → Stands (leave g exit s frames k)
  leaves b (Goto c) i l s frames k h fs = (goes_on b c s.vars h i, fs)
  leaves b (Branch t c d) i l s frames k h fs = if_stands ((value_of t s).0 == 0) _ _
      (goes_on b d s.vars h i.2, fs) (goes_on b c s.vars h i.1, fs)
  leaves b (Call x f ts back) i l s frames k h fs = (
    enters f i.1 (values_of ts s).0 (values_count ts s.vars s.out.cells ∙ i.2),
    (goes_on b back s.vars h i.4, fs),
  )
  leaves b (Return t) i l s frames k h fs = returned_stands (value_of t s).0 (value_of t s).1.out frames k fs
  leaves b (Send t ts ls) i l s frames k h fs = (
    lands (landing (value_of t s).0 ls) (landing_there (value_of t s).0 ls l.0 i.2)
        (values_of ts (value_of t s).1).0,
    fs,
  )
  leaves b Stop i l s frames k h fs = tt

  passes : (b : ℕ) (facts : List Fact) (o : OpsOutcome) → b < length (spots g)
      → Knows (spot_at g b).vars facts o → (frames : List Frame) → AllFit frames
      → Stands (passed g o (block_at g b).exit frames)
  passes b facts (Done s k) there h frames fs =
      leaves b (block_at g b).exit (numbers_at g rules b).exit (lands_at g rules b) s frames k
      (record { there = there; long = h.long }) fs
  passes b facts (Out o) there h frames fs = tt

  -- the state at the start of a block, of which nothing is known
  pub unknown : (b : ℕ) (s : ProcState) → Fits b s.vars → State (spot_at g b).vars [] s
  unknown b s h = record { long = h.long; holds = tt }

  -- so does a step
  pub step_stands : (c : Config) → Stands c → Stands (step g c)
  step_stands (At b s frames k) h =
      passes b (after_all [] (block_at g b).ops) (run_ops (block_at g b).ops s k) h.0.there
      (ops_know (length g.arrays) (spot_at g b).vars [] (block_at g b).ops (numbers_at g rules b).ops s k
      (unknown b s h.0)) frames h.1
  step_stands (Over o k) h = h
  step_stands (Going o) h = h

  -- the walk begins in such a place
  pub opening_stands : (world : World) (turns : ℕ) → Stands (opening g world turns)
  opening_stands world turns =
      let main : ℕ = length g.procs - 1 in
      let some = rules.numbers.some_proc in
      let at = entry_there g rules main (omega (arith, some)) in
      (record { there = at.0; long = zeros_count (proc_at g main).vars ∙ sym at.1 }, tt)
