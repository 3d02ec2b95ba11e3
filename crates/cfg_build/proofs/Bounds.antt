-- A program within the limits of the language has few blocks, and its ports fit into bytes.
use Rattle.std.proofs.Common.{ℕ, suc, ◌+◌, ◌*◌, ◌<◌, ◌≤◌, ◌^◌, List, [], ◌∷◌, length, arith}
use Rattle.std.specs.List.{AllByRecursion}
use Rattle.seq_run.specs.Resolved.{Action, Do, Call, If, While, Steps, Nothing, Then, Proc, nth_proc}
use Rattle.seq_run.specs.Resolved.{ResolvedProgram}
use Rattle.src_ast.specs.LanguageLimits.{most_array_cells}
use Rattle.seq_run.specs.InRange.{ActionIn, StepsIn, ProgramIn, size_all, steps_in}
use Rattle.cfg_build.specs.Lowered.{begun}
use Rattle.cfg_build.specs.Building.{LengthFits, ActionFits, StepsFit, ProcFits, blocks_of}

begun_few : (st : Steps) → begun st ≤ 3 * size_all st
begun_few Nothing = omega arith
begun_few (Then (Do a) rest) = let h = begun_few rest in omega (arith, h)
begun_few (Then (Call x f ts) rest) = let h = begun_few rest in omega (arith, h)
begun_few (Then (If t a b) rest) = grind (arith, begun_few a, begun_few b, begun_few rest)
begun_few (Then (While t body) rest) = let h = begun_few body in let i = begun_few rest in omega (arith, h, i)

blocks_few : (ps : List Proc) → blocks_of ps ≤ length ps + 3 * steps_in ps
blocks_few [] = omega arith
blocks_few (p ∷ ps) = let h = begun_few p.body in let i = blocks_few ps in omega (arith, h, i)

pub room_for : (program : ResolvedProgram) → ProgramIn program → blocks_of program.procs < 2 ^ 32
room_for program h = let i = blocks_few program.procs in omega (arith, i, h.few_procs, h.few_steps)

action_fits : (arrays vars : ℕ) (a : Action) → ActionIn arrays vars a → ActionFits a
action_fits arrays vars a h = grind arith

steps_fit : (arrays : ℕ) (procs : List Proc) (home vars : ℕ) (st : Steps) → StepsIn arrays procs home vars st
    → StepsFit st
steps_fit arrays procs home vars Nothing h = tt
steps_fit arrays procs home vars (Then (Do a) rest) h =
    (action_fits arrays vars a h.0, steps_fit arrays procs home vars rest h.1)
steps_fit arrays procs home vars (Then (Call x f ts) rest) h = (tt, steps_fit arrays procs home vars rest h.1)
steps_fit arrays procs home vars (Then (If t a b) rest) h = (
  (steps_fit arrays procs home vars a h.0.1, steps_fit arrays procs home vars b h.0.2),
  steps_fit arrays procs home vars rest h.1,
)
steps_fit arrays procs home vars (Then (While t body) rest) h =
    (steps_fit arrays procs home vars body h.0.1, steps_fit arrays procs home vars rest h.1)

all_fit : (ps : List Proc) → ((n : ℕ) → n < length ps → ProcFits (nth_proc ps n)) → AllByRecursion ProcFits ps
all_fit [] f = tt
all_fit (p ∷ ps) f = (f 0 (omega arith), all_fit ps (λ n lt. f (suc n) (omega (arith, lt))))

pub procs_fit : (program : ResolvedProgram) → ProgramIn program → AllByRecursion ProcFits program.procs
procs_fit program h = grind (arith, all_fit, steps_fit)

all_lengths_fit : (ns : List ℕ) → AllByRecursion (λ n. n ≤ most_array_cells) ns → AllByRecursion LengthFits ns
all_lengths_fit [] h = tt
all_lengths_fit (n ∷ ns) h = (omega (arith, h.0), all_lengths_fit ns h.1)

-- the lengths of arrays fit
pub lengths_fit : (program : ResolvedProgram) → ProgramIn program → AllByRecursion LengthFits program.lengths
lengths_fit program h = all_lengths_fit program.lengths h.lengths
