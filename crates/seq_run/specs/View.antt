-- What the tree of the code stands for.
use Rattle.std.specs.Prelude.{◌≡◌, ℕ, List, [], ◌∷◌, map, Option, Some, None, refl}
use Rattle.std.proofs.Common.{ap}
use Rattle.seq_run.specs.Resolved as resolved
use Rattle.cfg_core.specs.Graph as plain
use Rattle.cfg_core.specs.View.{term}
use Rattle.cfg_core.specs.declared.blocks.Term.{Term}
use Rattle.seq_run.specs.declared.tree.Action.{Action}
use Rattle.seq_run.specs.declared.tree.Action.TheVariants.{Assign, Store, Print, Read, Give, Take}
use Rattle.seq_run.specs.declared.tree.Step.{Step, Row_of-Step, end_of-Step, more_of-Step, items-the_row-Step}
use Rattle.seq_run.specs.declared.tree.Step.TheVariants.{Do, Call, If', While'}
use Rattle.seq_run.specs.declared.tree.Proc.{Proc}
use Rattle.seq_run.specs.declared.tree.ArrayShape.{ArrayShape}
use Rattle.seq_run.specs.declared.tree.Resolved.{Resolved}

abbrev pub action : Action → resolved.Action
action (Assign x t) = resolved.Assign x (term t)
action (Store a t u) = resolved.Store a (term t) (term u)
action (Print t) = resolved.Print (term t)
action (Read x) = resolved.Read x
action (Give p x) = resolved.Give p x
action (Take p t) = resolved.Take p (term t)

abbrev mutual
  pub step : Step → resolved.Step
  step (Do a) = resolved.Do (action a)
  step (Call x f ts) = resolved.Call x f (map term ts.items)
  step (If' t m a n b) = resolved.If (term t) (row_of a) (row_of b)
  step (While' t m a) = resolved.While (term t) (row_of a)

  pub row_of : {m : _} → Row_of-Step m → resolved.Steps
  row_of end_of-Step = resolved.Nothing
  row_of (more_of-Step s rest) = resolved.Then (step s) (row_of rest)

abbrev pub steps : List Step → resolved.Steps
steps [] = resolved.Nothing
steps (s ∷ ss) = resolved.Then (step s) (steps ss)

-- the steps inside a step are those of their list
pub row_list : (m : _) (r : Row_of-Step m) → row_of r ≡ steps (items-the_row-Step m r)
row_list _ end_of-Step = refl
row_list _ (more_of-Step s rest) = ap (resolved.Then (step s)) (row_list _ rest)

abbrev pub result : Option Term → Option plain.Term
result None = None
result (Some t) = Some (term t)

abbrev pub proc : Proc → resolved.Proc
proc p = record {
  params = p.params;
  locals = p.locals;
  body = steps p.body.items;
  result = result p.result;
}

abbrev pub procs : List Proc → List resolved.Proc
procs [] = []
procs (p ∷ ps) = proc p ∷ procs ps

abbrev pub names : List ArrayShape → List (List ℕ)
names [] = []
names (a ∷ arrays) = a.name ∷ names arrays

abbrev pub lengths : List ArrayShape → List ℕ
lengths [] = []
lengths (a ∷ arrays) = a.length ∷ lengths arrays

abbrev pub program : Resolved → resolved.ResolvedProgram
program r = record {
  names = names r.arrays.items;
  lengths = lengths r.arrays.items;
  procs = procs r.procs.items;
}
