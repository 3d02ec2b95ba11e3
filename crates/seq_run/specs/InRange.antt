-- Programs with numbers for names in which each number names something, and which keep the limits of
-- the language on procedures, parameters, variables, cells and statements.
use Rattle.std.specs.Prelude.{◌≡◌, ℕ, suc, ◌+◌, ◌-◌, ◌<◌, ◌≤◌, List, [], ◌∷◌, length, Option, Some, None}
use Rattle.std.specs.List.{AllByRecursion}
use Rattle.src_ast.specs.LanguageLimits.{most_parameters, most_locals, most_procedures}
use Rattle.src_ast.specs.LanguageLimits.{most_array_cells, most_statements}
use Rattle.cfg_core.specs.Graph.{Term}
use Rattle.cfg_core.specs.Rules.{IsArray, IsPort, TermIn, TargetIn}
use Rattle.seq_run.specs.Resolved.{Action, Assign, Store, Print, Read, Give, Take, Step, Do, Call, If, While}
use Rattle.seq_run.specs.Resolved.{Steps, Nothing, Then, Proc, nth_proc, ResolvedProgram}

-- an action over this many arrays and variables
abbrev pub ActionIn : ℕ → ℕ → Action → Type 0
ActionIn arrays vars (Assign x t) = (x < vars) × TermIn arrays vars t
ActionIn arrays vars (Store a t u) = IsArray arrays a × TermIn arrays vars t × TermIn arrays vars u
ActionIn arrays vars (Print t) = TermIn arrays vars t
ActionIn arrays vars (Read x) = x < vars
ActionIn arrays vars (Give p x) = IsPort p × (x < vars)
ActionIn arrays vars (Take p t) = IsPort p × TermIn arrays vars t

-- the result of a procedure, if it has one
abbrev pub ResultIn : ℕ → ℕ → Option Term → Type 0
ResultIn arrays vars None = Unit {0}
ResultIn arrays vars (Some t) = TermIn arrays vars t

abbrev mutual
  -- inside the procedure with this number, which calls earlier ones, each with as many values
  -- as it has parameters
  pub StepIn : ℕ → List Proc → ℕ → ℕ → Step → Type 0
  StepIn arrays procs home vars (Do a) = ActionIn arrays vars a
  StepIn arrays procs home vars (Call x f ts) =
      TargetIn vars x × (f < home) × (length ts ≡ (nth_proc procs f).params)
      × AllByRecursion (TermIn arrays vars) ts
  StepIn arrays procs home vars (If t a b) =
      TermIn arrays vars t × StepsIn arrays procs home vars a × StepsIn arrays procs home vars b
  StepIn arrays procs home vars (While t body) =
      TermIn arrays vars t × StepsIn arrays procs home vars body

  pub StepsIn : ℕ → List Proc → ℕ → ℕ → Steps → Type 0
  StepsIn arrays procs home vars Nothing = Unit {0}
  StepsIn arrays procs home vars (Then s rest) =
      StepIn arrays procs home vars s × StepsIn arrays procs home vars rest

-- a procedure, by its number
pub record ProcIn (arrays : ℕ) (procs : List Proc) (home : ℕ) (p : Proc) : Type 0 where
  pub body : StepsIn arrays procs home (p.params + p.locals) p.body
  pub result : ResultIn arrays (p.params + p.locals) p.result
  pub few_params : p.params ≤ most_parameters
  pub few_vars : p.params + p.locals ≤ most_locals

abbrev mutual
  -- how many steps one is, with those inside it
  pub size : Step → ℕ
  size (Do a) = 1
  size (Call x f ts) = 1
  size (If t a b) = suc (size_all a + size_all b)
  size (While t body) = suc (size_all body)

  pub size_all : Steps → ℕ
  size_all Nothing = 0
  size_all (Then s rest) = size s + size_all rest

-- the steps of procedures
abbrev pub steps_in : List Proc → ℕ
steps_in [] = 0
steps_in (p ∷ ps) = size_all p.body + steps_in ps

-- `main` is the last procedure, and has no parameters
pub record ProgramIn (program : ResolvedProgram) : Type 0 where
  pub some_proc : 0 < length program.procs
  pub few_procs : length program.procs ≤ most_procedures
  pub main : (nth_proc program.procs (length program.procs - 1)).params ≡ 0
  pub names : length program.names ≡ length program.lengths
  pub lengths : AllByRecursion (λ n. n ≤ most_array_cells) program.lengths
  pub procs : (n : ℕ) → n < length program.procs →
      ProcIn (length program.lengths) program.procs n (nth_proc program.procs n)
  pub few_steps : steps_in program.procs ≤ most_statements
