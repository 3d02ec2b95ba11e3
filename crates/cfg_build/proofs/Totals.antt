-- Sums over the blocks of a lowered graph are sums over the statements of its program.
use Rattle.std.proofs.Common.{ℕ, suc, ◌+◌, ◌*◌, ◌≡◌, ◌≤◌, List, [], ◌∷◌, ◌++◌, length, Option, refl, arith}
use Rattle.std.specs.List.{AllByRecursion, sum_by}
use Rattle.std.proofs.lemmas.List.Sums.{sum_by-cons, sum_by-append}
use Rattle.std.proofs.Math.Nat.{mul-add}
use Rattle.src_ast.specs.declared.lexeme.Name.{Name}
use Rattle.src_ast.specs.Syntax as source
use Rattle.src_ast.specs.Syntax.{Statement, Statements, Last, Procedure}
use Rattle.src_ast.specs.Meaning.{Scope}
use Rattle.seq_run.specs.Resolved.{Step, Do, Call, If, While, Steps, Nothing, Then, Proc}
use Rattle.seq_run.specs.Resolving as resolving
use Rattle.seq_run.specs.InRange.{size_all, steps_in}
use Rattle.cfg_core.specs.Graph as graph
use Rattle.cfg_core.specs.Graph.{Term, Op, Exit, Branch, Block, Spot, spots_in}
use Rattle.cfg_build.specs.Lowered.{BlockRest, op, begun, block, ticked, leaves, goes_to, last_part, whole}
use Rattle.cfg_build.specs.Lowered.{made, proc_blocks}
use Rattle.cfg_build.specs.Sizes.{sum_over, sum_procs}
use Rattle.cfg_build.proofs.Stand.{proc_spots}

-- the sum over steps, with those inside them
abbrev pub total : (Step → ℕ) → Steps → ℕ
total own Nothing = 0
total own (Then (Do a) rest) = own (Do a) + total own rest
total own (Then (Call x f ts) rest) = own (Call x f ts) + total own rest
total own (Then (If t a b) rest) = own (If t a b) + (total own a + total own b) + total own rest
total own (Then (While t body) rest) = own (While t body) + total own body + total own rest

-- the same over procedures, each with its result
abbrev pub total_procs : (Step → ℕ) → (Option Term → ℕ) → List Proc → ℕ
total_procs own last [] = 0
total_procs own last (p ∷ ps) = total own p.body + last p.result + total_procs own last ps

-- each step has at most so much
abbrev pub EachAtMost : (Step → ℕ) → ℕ → Steps → Type 0
EachAtMost own most Nothing = Unit {0}
EachAtMost own most (Then (Do a) rest) = (own (Do a) ≤ most) × EachAtMost own most rest
EachAtMost own most (Then (Call x f ts) rest) = (own (Call x f ts) ≤ most) × EachAtMost own most rest
EachAtMost own most (Then (If t a b) rest) = (own (If t a b) ≤ most) × EachAtMost own most a
    × EachAtMost own most b × EachAtMost own most rest
EachAtMost own most (Then (While t body) rest) = (own (While t body) ≤ most) × EachAtMost own most body
    × EachAtMost own most rest

total_most : (own : Step → ℕ) (most : ℕ) (st : Steps) → EachAtMost own most st
    → total own st ≤ most * size_all st
total_most own most Nothing h = omega arith
total_most own most (Then (Do a) rest) h = grind (arith, mul-add, total_most own most rest h.1)
total_most own most (Then (Call x f ts) rest) h = grind (arith, mul-add, total_most own most rest h.1)
total_most own most (Then (If t a b) rest) h =
    grind (arith, mul-add, total_most own most a h.1, total_most own most b h.2, total_most own most rest h.3)
total_most own most (Then (While t body) rest) h =
    grind (arith, mul-add, total_most own most body h.1, total_most own most rest h.2)

-- the same of a procedure and its result
pub record ProcAtMost (own : Step → ℕ) (last : Option Term → ℕ) (most more : ℕ) (p : Proc) : Type 0 where
  pub body : EachAtMost own most p.body
  pub result : last p.result ≤ more

pub procs_most : (own : Step → ℕ) (last : Option Term → ℕ) (most more : ℕ) (ps : List Proc)
    → AllByRecursion (ProcAtMost own last most more) ps → total_procs own last ps ≤ most * steps_in ps + more
    * length ps
procs_most own last most more [] h = omega arith
procs_most own last most more (p ∷ ps) h =
    grind (arith, mul-add, total_most, procs_most own last most more ps h.1)

-- a measure of blocks, by its value at an operation after a turn, at an exit after a turn, and at a Goto
-- alone
pub record IsMeasure (measure : Block → ℕ) (acts : Op → ℕ) (exits : Exit → ℕ) (goto : ℕ) : Type 0 where
  pub act : (o : Op) (p : BlockRest) → measure (block (ticked o p)) ≡ acts o + measure (block p)
  pub exit : (exit : Exit) → measure (block (leaves exit)) ≡ exits exit
  pub goes : (b : ℕ) → measure (block (goes_to b)) ≡ goto
  pub branch : (t : Term) (a b : ℕ) → exits (Branch t a b) ≡ exits (Branch t 0 0)
  pub call : (x : Option ℕ) (f : ℕ) (ts : List Term) (b : ℕ) → exits (graph.Call x f ts b)
      ≡ exits (graph.Call x f ts 0)

-- what a step adds to the measure of a graph
abbrev pub own_of : (Op → ℕ) → (Exit → ℕ) → ℕ → Step → ℕ
own_of acts exits goto (Do a) = acts (op a)
own_of acts exits goto (Call x f ts) = exits (graph.Call x f (ts) 0)
own_of acts exits goto (If t a b) = exits (Branch t 0 0) + (goto + goto)
own_of acts exits goto (While t body) = exits (Branch t 0 0) + (goto + goto)

module _ (measure : Block → ℕ) (acts : Op → ℕ) (exits : Exit → ℕ) (goto : ℕ)
    (is : IsMeasure measure acts exits goto) where
  made_total : (st : Steps) (c : ℕ) (rest : BlockRest) → sum_by measure (whole (made st c rest))
      ≡ total (own_of acts exits goto) st + measure (block rest)
  made_total Nothing c rest = let e = sum_by-cons measure (block rest) [] in omega (arith, e)
  made_total (Then (Do a) more) c rest = grind (arith, sum_by-cons, made_total more c rest)
  made_total (Then (Call x f ts) more) c rest =
      let exit = graph.Call x f (ts) (suc c) in
      omega (
        arith,
        sum_by-cons measure (block (leaves exit)) (whole (made more (suc c) rest)),
        is.exit exit,
        is.call x f (ts) (suc c),
        made_total more (suc c) rest,
      )
  made_total (Then (If t a b) more) c rest =
      let second = suc (suc c + begun a) in let join = suc (second + begun b) in
      let wa = whole (made a (suc c) (goes_to join)) in let wb = whole (made b second (goes_to join)) in
      let wm = whole (made more join rest) in
      let exit = Branch t (suc c) second in
      omega (
        arith,
        sum_by-cons measure (block (leaves exit)) (wa ++ (wb ++ wm)),
        sum_by-append measure wa (wb ++ wm),
        sum_by-append measure wb wm,
        is.exit exit,
        is.branch t (suc c) second,
        is.goes join,
        made_total a (suc c) (goes_to join),
        made_total b second (goes_to join),
        made_total more join rest,
      )
  made_total (Then (While t body) more) c rest =
      let inside = suc (suc c) in let after = suc (inside + begun body) in
      let wb = whole (made body inside (goes_to (suc c))) in let wm = whole (made more after rest) in
      let exit = Branch t inside after in
      omega (
        arith,
        sum_by-cons measure (block (goes_to (suc c))) (block (leaves exit) ∷ (wb ++ wm)),
        sum_by-cons measure (block (leaves exit)) (wb ++ wm),
        sum_by-append measure wb wm,
        is.goes (suc c),
        is.exit exit,
        is.branch t inside after,
        made_total body inside (goes_to (suc c)),
        made_total more after rest,
      )

  spots_total : (home vars : ℕ) (xs : List Block) → sum_by (λ (s : Spot). measure s.block)
      (spots_in home vars xs) ≡ sum_by measure xs
  spots_total home vars [] = refl
  spots_total home vars (x ∷ xs) =
      let s : Spot = record { home = home; vars = vars; block = x } in
      omega (
        arith,
        sum_by-cons (λ (s : Spot). measure s.block) s (spots_in home vars xs),
        sum_by-cons measure x xs,
        spots_total home vars xs,
      )

  -- the measure of a graph
  pub procs_total : (home : ℕ) (ps : List Proc) (c : ℕ) → sum_by (λ (s : Spot). measure s.block)
      (proc_spots home ps c) ≡ total_procs (own_of acts exits goto) (λ r. measure (block (last_part r))) ps
  procs_total home [] c = refl
  procs_total home (p ∷ ps) c =
      let next = suc (c + begun p.body) in let vars = p.params + p.locals in
      omega (
        arith,
        sum_by-append (λ (s : Spot). measure s.block) (spots_in home vars (proc_blocks p c))
            (proc_spots (suc home) ps next),
        spots_total home vars (proc_blocks p c),
        made_total p.body c (last_part p.result),
        procs_total (suc home) ps next,
      )

-- Steps stand for statements.

module _ (own : Step → ℕ) (counted : Statement → ℕ) (same : (scope : Scope) (s : Statement)
    → own (resolving.one scope s) ≡ counted s) where
  steps_same : (scope : Scope) (b : Statements) → total own (resolving.all scope b) ≡ sum_over counted b
  steps_same scope source.Nothing = refl
  steps_same scope (source.Then (source.Assign at x e) rest) =
      omega (arith, same scope (source.Assign at x e), steps_same scope rest)
  steps_same scope (source.Then (source.Store at a i e) rest) =
      omega (arith, same scope (source.Store at a i e), steps_same scope rest)
  steps_same scope (source.Then (source.Print at e) rest) =
      omega (arith, same scope (source.Print at e), steps_same scope rest)
  steps_same scope (source.Then (source.Read at x) rest) =
      omega (arith, same scope (source.Read at x), steps_same scope rest)
  steps_same scope (source.Then (source.Give at n q x) rest) =
      omega (arith, same scope (source.Give at n q x), steps_same scope rest)
  steps_same scope (source.Then (source.Take at n q e) rest) =
      omega (arith, same scope (source.Take at n q e), steps_same scope rest)
  steps_same scope (source.Then (source.Call at x f es) rest) =
      omega (arith, same scope (source.Call at x f es), steps_same scope rest)
  steps_same scope (source.Then (source.If at e a b) rest) = omega (
    arith,
    same scope (source.If at e a b),
    steps_same scope a,
    steps_same scope b,
    steps_same scope rest,
  )
  steps_same scope (source.Then (source.While at e body) rest) =
      omega (arith, same scope (source.While at e body), steps_same scope body, steps_same scope rest)

  -- over all procedures
  pub procs_same : (last : Option Term → ℕ) (ending : Option Last → ℕ)
      → ((scope : Scope) (r : Option Last) → last (resolving.result scope r) ≡ ending r)
      → (arrays names : List Name) (ps : List Procedure)
      → total_procs own last (resolving.procs arrays names ps) ≡ sum_procs counted ending ps
  procs_same last ending results arrays names [] = refl
  procs_same last ending results arrays names (p ∷ ps) =
      grind (arith, steps_same, procs_same last ending results arrays names ps)
