-- What the graph of a program measures, and that the turns of its blocks pay for their work.
use Rattle.std.proofs.Common.{ℕ, suc, ◌+◌, ◌*◌, ◌≡◌, ◌<◌, ◌≤◌, List, [], ◌∷◌, ◌++◌, length, Option, refl, sym}
use Rattle.std.proofs.Common.{ap, ◌∙◌, subst, arith}
use Rattle.std.specs.List.{AllByRecursion, sum_by}
use Rattle.std.proofs.lemmas.List.Sums.{sum_by-cons}
use Rattle.std.proofs.Math.Nat.{mul-add}
use Rattle.std.proofs.lemmas.Nat.{mul-le}
use Rattle.src_ast.specs.declared.lexeme.Name.{Name}
use Rattle.src_ast.specs.declared.tree.Unary.{Unary}
use Rattle.src_ast.specs.Syntax as source
use Rattle.src_ast.specs.Syntax.{Expression, Statement, Statements, Last, Part as Item}
use Rattle.src_ast.specs.Bound.{nodes, nodes_of, most_nodes_of, ending_nodes, widest, most_variables}
use Rattle.src_ast.specs.Meaning.{Scope, scope_of, procs_of}
use Rattle.src_ast.specs.Rules.{statements_in}
use Rattle.seq_run.specs.Resolved.{Action, Step, Do, Call, If, While, Steps, Nothing, Then, Proc, nth_proc}
use Rattle.seq_run.specs.Resolving as resolving
use Rattle.seq_run.specs.InRange.{steps_in, ProgramIn}
use Rattle.cfg_core.specs.Graph.{Term, Tick, Exit, Branch, Block, GraphProc, GraphArray, Spot, no_spot, spots}
use Rattle.cfg_core.specs.Graph.{spots_in, spot_at}
use Rattle.cfg_core.specs.Weights.{turns_of, acts_of, jumps_of, term_nodes, op_nodes, exit_nodes, block_nodes}
use Rattle.cfg_core.specs.Weights.{TurnsPayWork}
use Rattle.cfg_build.specs.Lowered.{BlockRest, op, begun, block, ticked, leaves, goes_to, last_part, whole}
use Rattle.cfg_build.specs.Lowered.{made, proc_blocks, procs, lowered}
use Rattle.src_ast.specs.LanguageLimits.{most_procedures, most_statements, most_parameters, most_array_cells}
use Rattle.cfg_build.specs.Sizes.{own_blocks, own_ops, ending_ops, own_nodes, result_nodes, IsSized, IsSmall}
use Rattle.cfg_build.specs.Keeps.{arrays_of}
use Rattle.cfg_build.proofs.FewArrays.{FewArrays}
use Rattle.cfg_build.proofs.FewTurns.{turns_are}
use Rattle.cfg_build.proofs.Stand.{proc_spots, count_procs}
use Rattle.cfg_build.proofs.Totals.{total_procs, EachAtMost, ProcAtMost, procs_most, IsMeasure, own_of}
use Rattle.cfg_build.proofs.Totals.{procs_total, procs_same}
use Rattle.ws_words.proofs.Lists.{all_append as all_both}
use Rattle.cfg_core.proofs.Spots.{each_at}

-- Nodes of terms are those of expressions.

signed_nodes : (s : Unary) (t : Term) → term_nodes (resolving.signed s t) ≡ suc (term_nodes t)
signed_nodes s t = grind arith

nodes_same : (scope : Scope) (e : Expression) → term_nodes (resolving.term scope e) ≡ nodes e
nodes_same scope (source.Cell a e) = ap suc (nodes_same scope e)
nodes_same scope (source.Signed s e) = signed_nodes s (resolving.term scope e) ∙ ap suc (nodes_same scope e)
nodes_same scope (source.Binary o a b) = omega (arith, nodes_same scope a, nodes_same scope b)
nodes_same scope e = refl

all_nodes_same : (scope : Scope) (es : List Expression) → sum_by term_nodes (resolving.terms scope es)
    ≡ nodes_of es
all_nodes_same scope [] = refl
all_nodes_same scope (e ∷ es) =
    omega (
      arith,
      sum_by-cons term_nodes (resolving.term scope e) (resolving.terms scope es),
      nodes_same scope e,
      all_nodes_same scope es,
    )

-- Four measures: blocks, operations, nodes and turns.

one_block : IsMeasure (λ b. 1) (λ o. 0) (λ exit. 1) 1
one_block = grind arith

block_ops : IsMeasure (λ b. length b.ops) (λ o. 2) (λ exit. 1) 0
block_ops = grind arith

nodes_measured : IsMeasure block_nodes op_nodes exit_nodes 0
nodes_measured = record {
  act = λ o p. omega (arith, sum_by-cons op_nodes (Tick 1) (o ∷ p.ops), sum_by-cons op_nodes o p.ops);
  exit = λ exit. omega (arith, sum_by-cons op_nodes (Tick 1) []);
  goes = λ b. refl;
  branch = λ t a b. refl;
  call = λ x f ts b. refl;
}

turns_measured : IsMeasure (λ b. sum_by turns_of b.ops) (λ o. suc (turns_of o)) (λ exit. 1) 0
turns_measured = record {
  act = λ o p. omega (arith, sum_by-cons turns_of (Tick 1) (o ∷ p.ops), sum_by-cons turns_of o p.ops);
  exit = λ exit. omega (arith, sum_by-cons turns_of (Tick 1) []);
  goes = λ b. refl;
  branch = λ t a b. refl;
  call = λ x f ts b. refl;
}

blocks_same : (scope : Scope) (s : Statement) → own_of (λ o. 0) (λ exit. 1) 1 (resolving.one scope s)
    ≡ own_blocks s
blocks_same scope s = grind arith

ops_same : (scope : Scope) (s : Statement) → own_of (λ o. 2) (λ exit. 1) 0 (resolving.one scope s) ≡ own_ops s
ops_same scope s = grind arith

abbrev step_turns : Step → ℕ
step_turns s = own_of (λ o. suc (turns_of o)) (λ exit. 1) 0 s

turns_same : (scope : Scope) (s : Statement) → step_turns (resolving.one scope s) ≡ 1
turns_same scope s = grind arith

abbrev step_nodes : Step → ℕ
step_nodes s = own_of op_nodes exit_nodes 0 s

step_nodes_same : (scope : Scope) (s : Statement) → step_nodes (resolving.one scope s) ≡ own_nodes s
step_nodes_same scope s = grind (arith, nodes_same, all_nodes_same)

abbrev last_ops : Option Term → ℕ
last_ops r = length (block (last_part r)).ops

abbrev last_turns : Option Term → ℕ
last_turns r = sum_by turns_of (block (last_part r)).ops

abbrev last_nodes : Option Term → ℕ
last_nodes r = block_nodes (block (last_part r))

last_ops_same : (scope : Scope) (r : Option Last) → last_ops (resolving.result scope r) ≡ ending_ops r
last_ops_same scope r = grind arith

last_turns_same : (scope : Scope) (r : Option Last) → last_turns (resolving.result scope r) ≡ ending_ops r
last_turns_same scope r = grind arith

last_nodes_same : (scope : Scope) (r : Option Last) → last_nodes (resolving.result scope r) ≡ result_nodes r
last_nodes_same scope r = grind (arith, sum_by-cons, nodes_same)

count_ones : {A : Type 0} (xs : List A) → sum_by (λ (x : A). 1) xs ≡ length xs
count_ones [] = refl
count_ones {A = A} (x ∷ xs) = let e = sum_by-cons (λ (x : A). 1) x xs in omega (arith, e, count_ones xs)

module _ (ps : List Proc) where
  abbrev graph_spots : List Spot
  graph_spots = proc_spots 0 ps 0

  blocks_total : length graph_spots ≡ total_procs (own_of (λ o. 0) (λ exit. 1) 1) (λ r. 1) ps
  blocks_total = sym (count_ones graph_spots) ∙ procs_total (λ b. 1) (λ o. 0) (λ exit. 1) 1 one_block 0 ps 0

  ops_total : sum_by (λ (s : Spot). length s.block.ops) graph_spots ≡ total_procs
      (own_of (λ o. 2) (λ exit. 1) 0) last_ops ps
  ops_total = procs_total (λ b. length b.ops) (λ o. 2) (λ exit. 1) 0 block_ops 0 ps 0

  nodes_total : sum_by (λ (s : Spot). block_nodes s.block) graph_spots ≡ total_procs step_nodes last_nodes ps
  nodes_total = procs_total block_nodes op_nodes exit_nodes 0 nodes_measured 0 ps 0

  turns_total : sum_by (λ (s : Spot). sum_by turns_of s.block.ops) graph_spots ≡ total_procs step_turns
      last_turns ps
  turns_total = procs_total (λ b. sum_by turns_of b.ops) (λ o. suc (turns_of o)) (λ exit. 1) 0 turns_measured
      0 ps 0

pub is_sized : (parts : List Item) → IsSized (procs_of parts) (lowered (resolving.program parts))
is_sized parts =
    let ps = (resolving.program parts).procs in record {
      blocks = blocks_total ps ∙ procs_same (own_of (λ o. 0) (λ exit. 1) 1) own_blocks blocks_same (λ r. 1)
          (λ r. 1) (λ scope r. refl) _ _ (procs_of parts);
      ops = ops_total ps ∙ procs_same (own_of (λ o. 2) (λ exit. 1) 0) own_ops ops_same last_ops ending_ops
          last_ops_same _ _ (procs_of parts);
      nodes = nodes_total ps ∙ procs_same step_nodes own_nodes step_nodes_same last_nodes result_nodes
          last_nodes_same _ _ (procs_of parts);
      turns = turns_total ps ∙ procs_same step_turns (λ s. 1) turns_same last_turns ending_ops last_turns_same
          _ _ (procs_of parts);
    }

-- Each step has at most the nodes of the widest statement.

narrow : (most : ℕ) (scope : Scope) (b : Statements) → most_nodes_of b ≤ most
    → EachAtMost step_nodes most (resolving.all scope b)
narrow most scope source.Nothing h = tt
narrow most scope (source.Then (source.Assign at x e) rest) h =
    (omega (arith, nodes_same scope e), narrow most scope rest (omega arith))
narrow most scope (source.Then (source.Store at a i e) rest) h =
    (omega (arith, nodes_same scope i, nodes_same scope e), narrow most scope rest (omega arith))
narrow most scope (source.Then (source.Print at e) rest) h =
    (omega (arith, nodes_same scope e), narrow most scope rest (omega arith))
narrow most scope (source.Then (source.Read at x) rest) h =
    (omega arith, narrow most scope rest (omega arith))
narrow most scope (source.Then (source.Give at n q x) rest) h =
    (omega arith, narrow most scope rest (omega arith))
narrow most scope (source.Then (source.Take at n q e) rest) h =
    (omega (arith, nodes_same scope e), narrow most scope rest (omega arith))
narrow most scope (source.Then (source.Call at x f es) rest) h =
    (omega (arith, all_nodes_same scope es), narrow most scope rest (omega arith))
narrow most scope (source.Then (source.If at e a b) rest) h = (
  omega (arith, nodes_same scope e),
  narrow most scope a (omega arith),
  narrow most scope b (omega arith),
  narrow most scope rest (omega arith),
)
narrow most scope (source.Then (source.While at e body) rest) h =
    grind (arith, nodes_same, narrow most scope body (omega arith), narrow most scope rest (omega arith))

last_narrow : (most : ℕ) (scope : Scope) (r : Option Last) → ending_nodes r ≤ most
    → last_nodes (resolving.result scope r) ≤ most + 1
last_narrow most scope r h = grind (arith, sum_by-cons, nodes_same)

abbrev ProcNarrow : ℕ → Proc → Type 0
ProcNarrow most p = ProcAtMost step_nodes last_nodes most (most + 1) p

all_narrow : (most : ℕ) (arrays names : List Name) (parts : List Item) → widest parts ≤ most
    → AllByRecursion (ProcNarrow most) (resolving.procs arrays names (procs_of parts))
all_narrow most arrays names [] h = tt
all_narrow most arrays names (source.Array x n at ∷ parts) h = all_narrow most arrays names parts h
all_narrow most arrays names (source.Proc p ∷ parts) h =
    grind (arith, narrow, last_narrow, all_narrow most arrays names parts (omega arith))

-- The turns of a block pay for its work.

module _ (most : ℕ) where
  record Works (x : Block) : Type 0 where
    acts : sum_by acts_of x.ops + jumps_of x.exit ≤ sum_by turns_of x.ops
    nodes : block_nodes x ≤ most * sum_by turns_of x.ops + 1

  op_works : (a : Action) → (turns_of (op a) ≡ 0) × (acts_of (op a) ≡ 1)
  op_works a = grind arith

  ticked_works : (a : Action) (p : BlockRest) → op_nodes (op a) ≤ most → Works (block p)
      → Works (block (ticked (op a) p))
  ticked_works a p le h =
      let o = op a in let turns = sum_by turns_of p.ops in
      let t1 = sum_by-cons turns_of (Tick 1) (o ∷ p.ops) in let t2 = sum_by-cons turns_of o p.ops in
      let a1 = sum_by-cons acts_of (Tick 1) (o ∷ p.ops) in let a2 = sum_by-cons acts_of o p.ops in
      let n1 = sum_by-cons op_nodes (Tick 1) (o ∷ p.ops) in let n2 = sum_by-cons op_nodes o p.ops in
      let w = op_works a in
      let t : sum_by turns_of (Tick 1 ∷ o ∷ p.ops) ≡ 1 + turns = omega (arith, t1, t2, w.0) in record {
        acts = omega (arith, t, a1, a2, w.1, h.acts);
        nodes = omega (arith, n1, n2, le, h.nodes, ap (λ n. most * n) t, mul-add most 1 turns);
      }

  leaves_works : (exit : Exit) → jumps_of exit ≤ 1 → exit_nodes exit ≤ most + 1 → Works (block (leaves exit))
  leaves_works exit jump le = grind (arith, sum_by-cons)

  goes_works : (b : ℕ) → Works (block (goes_to b))
  goes_works b = record { acts = omega arith; nodes = omega arith }

  last_works : (r : Option Term) → last_nodes r ≤ most + 1 → Works (block (last_part r))
  last_works r h = grind (arith, leaves_works, sum_by-cons)

  abbrev AllWork : List Block → Type 0
  AllWork xs = AllByRecursion Works xs

  made_works : (st : Steps) (c : ℕ) (rest : BlockRest) → EachAtMost step_nodes most st → Works (block rest)
      → AllWork (whole (made st c rest))
  made_works Nothing c rest h last = (last, tt)
  made_works (Then (Do a) more) c rest h last = let r = made_works more c rest h.1 last in
      (ticked_works a (made more c rest).front h.0 r.0, r.1)
  made_works (Then (Call x f ts) more) c rest h last =
      grind (arith, leaves_works, made_works more (suc c) rest h.1 last)
  made_works (Then (If t a b) more) c rest h last =
      let second = suc (suc c + begun a) in let join = suc (second + begun b) in
      let wb = whole (made b second (goes_to join)) in let wm = whole (made more join rest) in (
        leaves_works (Branch t (suc c) second) (omega arith) (omega (arith, h.0)),
        all_both Works (whole (made a (suc c) (goes_to join))) (wb ++ wm) (made_works a (suc c) (goes_to
            join) h.1 (goes_works join)) (all_both Works wb wm (made_works b second (goes_to join) h.2
            (goes_works join)) (made_works more join rest h.3 last)),
      )
  made_works (Then (While t body) more) c rest h last =
      let inside = suc (suc c) in let after = suc (inside + begun body) in (
        goes_works (suc c),
        (
          leaves_works (Branch t inside after) (omega arith) (omega (arith, h.0)),
          all_both Works (whole (made body inside (goes_to (suc c)))) (whole (made more after rest))
              (made_works body inside (goes_to (suc c)) h.1 (goes_works (suc c)))
              (made_works more after rest h.2 last),
        ),
      )

  abbrev SpotWorks : Spot → Type 0
  SpotWorks s = Works s.block

  spots_work : (home vars : ℕ) (xs : List Block) → AllWork xs
      → AllByRecursion SpotWorks (spots_in home vars xs)
  spots_work home vars [] h = tt
  spots_work home vars (x ∷ xs) h = (h.0, spots_work home vars xs h.1)

  procs_work : (home : ℕ) (ps : List Proc) (c : ℕ) → AllByRecursion (ProcNarrow most) ps
      → AllByRecursion SpotWorks (proc_spots home ps c)
  procs_work home [] c h = tt
  procs_work home (p ∷ ps) c h =
      let next = suc (c + begun p.body) in let vars = p.params + p.locals in
      all_both SpotWorks (spots_in home vars (proc_blocks p c)) (proc_spots (suc home) ps next)
      (spots_work home vars (proc_blocks p c) (made_works p.body c (last_part p.result) h.0.body
      (last_works p.result h.0.result)))
      (procs_work (suc home) ps next h.1)

  none_works : SpotWorks no_spot
  unfolding no_spot
  none_works = record { acts = omega arith; nodes = omega arith }

pub turns_pay_work : (parts : List Item) → TurnsPayWork (lowered (resolving.program parts)) (widest parts)
unfolding spot_at
turns_pay_work parts =
    let g = lowered (resolving.program parts) in let most = widest parts in
    let all : AllByRecursion (SpotWorks most) (spots g) = procs_work most 0 (resolving.program parts).procs 0
    (all_narrow most _ _ parts (omega arith)) in
    let at : (b : ℕ) → SpotWorks most (spot_at g b) = λ b. each_at (SpotWorks most) (spots g) no_spot all
    (none_works most) b in
    record { acts = λ b. (at b).acts; nodes = λ b. (at b).nodes }

-- The limits of the language make it small.

each_few : (own : Step → ℕ) (most : ℕ) → ((s : Step) → own s ≤ most) → (st : Steps) → EachAtMost own most st
each_few own most h Nothing = tt
each_few own most h (Then (Do a) rest) = (h (Do a), each_few own most h rest)
each_few own most h (Then (Call x f ts) rest) = (h (Call x f ts), each_few own most h rest)
each_few own most h (Then (If t a b) rest) =
    grind (arith, each_few own most h a, each_few own most h b, each_few own most h rest)
each_few own most h (Then (While t body) rest) =
    grind (arith, each_few own most h body, each_few own most h rest)

all_few : (own : Step → ℕ) (last : Option Term → ℕ) (most more : ℕ) → ((s : Step) → own s ≤ most)
    → ((r : Option Term) → last r ≤ more) → (ps : List Proc) → AllByRecursion (ProcAtMost own last most more)
    ps
all_few own last most more h i [] = tt
all_few own last most more h i (p ∷ ps) = grind (arith, each_few, all_few own last most more h i ps)

few_blocks : (s : Step) → own_of (λ o. 0) (λ exit. 1) 1 s ≤ 3
few_blocks s = grind arith

few_ops : (s : Step) → own_of (λ o. 2) (λ exit. 1) 0 s ≤ 2
few_ops s = grind arith

few_last_ops : (r : Option Term) → last_ops r ≤ 1
few_last_ops r = grind arith

few_params : (ps : List Proc) (c : ℕ) → ((n : ℕ) → n < length ps → (nth_proc ps n).params ≤ most_parameters)
    → AllByRecursion (λ (p : GraphProc). p.params ≤ most_parameters) (procs ps c)
few_params [] c h = tt
few_params (p ∷ ps) c h =
    (h 0 (omega arith), few_params ps (suc (c + begun p.body)) (λ n lt. h (suc n) (omega (arith, lt))))

few_vars : (most : ℕ) (arrays names : List Name) (parts : List Item) (c : ℕ) → most_variables parts ≤ most
    → AllByRecursion (λ (p : GraphProc). p.vars ≤ most) (procs (resolving.procs arrays names (procs_of parts))
    c)
few_vars most arrays names [] c h = tt
few_vars most arrays names (source.Array x n at ∷ parts) c h = few_vars most arrays names parts c h
few_vars most arrays names (source.Proc p ∷ parts) c h = (
  omega arith,
  few_vars most arrays names parts (suc (c + begun (resolving.proc (scope_of arrays names p) p).body))
      (omega arith),
)

pub is_small : (parts : List Item) → ProgramIn (resolving.program parts)
    → (lowered (resolving.program parts)).arrays ≡ arrays_of parts → FewArrays 0 0 parts
    → statements_in parts ≤ most_statements → IsSmall parts (lowered (resolving.program parts))
is_small parts fit same few short =
    let program = resolving.program parts in let ps = program.procs in let most = widest parts in
    let many : length (procs ps 0) ≡ length ps = count_procs ps 0 in
    let blocks = procs_most (own_of (λ o. 0) (λ exit. 1) 1) (λ r. 1) 3 1 ps
    (all_few _ (λ r. 1) 3 1 few_blocks (λ r. omega arith) ps) in
    let ops = procs_most (own_of (λ o. 2) (λ exit. 1) 0) last_ops 2 1 ps
    (all_few _ last_ops 2 1 few_ops few_last_ops ps) in
    let nodes = procs_most step_nodes last_nodes most (most + 1) ps
    (all_narrow most _ _ parts (omega arith)) in
    let steps = mul-le most (steps_in ps) most most_statements (omega arith) fit.few_steps in
    let ends = mul-le (most + 1) (length ps) (most + 1) most_procedures (omega arith) fit.few_procs in
    record {
      arrays = omega (arith, few.count, ap (λ (xs : List GraphArray). length xs) same);
      lengths = subst (λ (xs : List GraphArray). AllByRecursion (λ a. a.length ≤ most_array_cells) xs)
          (sym same) few.lengths;
      cells = omega (arith, few.cells, ap (sum_by (λ (a : GraphArray). a.length)) same);
      procs = omega (arith, many, fit.few_procs);
      params = few_params ps 0 (λ n lt. (fit.procs n lt).few_params);
      vars = few_vars (most_variables parts) _ _ parts 0 (omega arith);
      blocks = omega (arith, blocks_total ps, blocks, fit.few_steps, fit.few_procs);
      ops = omega (arith, ops_total ps, ops, fit.few_steps, fit.few_procs);
      nodes = omega (arith, nodes_total ps, nodes, steps, ends);
      turns = omega (arith, (is_sized parts).turns, turns_are parts, short);
    }
