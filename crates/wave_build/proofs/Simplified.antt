-- A lowered graph with its constants folded is as small as it was, and of the first form.
use Rattle.std.proofs.Common.{ℕ, ◌≡◌, ◌≤◌, List, [], ◌∷◌, length, map, sym, ap, ◌∙◌, subst, arith}
use Rattle.std.specs.List.{AllByRecursion, sum_by}
use Rattle.src_ast.specs.Syntax.{Part}
use Rattle.src_ast.specs.Bound.{most_variables}
use Rattle.src_ast.specs.LanguageLimits.{most_parameters, most_array_cells, most_cells}
use Rattle.cfg_core.specs.Graph.{Op, Assign, Store, Print, Read, Give, Take, Choose, Tick, TickBy, Exit, Goto}
use Rattle.cfg_core.specs.Graph.{Branch, Call, Return, Send, Stop, GraphArray, GraphProc, Graph, Spot}
use Rattle.cfg_build.specs.Keeps.{IsFirstOp, IsFirstExit, IsFirstForm}
use Rattle.cfg_build.specs.Sizes.{IsSmall}
use Rattle.cfg_fold.specs.Keeps.{outline, exit_outline, proc_outline, SameOutline, SizesKept}
use Rattle.cfg_fold.proofs.Outlined.{all_kept}
use Rattle.ws_words.proofs.Lists.{length_map as map_count}

-- what an outline of a procedure decides
procs_through : (P : GraphProc → Type 0) → ((p q : GraphProc) → proc_outline q ≡ proc_outline p → P p → P q)
    → (ps qs : List GraphProc) → map proc_outline qs ≡ map proc_outline ps → AllByRecursion P ps
    → AllByRecursion P qs
procs_through P f [] [] e h = tt
procs_through P f [] (q ∷ qs) e h = absurd (cc)
procs_through P f (p ∷ ps) [] e h = absurd (cc)
procs_through P f (p ∷ ps) (q ∷ qs) e h = (f p q (cc) h.0, procs_through P f ps qs (cc) h.1)

params_through : (n : ℕ) (p q : GraphProc) → proc_outline q ≡ proc_outline p → p.params ≤ n → q.params ≤ n
params_through n p q e le = subst (λ m. m ≤ n) (sym (ap (λ (r : GraphProc). r.params) e)) le

vars_through : (n : ℕ) (p q : GraphProc) → proc_outline q ≡ proc_outline p → p.vars ≤ n → q.vars ≤ n
vars_through n p q e le = subst (λ m. m ≤ n) (sym (ap (λ (r : GraphProc). r.vars) e)) le

-- an operation is of the first form as its outline is
op_of_outline : (op : Op) → IsFirstOp (outline op) → IsFirstOp op
op_of_outline (Assign x t) i = tt
op_of_outline (Store a t u) i = tt
op_of_outline (Print t) i = tt
op_of_outline (Read x) i = tt
op_of_outline (Give p x) i = tt
op_of_outline (Take p t) i = tt
op_of_outline (Choose x t a b) i = absurd i
op_of_outline (Tick n) i = i
op_of_outline (TickBy t n m) i = absurd i

outline_of_op : (op : Op) → IsFirstOp op → IsFirstOp (outline op)
outline_of_op (Assign x t) i = tt
outline_of_op (Store a t u) i = tt
outline_of_op (Print t) i = tt
outline_of_op (Read x) i = tt
outline_of_op (Give p x) i = tt
outline_of_op (Take p t) i = tt
outline_of_op (Choose x t a b) i = absurd i
outline_of_op (Tick n) i = i
outline_of_op (TickBy t n m) i = absurd i

op_through : (x y : Op) → outline y ≡ outline x → IsFirstOp x → IsFirstOp y
op_through x y e i = op_of_outline y (subst IsFirstOp (sym e) (outline_of_op x i))

ops_through : (xs ys : List Op) → map outline ys ≡ map outline xs → AllByRecursion IsFirstOp xs
    → AllByRecursion IsFirstOp ys
ops_through [] [] e h = tt
ops_through [] (y ∷ ys) e h = absurd (cc)
ops_through (x ∷ xs) [] e h = absurd (cc)
ops_through (x ∷ xs) (y ∷ ys) e h = (op_through x y (cc) h.0, ops_through xs ys (cc) h.1)

exit_of_outline : (x : Exit) → IsFirstExit (exit_outline x) → IsFirstExit x
exit_of_outline (Goto b) i = tt
exit_of_outline (Branch t a b) i = tt
exit_of_outline (Call x f ts back) i = tt
exit_of_outline (Return t) i = tt
exit_of_outline (Send t ts ls) i = absurd i
exit_of_outline Stop i = tt

outline_of_exit : (x : Exit) → IsFirstExit x → IsFirstExit (exit_outline x)
outline_of_exit (Goto b) i = tt
outline_of_exit (Branch t a b) i = tt
outline_of_exit (Call x f ts back) i = tt
outline_of_exit (Return t) i = tt
outline_of_exit (Send t ts ls) i = absurd i
outline_of_exit Stop i = tt

exit_through : (x y : Exit) → exit_outline y ≡ exit_outline x → IsFirstExit x → IsFirstExit y
exit_through x y e i = exit_of_outline y (subst IsFirstExit (sym e) (outline_of_exit x i))

module _ (g h : Graph) (e : SameOutline g h) where
  pub form_still : IsFirstForm g → IsFirstForm h
  form_still form = record {
    ops = all_kept (λ s. AllByRecursion IsFirstOp s.block.ops)
        (λ s t d. ops_through s.block.ops t.block.ops (ap (λ (x : Spot). x.block.ops) d)) g h e form.ops;
    exits = all_kept (λ s. IsFirstExit s.block.exit)
        (λ s t d. exit_through s.block.exit t.block.exit (ap (λ (x : Spot). x.block.exit) d)) g h e
        form.exits;
    named = all_kept (λ s. s.block.named ≡ [])
        (λ s t d n. ap (λ (x : Spot). x.block.named) d ∙ n) g h e form.named;
  }

  same_arrays : h.arrays ≡ g.arrays
  same_arrays = ap (λ (x : Graph). x.arrays) e

  same_procs : map proc_outline h.procs ≡ map proc_outline g.procs
  same_procs = ap (λ (x : Graph). x.procs) e

  proc_count : length h.procs ≡ length g.procs
  proc_count = sym (map_count proc_outline h.procs)
      ∙ ap (λ (ps : List GraphProc). length ps) same_procs
      ∙ map_count proc_outline g.procs

  pub small_still : (parts : List Part) → SizesKept g h → IsSmall parts g → IsSmall parts h
  small_still parts sizes small = record {
    arrays = let a = ap (λ (xs : List GraphArray). length xs) same_arrays in let s = small.arrays in
        omega (arith, a, s);
    lengths = subst (λ xs. AllByRecursion (λ (a : GraphArray). a.length ≤ most_array_cells) xs)
        (sym same_arrays) small.lengths;
    cells = subst (λ xs. sum_by (λ (a : GraphArray). a.length) xs ≤ most_cells) (sym same_arrays) small.cells;
    procs = let s = small.procs in omega (arith, proc_count, s);
    params = procs_through (λ p. p.params ≤ most_parameters) (params_through most_parameters) g.procs h.procs
        same_procs small.params;
    vars = procs_through (λ p. p.vars ≤ most_variables parts) (vars_through (most_variables parts)) g.procs
        h.procs same_procs small.vars;
    blocks = let s = small.blocks in let z = sizes.blocks in omega (arith, s, z);
    ops = let s = small.ops in let z = sizes.ops in omega (arith, s, z);
    nodes = let s = small.nodes in let z = sizes.all_nodes in omega (arith, s, z);
    turns = let s = small.turns in let z = sizes.turns in omega (arith, s, z);
  }
