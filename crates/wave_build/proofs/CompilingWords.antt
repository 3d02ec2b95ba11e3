-- That all numbers of the code's graph are words, as their type says.
use Rattle.std.proofs.Common.{ℕ, suc, List, [], ◌∷◌, ◌++◌, map}
use Rattle.std.specs.List.{AllByRecursion}
use Rattle.cfg_core.specs.Graph.{Block, GraphProc, Spot, spots_in, spots_from}
use Rattle.cfg_core.specs.View as view
use Rattle.cfg_core.specs.declared.blocks.Term.{Term}
use Rattle.cfg_core.specs.declared.blocks.Term.TheVariants.{Number, Var, Cell', Flip', Not', Neg', Binary'}
use Rattle.cfg_core.specs.declared.blocks.GraphOp.{GraphOp}
use Rattle.cfg_core.specs.declared.blocks.GraphOp.TheVariants.{Assign, Store, Print, Read, Give, Take, Choose}
use Rattle.cfg_core.specs.declared.blocks.GraphOp.TheVariants.{Tick, TickBy}
use Rattle.cfg_core.specs.declared.blocks.Leave.{Leave}
use Rattle.cfg_core.specs.declared.blocks.Leave.TheVariants.{Goto, Branch, Call, Return, Send, Stop}
use Rattle.cfg_core.specs.declared.blocks.GraphBlock as code
use Rattle.cfg_core.specs.declared.blocks.GraphProc as procs
use Rattle.cfg_core.specs.declared.blocks.Graph.{Graph}
use Rattle.wave_gen.specs.Words.{TermOfWords, OpOfWords, ExitOfWords, GraphOfWords}

abbrev BlockOfWords : Block → Type 0
BlockOfWords b = AllByRecursion OpOfWords b.ops × ExitOfWords b.exit

abbrev ProcOfWords : GraphProc → Type 0
ProcOfWords p = AllByRecursion BlockOfWords p.blocks

abbrev SpotOfWords : Spot → Type 0
SpotOfWords s = AllByRecursion OpOfWords s.block.ops × ExitOfWords s.block.exit

both : (xs ys : List Spot) → AllByRecursion SpotOfWords xs → AllByRecursion SpotOfWords ys
    → AllByRecursion SpotOfWords (xs ++ ys)
both [] ys a b = b
both (x ∷ xs) ys a b = (a.0, both xs ys a.1 b)

in_proc : (home vars : ℕ) (blocks : List Block) → AllByRecursion BlockOfWords blocks
    → AllByRecursion SpotOfWords (spots_in home vars blocks)
in_proc home vars [] a = tt
in_proc home vars (b ∷ blocks) a = (a.0, in_proc home vars blocks a.1)

in_procs : (home : ℕ) (procs : List GraphProc) → AllByRecursion ProcOfWords procs
    → AllByRecursion SpotOfWords (spots_from home procs)
in_procs home [] a = tt
in_procs home (p ∷ procs) a = both (spots_in home p.vars p.blocks) (spots_from (suc home) procs)
    (in_proc home p.vars p.blocks a.0) (in_procs (suc home) procs a.1)

-- what holds of each item holds of all of them
all_made : {A B : Type 0} (P : B → Type 0) (f : A → B) → ((x : A) → P (f x)) → (xs : List A)
    → AllByRecursion P (map f xs)
all_made P f each [] = tt
all_made P f each (x ∷ xs) = (each x, all_made P f each xs)

term_words : (t : Term) → TermOfWords (view.term t)
term_words (Number n) = n.word
term_words (Var x) = tt
term_words (Cell' a p t) = term_words t
term_words (Flip' p t) = term_words t
term_words (Not' p t) = term_words t
term_words (Neg' p t) = term_words t
term_words (Binary' op p a q b) = (term_words a, term_words b)

terms_words : (ts : List Term) → AllByRecursion TermOfWords (map view.term ts)
terms_words = all_made TermOfWords view.term term_words

op_words : (op : GraphOp) → OpOfWords (view.op op)
op_words (Assign x t) = term_words t
op_words (Store a t u) = (term_words t, term_words u)
op_words (Print t) = term_words t
op_words (Read x) = tt
op_words (Give p x) = tt
op_words (Take p t) = term_words t
op_words (Choose x t a b) = (term_words t, term_words a, term_words b)
op_words (Tick n) = tt
op_words (TickBy t n m) = term_words t

exit_words : (exit : Leave) → ExitOfWords (view.exit exit)
exit_words (Goto b) = tt
exit_words (Branch t a b) = term_words t
exit_words (Call x f ts back) = terms_words ts.items
exit_words (Return t) = term_words t
exit_words (Send t ts ls) = (term_words t, terms_words ts.items)
exit_words Stop = tt

block_words : (b : code.GraphBlock) → BlockOfWords (view.block b)
block_words b = (all_made OpOfWords view.op op_words b.ops.items, exit_words b.exit)

proc_words : (p : procs.GraphProc) → ProcOfWords (view.proc p)
proc_words p = all_made BlockOfWords view.block block_words p.blocks.items

pub code_words : (g : Graph) → GraphOfWords (view.graph g)
code_words g = in_procs 0 (view.graph g).procs (all_made ProcOfWords view.proc proc_words g.procs.items)
