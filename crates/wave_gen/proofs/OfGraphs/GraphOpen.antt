-- Drafts of graphs are open to notes.
use Rattle.std.proofs.Common.{◌++◌, ℕ, suc, ◌≡◌, ◌<◌, ◌≤◌, Bool, true, List, [], ◌∷◌, length, map, refl}
use Rattle.std.proofs.Common.{sym, ap, subst, arith}
use Rattle.std.specs.List.{AllByRecursion}
use Rattle.ws_words.specs.Outside.{World, zeros, WorldOfWords}
use Rattle.ws_isa.specs.declared.instr.Op.{Op}
use Rattle.ws_isa.specs.Image.{Image, Array, cells_of}
use Rattle.ws_isa.specs.Formed as formed
use Rattle.ws_isa.specs.Open.{OpenToNotes}
use Rattle.cfg_core.specs.Graph as graph
use Rattle.cfg_core.specs.Graph.{Term, Cell, Flip, Not, Neg, Binary, GraphArray, Graph, spots}
use Rattle.cfg_core.specs.Graph.{spot_at, block_at}
use Rattle.cfg_core.specs.Rules.{TermIn, OpIn, ExitIn}
use Rattle.cfg_core.specs.Walk as walks
use Rattle.wave_cut.specs.Cut.{Cut}
use Rattle.wave_gen.specs.Plans.{Plan, plan_at, draft_of}
use Rattle.wave_gen.specs.Gen.{gen_ops}
use Rattle.wave_gen.specs.Shared.{none_known}
use Rattle.wave_gen.proofs.OfItems.Sharing.{shared_items}
use Rattle.wave_gen.specs.Listing.{gen_exit, place_of, width_of, plans_of, needed, nothing_zeroed}
use Rattle.wave_gen.specs.Listing.{graph_draft}
use Rattle.wave_gen.specs.Fitting.{Fits}
use Rattle.wave_gen.specs.Words.{GraphOfWords, array_of, arrays_of}
use Rattle.wave_gen.specs.Lists.{ListsFit}
use Rattle.wave_gen.specs.Keeps.{KeepsWalk}
use Rattle.wave_gen.proofs.Walking.WordsStay.{words_fine}
use Rattle.wave_gen.proofs.Walking.Keeping_walks.{draft_lists, keeps_walk}
use Rattle.wave_gen.proofs.OfItems.Lines.{Items}
use Rattle.wave_gen.proofs.Drawing.Drafts.{Kind}
use Rattle.wave_gen.proofs.Drawing.OpsIn.{Plain, TermHas, OpHas, ExitHas, both, ops_items, exit_items}
use Rattle.wave_gen.proofs.Drawing.OpsIn.{exit_kind}
use Rattle.wave_gen.proofs.Drawing.OpenDrafts.{draft_open}
use Rattle.wave_gen.proofs.OfGraphs.PlanFacts.{numbers}
use Rattle.wave_gen.proofs.OfGraphs.PlansGiving.{found, plans_give}
use Rattle.wave_gen.proofs.OfGraphs.PlansMade.{plans_are, plans_drawn}
use Rattle.wave_gen.proofs.OfGraphs.PlansOpening.{plans_open}

-- the arrays of a graph
pub same_cells : (xs : List GraphArray) → cells_of (map array_of xs) ≡ walks.cells_of xs
same_cells [] = refl
same_cells (x ∷ xs) = ap (λ (r : List (List ℕ)). zeros x.length ∷ r) (same_cells xs)

as_many : (xs : List GraphArray) → length {A = Array} (map array_of xs) ≡ length xs
as_many [] = refl
as_many (x ∷ xs) = ap suc (as_many xs)

module _ (g : Graph) (live : ℕ → ℕ → Bool) (cut : Cut) (fit : Fits g live cut) (P : Op → Type 0)
    (plain : Plain P) where
  -- what each block's operations and exit have, the plans have
  pub record BlocksHave : Type 0 where
    pub ops : (b : ℕ) → b < length (spots g) → AllByRecursion (OpHas P) (block_at g b).ops
    pub exits : (b : ℕ) → b < length (spots g) → ExitHas P (block_at g b).exit

  pub plan_items : BlocksHave → (n : ℕ) → (1 ≤ n) × (n ≤ length (plans_of g live cut))
      → Items P (plan_at (plans_of g live cut) n).items
  plan_items h n l =
      let r = found g live cut fit n l in
      let d = gen_ops (width_of g) (block_at g r.0).ops in
      subst (λ (p : Plan). Items P p.items) (sym r.2)
      (shared_items P none_known
      (d.items ++ (gen_exit (place_of g cut) d.next (block_at g r.0).exit).items)
      (both P d.items (gen_exit (place_of g cut) d.next (block_at g r.0).exit).items
      (ops_items P plain (block_at g r.0).ops (width_of g) (h.ops r.0 r.1))
      (exit_items P plain (place_of g cut) (block_at g r.0).exit d.next (h.exits r.0 r.1))))

  pub plan_kind : BlocksHave → (n : ℕ) → (1 ≤ n) × (n ≤ length (plans_of g live cut))
      → Kind P (plan_at (plans_of g live cut) n).exit
  plan_kind h n l =
      let r = found g live cut fit n l in
      let d = gen_ops (width_of g) (block_at g r.0).ops in
      subst (λ (p : Plan). Kind P p.exit) (sym r.2) (exit_kind P plain (place_of g cut) (block_at g r.0).exit
      d.next (h.exits r.0 r.1))

module _ (g : Graph) (image : Image) (same : length image.arrays ≡ length g.arrays) where
  array_in : (a : ℕ) → (1 ≤ a) × (a ≤ length g.arrays) → formed.ArrayIn image a
  array_in a h = (h.0, let l : a ≤ length g.arrays = h.1 in omega arith)

  term_in : (vars : ℕ) (t : Term) → TermIn (length g.arrays) vars t → TermHas (formed.OpIn image) t
  term_in vars (Cell a t) h = (array_in a h.0, term_in vars t h.1)
  term_in vars (Flip t) h = term_in vars t h
  term_in vars (Not t) h = term_in vars t h
  term_in vars (Neg t) h = term_in vars t h
  term_in vars (Binary op a b) h = (term_in vars a h.0, term_in vars b h.1)
  term_in vars t h = grind arith

  terms_in : (vars : ℕ) (ts : List Term) → AllByRecursion (TermIn (length g.arrays) vars) ts
      → AllByRecursion (TermHas (formed.OpIn image)) ts
  terms_in vars [] h = tt
  terms_in vars (t ∷ ts) h = (term_in vars t h.0, terms_in vars ts h.1)

  op_in : (vars : ℕ) (op : graph.Op) → OpIn (length g.arrays) vars op → OpHas (formed.OpIn image) op
  op_in vars op h = grind (arith, term_in, array_in)

  ops_in : (vars : ℕ) (ops : List graph.Op) → AllByRecursion (OpIn (length g.arrays) vars) ops
      → AllByRecursion (OpHas (formed.OpIn image)) ops
  ops_in vars [] h = tt
  ops_in vars (op ∷ ops) h = (op_in vars op h.0, ops_in vars ops h.1)

  exit_in : (home vars : ℕ) (exit : graph.Exit) → ExitIn g home vars exit → ExitHas (formed.OpIn image) exit
  exit_in home vars (graph.Goto b) h = tt
  exit_in home vars (graph.Branch t a b) h = term_in vars t h.0
  exit_in home vars (graph.Call r f ts back) h = tt
  exit_in home vars (graph.Return t) h = term_in vars t h
  exit_in home vars (graph.Send t ts ls) h = (term_in vars t h.0, terms_in vars ts h.1)
  exit_in home vars graph.Stop h = tt

  plain_in : Plain (formed.OpIn image)
  plain_in = grind arith

  blocks_in : (live : ℕ → ℕ → Bool) (cut : Cut) (fit : Fits g live cut)
      → BlocksHave g live cut fit (formed.OpIn image) plain_in
  blocks_in live cut fit = record {
    ops = λ b l. ops_in (spot_at g b).vars (block_at g b).ops (numbers g live cut fit b l).ops;
    exits = λ b l. exit_in (spot_at g b).home (spot_at g b).vars (block_at g b).exit
        (numbers g live cut fit b l).exit;
  }

arrays_same : (g : Graph) (live : ℕ → ℕ → Bool) (cut : Cut)
    → length (draft_of (arrays_of g) (width_of g) (plans_of g live cut)).arrays ≡ length g.arrays
unfolding draft_of
arrays_same g live cut = as_many g.arrays

-- a draft of a graph is open to notes
pub graph_open : (g : Graph) (live : ℕ → ℕ → Bool) (cut : Cut) → Fits g live cut
    → OpenToNotes (graph_draft g (arrays_of g) live cut)
unfolding graph_draft
graph_open g live cut fit =
    let image = draft_of (arrays_of g) (width_of g) (plans_of g live cut) in
    let same = arrays_same g live cut in
    draft_open (arrays_of g) (width_of g) (plans_of g live cut) (λ n x. needed g live cut n x ≡ true)
    (plans_are g live cut fit) (plans_give g live cut fit) (plans_open g live cut fit)
    (plan_items g live cut fit (formed.OpIn image) (plain_in g image same)
    (blocks_in g image same live cut fit))
    (plan_kind g live cut fit (formed.OpIn image) (plain_in g image same)
    (blocks_in g image same live cut fit))

-- its lists are short, and it keeps the graph's walk
pub graph_lists : (g : Graph) (live : ℕ → ℕ → Bool) (cut : Cut) → Fits g live cut
    → ListsFit (graph_draft g (arrays_of g) live cut)
unfolding graph_draft
graph_lists g live cut fit = draft_lists g (arrays_of g) (width_of g) (plans_of g live cut)
    (needed g live cut) (place_of g cut) nothing_zeroed
    (plans_drawn g live cut fit (arrays_of g) (same_cells g.arrays))

pub graph_walks : (g : Graph) (live : ℕ → ℕ → Bool) (cut : Cut) → Fits g live cut → GraphOfWords g
    → (world : World) → WorldOfWords world → (turns : ℕ) → KeepsWalk g (graph_draft g (arrays_of g) live cut)
    world turns
unfolding graph_draft
graph_walks g live cut fit words world w turns = keeps_walk g (arrays_of g) (width_of g) (plans_of g live cut)
    (needed g live cut) (place_of g cut) nothing_zeroed
    (plans_drawn g live cut fit (arrays_of g) (same_cells g.arrays)) world turns
    (words_fine g words world turns w)
