-- A property of the operations of a graph's terms, operations and exits holds of those of its plans.
use Rattle.std.proofs.Common.{arith, ℕ, zero, suc, List, [], ◌∷◌, ◌++◌}
use Rattle.std.specs.List.{AllByRecursion}
use Rattle.ws_words.specs.declared.alu.Alu.{Alu as Operator}
use Rattle.ws_words.specs.declared.alu.Alu.TheVariants.{Sub}
use Rattle.ws_isa.specs.declared.instr.Op.{Op}
use Rattle.ws_isa.specs.declared.instr.Op.TheVariants.{Const, Alu, Merge, Steer, Phi, Send, Load, Store}
use Rattle.ws_isa.specs.declared.instr.Op.TheVariants.{Input, Output, Give, Take, Halt}
use Rattle.cfg_core.specs.Graph as graph
use Rattle.cfg_core.specs.Graph.{Term, Number, Var, Cell, Flip, Not, Neg, Binary}
use Rattle.wave_gen.specs.Wire.{Item, Make, Act, Same}
use Rattle.wave_gen.specs.Gen.{Got, then_make, top_word, gen_term, gen_op, gen_ops}
use Rattle.wave_gen.specs.Drawn.{gen_source, gen_terms}
use Rattle.wave_gen.specs.Listing.{gen_exit}
use Rattle.wave_gen.proofs.OfItems.Lines.{Items}
use Rattle.wave_gen.proofs.Drawing.Drafts.{Kind}

-- what holds of all operations that name nothing of the graph
pub record Plain (P : Op → Type 0) : Type 0 where
  pub top : P (Const top_word)
  pub alu : (o : Operator) → P (Alu o)
  pub merge : P Merge
  pub phi : P Phi
  pub input : P Input
  pub output : P Output
  pub steer : P Steer
  pub send : (p : ℕ) → P (Send p)
  pub halt : P Halt

-- it holds of the operations that a term, an operation and an exit name
abbrev pub TermHas : (Op → Type 0) → Term → Type 0
TermHas P (Number zero) = Unit {0}
TermHas P (Number (suc n)) = P (Const (suc n))
TermHas P (Var x) = Unit {0}
TermHas P (Cell a t) = P (Load a) × TermHas P t
TermHas P (Flip t) = TermHas P t
TermHas P (Not t) = TermHas P t
TermHas P (Neg t) = TermHas P t
TermHas P (Binary op a b) = TermHas P a × TermHas P b

abbrev pub OpHas : (Op → Type 0) → graph.Op → Type 0
OpHas P (graph.Assign x t) = TermHas P t
OpHas P (graph.Store a t u) = P (Store a) × TermHas P t × TermHas P u
OpHas P (graph.Print t) = TermHas P t
OpHas P (graph.Read x) = Unit {0}
OpHas P (graph.Give p x) = P (Give p)
OpHas P (graph.Take p t) = P (Take p) × TermHas P t
OpHas P (graph.Choose x t a b) = TermHas P t × TermHas P a × TermHas P b
OpHas P (graph.Tick n) = Unit {0}
OpHas P (graph.TickBy t n m) = Unit {0}

abbrev pub ExitHas : (Op → Type 0) → graph.Exit → Type 0
ExitHas P (graph.Branch t a b) = TermHas P t
ExitHas P (graph.Return t) = TermHas P t
ExitHas P (graph.Send t ts ls) = TermHas P t × AllByRecursion (TermHas P) ts
ExitHas P _ = Unit {0}

-- items before others
pub both : (P : Op → Type 0) (xs ys : List Item) → Items P xs → Items P ys → Items P (xs ++ ys)
both P [] ys h k = k
both P (Make x op from ∷ xs) ys h k = (h.0, both P xs ys h.1 k)
both P (Act op from ∷ xs) ys h k = (h.0, both P xs ys h.1 k)
both P (Same x y ∷ xs) ys h k = both P xs ys h k

module _ (P : Op → Type 0) (plain : Plain P) where
  last : (g : Got) (op : Op) (from : List ℕ) → P op → Items P g.items
      → Items P (then_make g (λ n. Make n op from)).items
  last g op from e h = both P g.items (Make g.next op from ∷ []) h (e, tt)

  term_items : (t : Term) (k : ℕ) → TermHas P t → Items P (gen_term k t).items
  term_items (Cell a t) k h = grind (arith, last, term_items t k h.1)
  term_items (Flip t) k h = let g = gen_term k t in
      last (then_make g (λ n. Make n (Const top_word) (g.name ∷ []))) (Alu Sub) (g.next ∷ g.name ∷ [])
      (plain.alu Sub) (grind (arith, last, term_items t k h))
  term_items (Not t) k h = grind (arith, last, term_items t k h)
  term_items (Neg t) k h = grind (arith, last, term_items t k h)
  term_items (Binary op a b) k h =
      let g = gen_term k a in grind (
        arith,
        g.next,
        last,
        both,
        g.items,
        term_items a k h.0,
        term_items b g.next h.1,
      )
  term_items t k h = grind arith

  source_items : (t : Term) (k : ℕ) → TermHas P t → Items P (gen_source k t).items
  source_items t k h = grind (arith, term_items, last, both)

  terms_items : (ts : List Term) (k : ℕ) → AllByRecursion (TermHas P) ts → Items P (gen_terms k ts).items
  terms_items [] k h = tt
  terms_items (t ∷ ts) k h = let g = gen_term k t in
      grind (arith, both, g.items, g.next, term_items, terms_items ts (suc g.next) h.1)

  op_items : (op : graph.Op) (k : ℕ) → OpHas P op → Items P (gen_op k op).items
  op_items op k h = grind (arith, both, term_items)

  -- operations, one after another
  pub ops_items : (ops : List graph.Op) (k : ℕ) → AllByRecursion (OpHas P) ops → Items P (gen_ops k ops).items
  ops_items [] k h = tt
  ops_items (op ∷ ops) k h = grind (arith, both, op_items, ops_items ops (gen_op k op).next h.1)

  -- the items of an exit, and its own operations
  pub exit_items : (place : ℕ → ℕ) (exit : graph.Exit) (k : ℕ) → ExitHas P exit
      → Items P (gen_exit place k exit).items
  exit_items place exit k h = grind (arith, source_items, term_items, both, terms_items)

  pub exit_kind : (place : ℕ → ℕ) (exit : graph.Exit) (k : ℕ) → ExitHas P exit
      → Kind P (gen_exit place k exit).exit
  exit_kind place exit k h = grind (arith, plain.halt)
