-- The items of a block are instructions with as many operands as they have ports.
use Rattle.std.proofs.Common.{arith, ℕ, suc, ◌≡◌, List, [], ◌∷◌, ◌++◌, length}
use Rattle.ws_isa.specs.Image.{ports_of}
use Rattle.cfg_core.specs.Graph as graph
use Rattle.cfg_core.specs.Graph.{Term, Cell, Flip, Not, Neg, Binary}
use Rattle.wave_gen.specs.Wire.{Item}
use Rattle.wave_gen.proofs.Planning.Planned.{ItemsAre, Sends, SourceIs}
use Rattle.wave_gen.specs.Gen.{gen_term, gen_op, gen_ops}
use Rattle.wave_gen.specs.Drawn.{gen_source, gen_terms}
use Rattle.wave_gen.specs.Listing.{gen_exit}

pub items_append : (xs ys : List Item) → ItemsAre xs → ItemsAre ys → ItemsAre (xs ++ ys)
items_append [] ys h k = k
items_append (x ∷ xs) ys h k = (h.0, items_append xs ys h.1 k)

pub term_items : (t : Term) (k : ℕ) → ItemsAre (gen_term k t).items
term_items (Cell a t) k = grind (arith, items_append, term_items t k)
term_items (Flip t) k = grind (arith, items_append, term_items t k)
term_items (Not t) k = grind (arith, items_append, term_items t k)
term_items (Neg t) k = grind (arith, items_append, term_items t k)
term_items (Binary op a b) k = grind (arith, items_append, term_items a k, term_items b (gen_term k a).next)
term_items t k = grind arith

pub source_items : (t : Term) (k : ℕ) → ItemsAre (gen_source k t).items
source_items t k = grind (arith, term_items, items_append)

pub source_op : (t : Term) (k : ℕ) → Sends (gen_source k t).op
    × (length (gen_source k t).from ≡ ports_of (gen_source k t).op)
source_op t k = grind arith

terms_items : (ts : List Term) (k : ℕ) → ItemsAre (gen_terms k ts).items
terms_items [] k = tt
terms_items (t ∷ ts) k = grind (arith, items_append, term_items, terms_items ts (suc (gen_term k t).next))

op_items : (op : graph.Op) (k : ℕ) → ItemsAre (gen_op k op).items
op_items op k = grind (arith, items_append, term_items)

pub ops_items : (ops : List graph.Op) (k : ℕ) → ItemsAre (gen_ops k ops).items
ops_items [] k = tt
ops_items (op ∷ ops) k = grind (arith, items_append, op_items, ops_items ops (gen_op k op).next)

pub exit_items : (place : ℕ → ℕ) (exit : graph.Exit) (k : ℕ) → ItemsAre (gen_exit place k exit).items
exit_items place exit k = grind (arith, source_items, term_items, items_append, terms_items)

pub exit_source : (place : ℕ → ℕ) (exit : graph.Exit) (k : ℕ) → SourceIs (gen_exit place k exit).exit
exit_source place exit k = grind (arith, source_op)
