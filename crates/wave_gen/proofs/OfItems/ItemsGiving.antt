-- Each value of a block is made by an instruction that gives one.
use Rattle.std.proofs.Common.{arith, ℕ, suc, ◌≡◌, true, List, [], ◌∷◌, ◌++◌, refl}
use Rattle.ws_words.specs.declared.alu.Alu.TheVariants.{Sub}
use Rattle.ws_isa.specs.declared.instr.Op.{Op}
use Rattle.ws_isa.specs.declared.instr.Op.TheVariants.{Const, Alu}
use Rattle.ws_isa.specs.Image.{is_giving_op}
use Rattle.cfg_core.specs.Graph as graph
use Rattle.cfg_core.specs.Graph.{Term, Cell, Flip, Not, Neg, Binary}
use Rattle.wave_gen.specs.Wire.{Item, Make, Act, Same}
use Rattle.wave_gen.proofs.Planning.More.{ItemsGive, SourceGives}
use Rattle.wave_gen.specs.Gen.{Got, then_make, top_word, gen_term, gen_op, gen_ops}
use Rattle.wave_gen.specs.Drawn.{gen_source, gen_terms}
use Rattle.wave_gen.specs.Listing.{gen_exit}

pub gives_append : (xs ys : List Item) → ItemsGive xs → ItemsGive ys → ItemsGive (xs ++ ys)
gives_append [] ys h k = k
gives_append (Make x op from ∷ xs) ys h k = (h.0, gives_append xs ys h.1 k)
gives_append (Act op from ∷ xs) ys h k = gives_append xs ys h k
gives_append (Same x y ∷ xs) ys h k = gives_append xs ys h k

last : (g : Got) (op : Op) (from : List ℕ) → is_giving_op op ≡ true → ItemsGive g.items
    → ItemsGive (then_make g (λ n. Make n op from)).items
last g op from e h = gives_append g.items (Make g.next op from ∷ []) h (e, tt)

pub term_gives_all : (t : Term) (k : ℕ) → ItemsGive (gen_term k t).items
term_gives_all (Cell a t) k = grind (arith, last, term_gives_all t k)
term_gives_all (Flip t) k = let g = gen_term k t in
    last (then_make g (λ n. Make n (Const top_word) (g.name ∷ []))) (Alu Sub) (g.next ∷ g.name ∷ []) refl
    (grind (arith, last, term_gives_all t k))
term_gives_all (Not t) k = grind (arith, last, term_gives_all t k)
term_gives_all (Neg t) k = grind (arith, last, term_gives_all t k)
term_gives_all (Binary op a b) k =
    let g = gen_term k a in grind (
      arith,
      g.next,
      last,
      gives_append,
      g.items,
      term_gives_all a k,
      term_gives_all b g.next,
    )
term_gives_all t k = grind arith

pub source_gives_all : (t : Term) (k : ℕ) → ItemsGive (gen_source k t).items
source_gives_all t k = grind (arith, term_gives_all, last, gives_append)

pub source_gives : (t : Term) (k : ℕ) → is_giving_op (gen_source k t).op ≡ true
source_gives t k = grind arith

terms_give_all : (ts : List Term) (k : ℕ) → ItemsGive (gen_terms k ts).items
terms_give_all [] k = tt
terms_give_all (t ∷ ts) k = let g = gen_term k t in
    grind (arith, gives_append, g.items, g.next, term_gives_all, terms_give_all ts (suc g.next))

op_gives_all : (op : graph.Op) (k : ℕ) → ItemsGive (gen_op k op).items
op_gives_all op k = grind (arith, gives_append, term_gives_all)

pub ops_give_all : (ops : List graph.Op) (k : ℕ) → ItemsGive (gen_ops k ops).items
ops_give_all [] k = tt
ops_give_all (op ∷ ops) k = grind (arith, gives_append, op_gives_all, ops_give_all ops (gen_op k op).next)

pub exit_gives_all : (place : ℕ → ℕ) (exit : graph.Exit) (k : ℕ) → ItemsGive (gen_exit place k exit).items
exit_gives_all place exit k = grind (arith, source_gives_all, term_gives_all, gives_append, terms_give_all)

pub exit_source_gives : (place : ℕ → ℕ) (exit : graph.Exit) (k : ℕ) → SourceGives (gen_exit place k exit).exit
exit_source_gives place exit k = grind (arith, source_gives)
