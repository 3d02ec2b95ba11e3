-- What the items of a graph's terms, operations and exits weigh.
use Rattle.std.proofs.Common.{ℕ, zero, suc, ◌+◌, ◌*◌, ◌≡◌, ◌≤◌, List, [], ◌∷◌, ◌++◌, length, arith}
use Rattle.std.specs.List.{sum_by}
use Rattle.std.proofs.lemmas.List.Sums.{sum_by-cons}
use Rattle.ws_isa.specs.declared.instr.Op.TheVariants.{Const, Alu}
use Rattle.cfg_core.specs.Graph as graph
use Rattle.cfg_core.specs.Graph.{Term, Cell, Flip, Not, Neg, Binary}
use Rattle.wave_gen.specs.Wire.{Item, Make, Act, Same}
use Rattle.wave_gen.specs.Gen.{gen_term, gen_op, gen_ops}
use Rattle.wave_gen.specs.Drawn.{gen_source, gen_terms}
use Rattle.wave_gen.specs.Listing.{gen_exit}
use Rattle.wave_gen.specs.Cost.{term_quarters, op_quarters}
use Rattle.wave_gen.proofs.Planning.Planned.{AllBelow, ItemsAre}
use Rattle.wave_gen.specs.Shared.{const_of}
use Rattle.wave_gen.proofs.OfItems.Sharing.{extra_of, heavies}
use Rattle.wave_gen.proofs.Weighing.Weights.{weight, ItemsBelow}
use Rattle.wave_gen.proofs.OfItems.ReadTerms.{next_after}
use Rattle.wave_gen.proofs.OfItems.Nexts.{op_next}
use Rattle.ws_isa.proofs.Images.{few_ports as ports_few}

pub heavies_append : (xs ys : List Item) → heavies (xs ++ ys) ≡ heavies xs + heavies ys
heavies_append [] ys = omega arith
heavies_append (x ∷ xs) ys = grind (arith, heavies, heavies_append xs ys)

one_more : (xs : List Item) (i : Item) (n m : ℕ) → heavies xs ≤ n → weight i + extra_of (const_of i) ≤ m
    → heavies (xs ++ i ∷ []) ≤ n + m
one_more xs i n m h l = grind (arith, heavies, heavies_append)

both_weigh : (xs ys : List Item) (n m : ℕ) → heavies xs ≤ n → heavies ys ≤ m → heavies (xs ++ ys) ≤ n + m
both_weigh xs ys n m h l = grind (arith, heavies, heavies_append)

-- A name that is the pulse may make a constant of what it triggers.
abbrev lone : ℕ → ℕ
lone zero = 1
lone (suc x) = 0

lone_none : (x : ℕ) → 1 ≤ x → lone x ≡ 0
lone_none x l = grind arith

top_weight : (k x n : ℕ) → weight (Make k (Const n) (x ∷ [])) + extra_of
    (const_of (Make k (Const n) (x ∷ []))) ≤ 4 + lone x
top_weight k x n = grind (arith, extra_of)

term_lone : (t : Term) (k : ℕ) → 1 ≤ k → heavies (gen_term k t).items + lone (gen_term k t).name
    ≤ term_quarters t
term_lone (Cell a t) k u = grind (arith, next_after, lone_none, one_more, term_lone t k u)
term_lone (Flip t) k u = grind (arith, heavies_append, top_weight, one_more, term_lone t k u)
term_lone (Not t) k u = grind (arith, next_after, lone_none, one_more, term_lone t k u)
term_lone (Neg t) k u = grind (arith, next_after, lone_none, one_more, term_lone t k u)
term_lone (Binary op a b) k u =
    let g = gen_term k a in let i = gen_term g.next b in
    let wa = next_after a k in let wb = next_after b g.next in let l =
    lone_none i.next (omega arith) in
    let x = term_lone a k u in let y = term_lone b g.next (omega arith) in
    let w = both_weigh g.items i.items (term_quarters a) (term_quarters b) (omega arith)
    (omega arith) in
    let h = one_more (g.items ++ i.items) (Make i.next (Alu op) (g.name ∷ i.name ∷ []))
    (term_quarters a + term_quarters b) 5 w (omega arith) in omega arith
term_lone t k u = grind (arith, lone_none)

term_weight : (t : Term) (k : ℕ) → 1 ≤ k → heavies (gen_term k t).items ≤ term_quarters t
term_weight t k u = let l = term_lone t k u in omega (arith, l)

-- names only grow
later : (t : Term) (k : ℕ) → 1 ≤ k → 1 ≤ (gen_term k t).next
later t k u = let w = next_after t k in omega arith

source_weight : (t : Term) (k : ℕ) → 1 ≤ k → heavies (gen_source k t).items ≤ term_quarters t
source_weight t k u = grind (arith, term_weight, term_lone, heavies_append, top_weight, both_weigh, later)

terms_weight : (ts : List Term) (k : ℕ) → 1 ≤ k → heavies (gen_terms k ts).items ≤ sum_by term_quarters ts + 5
    * length ts
terms_weight [] k u = omega arith
terms_weight (t ∷ ts) k u =
    let g = gen_term k t in
    let e : sum_by term_quarters (t ∷ ts) ≡ term_quarters t + sum_by term_quarters ts =
    sum_by-cons term_quarters t ts in
    let i = terms_weight ts (suc g.next) (omega arith) in
    let h = both_weigh g.items (Same g.next g.name ∷ (gen_terms (suc g.next) ts).items) (term_quarters t)
    (5 + (sum_by term_quarters ts + 5 * length ts)) (term_weight t k u) (omega arith) in
    omega (arith, h, e)

op_weight : (op : graph.Op) (k : ℕ) → 1 ≤ k → heavies (gen_op k op).items ≤ op_quarters op
op_weight op k o = grind (arith, one_more, term_weight, later, both_weigh)

-- the items of operations
pub ops_weight : (ops : List graph.Op) (k : ℕ) → 1 ≤ k → heavies (gen_ops k ops).items ≤ sum_by op_quarters
    ops
ops_weight [] k u = omega arith
ops_weight (op ∷ ops) k u =
    let e : sum_by op_quarters (op ∷ ops) ≡ op_quarters op + sum_by op_quarters ops =
    sum_by-cons op_quarters op ops in
    let n = op_next op k in
    let h = both_weigh (gen_op k op).items (gen_ops (gen_op k op).next ops).items (op_quarters op)
    (sum_by op_quarters ops) (op_weight op k u)
    (ops_weight ops (gen_op k op).next (omega arith)) in
    omega (arith, h, e)

-- the items of an exit
abbrev pub exit_items : graph.Exit → ℕ
exit_items (graph.Branch t a b) = term_quarters t
exit_items (graph.Return t) = term_quarters t
exit_items (graph.Send t ts ls) = term_quarters t + (sum_by term_quarters ts + 5 * length ts)
exit_items _ = 0

pub exit_weight : (place : ℕ → ℕ) (exit : graph.Exit) (k : ℕ) → 1 ≤ k → heavies (gen_exit place k exit).items
    ≤ exit_items exit
exit_weight place exit k u = grind (arith, source_weight, term_weight, both_weigh, terms_weight, later)

-- a number above all names of a list, and of items
abbrev pub above : List ℕ → ℕ
above [] = 0
above (x ∷ xs) = suc x + above xs

abbrev pub items_above : List Item → ℕ
items_above [] = 0
items_above (Make x op from ∷ is) = suc x + (above from + items_above is)
items_above (Act op from ∷ is) = above from + items_above is
items_above (Same x y ∷ is) = suc x + (suc y + items_above is)

pub all_below : (n : ℕ) (xs : List ℕ) → above xs ≤ n → AllBelow n xs
all_below n [] h = tt
all_below n (x ∷ xs) h = (omega (arith, h), all_below n xs (omega (arith, h)))

pub items_below : (n : ℕ) (is : List Item) → ItemsAre is → items_above is ≤ n → ItemsBelow n is
items_below n [] a h = tt
items_below n (Make x op from ∷ is) a h =
    grind (arith, all_below, ports_few, items_below n is a.1 (omega (arith, h)))
items_below n (Act op from ∷ is) a h =
    grind (arith, all_below, ports_few, items_below n is a.1 (omega (arith, h)))
items_below n (Same x y ∷ is) a h = grind (arith, items_below n is a.1 (omega (arith, h)))
