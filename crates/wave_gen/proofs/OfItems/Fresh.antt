-- The items of a block write each free name once.
use Rattle.std.proofs.Common.{ℕ, zero, suc, ◌≡◌, ◌<◌, ◌≤◌, List, [], ◌∷◌, ◌++◌, length, arith}
use Rattle.std.specs.List.{AllByRecursion}
use Rattle.ws_words.specs.declared.alu.Alu.TheVariants.{Sub, Eq}
use Rattle.ws_isa.specs.declared.instr.Op.{Op}
use Rattle.ws_isa.specs.declared.instr.Op.TheVariants.{Const, Alu, Phi, Load, Store, Output, Take}
use Rattle.cfg_core.specs.Graph as graph
use Rattle.cfg_core.specs.Graph.{Graph, Term, Number, Var, Cell, Flip, Not, Neg, Binary}
use Rattle.cfg_core.specs.Rules.{OpIn}
use Rattle.wave_gen.specs.Wire.{Item, Make, Act, Same}
use Rattle.wave_gen.specs.Plans.{pulse}
use Rattle.wave_gen.specs.Gen.{Got, got, then_make, top_word, gen_term, gen_op, gen_ops}
use Rattle.wave_gen.specs.Drawn.{gen_source, gen_terms, exit_next}
use Rattle.wave_gen.specs.Listing.{gen_exit}
use Rattle.wave_gen.proofs.OfItems.Sharing.{AllSpare, Spares, Once}

-- constants are made under these names
abbrev ConstIn : ℕ → ℕ → Item → Type 0
ConstIn low high i = (x n : ℕ) → i ≡ Make x (Const n) (pulse ∷ []) → (low ≤ x) × (x < high)

abbrev ConstsIn : ℕ → ℕ → List Item → Type 0
ConstsIn low high [] = Unit {0}
ConstsIn low high (i ∷ is) = ConstIn low high i × ConstsIn low high is

-- variables have names below w; of the others, names below k stay, and those from k on, below m, are written
-- once
pub record Fresh (w k : ℕ) (is : List Item) (m : ℕ) : Type 0 where
  pub once : Once is
  pub consts : ConstsIn k m is
  pub spares : (y : ℕ) → w ≤ y → y < k → AllSpare y is
  pub grows : k ≤ m

spare_append : (y : ℕ) (xs ys : List Item) → AllSpare y xs → AllSpare y ys → AllSpare y (xs ++ ys)
spare_append y [] ys h k = k
spare_append y (x ∷ xs) ys h k = (h.0, spare_append y xs ys h.1 k)

once_append : (low high : ℕ) (xs ys : List Item) → Once xs → Once ys → ConstsIn low high xs
    → ((y : ℕ) → low ≤ y → y < high → AllSpare y ys) → Once (xs ++ ys)
once_append low high [] ys h k c f = k
once_append low high (x ∷ xs) ys h k c f = (
  (λ z n e. spare_append z xs ys (h.0 z n e) (f z (c.0 z n e).0 (c.0 z n e).1)),
  once_append low high xs ys h.1 k c.1 f,
)

consts_widen : (a b c d : ℕ) (xs : List Item) → c ≤ a → b ≤ d → ConstsIn a b xs → ConstsIn c d xs
consts_widen a b c d [] l u h = tt
consts_widen a b c d (x ∷ xs) l u h = grind (arith, consts_widen a b c d xs l u h.1)

consts_append : (a b : ℕ) (xs ys : List Item) → ConstsIn a b xs → ConstsIn a b ys → ConstsIn a b (xs ++ ys)
consts_append a b [] ys h k = k
consts_append a b (x ∷ xs) ys h k = (h.0, consts_append a b xs ys h.1 k)

pub fresh_append : (w k m n : ℕ) (xs ys : List Item) → w ≤ k → Fresh w k xs m → Fresh w m ys n
    → Fresh w k (xs ++ ys) n
fresh_append w k m n xs ys l h g = grind (arith, once_append, consts_append, consts_widen, spare_append)

pub fresh_none : (w k : ℕ) → Fresh w k [] k
fresh_none w k = record { once = tt; consts = tt; spares = λ y a b. tt; grows = omega arith }

named : (k x n : ℕ) (op : Op) (from : List ℕ) → Make k op from ≡ Make x (Const n) (pulse ∷ []) → k ≡ x
named k x n op from e = cc

-- a value under the next free name
fresh_make : (w k : ℕ) (op : Op) (from : List ℕ) → Fresh w k (Make k op from ∷ []) (suc k)
fresh_make w k op from = grind (arith, named)

-- an item that makes no constant and writes no free name
fresh_item : (w k : ℕ) (i : Item) → ((x n : ℕ) → i ≡ Make x (Const n) (pulse ∷ []) → ⊥)
    → ((y : ℕ) → w ≤ y → Spares y i) → Fresh w k (i ∷ []) k
fresh_item w k i d f = grind arith

-- a copy under the next free name
fresh_copy : (w k y : ℕ) → Fresh w k (Same k y ∷ []) (suc k)
fresh_copy w k y = grind arith

then_fresh : (w k : ℕ) (g : Got) (op : Op) (from : List ℕ) → w ≤ k → Fresh w k g.items g.next
    → Fresh w k (g.items ++ Make g.next op from ∷ []) (suc g.next)
then_fresh w k g op from l h = fresh_append w k g.next (suc g.next) g.items (Make g.next op from ∷ []) l h
    (fresh_make w g.next op from)

up : (w k : ℕ) (is : List Item) (m : ℕ) → w ≤ k → Fresh w k is m → w ≤ m
up w k is m l h = let g = h.grows in omega arith

pub term_fresh : (w : ℕ) (t : Term) (k : ℕ) → w ≤ k → Fresh w k (gen_term k t).items (gen_term k t).next
term_fresh w (Cell a t) k l = let g = gen_term k t in then_fresh w k g (Load a) (g.name ∷ []) l
    (term_fresh w t k l)
term_fresh w (Flip t) k l =
    let g = gen_term k t in
    then_fresh w k (then_make g (λ n. Make n (Const top_word) (g.name ∷ []))) (Alu Sub) (g.next ∷ g.name ∷ [])
    l (then_fresh w k g (Const top_word) (g.name ∷ []) l (term_fresh w t k l))
term_fresh w (Not t) k l = let g = gen_term k t in then_fresh w k g (Alu Eq) (g.name ∷ pulse ∷ []) l
    (term_fresh w t k l)
term_fresh w (Neg t) k l = let g = gen_term k t in then_fresh w k g (Alu Sub) (pulse ∷ g.name ∷ []) l
    (term_fresh w t k l)
term_fresh w (Binary op a b) k l =
    let g = gen_term k a in let h = gen_term g.next b in let f = term_fresh w a k l in
    then_fresh w k (got (g.items ++ h.items) h.name h.next) (Alu op) (g.name ∷ h.name ∷ []) l
    (fresh_append w k g.next h.next g.items h.items l f (term_fresh w b g.next (up w k g.items g.next l f)))
term_fresh w t k l = grind (arith, fresh_none, fresh_make)

source_fresh : (w : ℕ) (t : Term) (k : ℕ) → w ≤ k → Fresh w k (gen_source k t).items (gen_source k t).next
source_fresh w (Number zero) k l = fresh_none w k
source_fresh w (Number (suc n)) k l = fresh_none w k
source_fresh w (Var x) k l = fresh_none w k
source_fresh w (Cell a t) k l = term_fresh w t k l
source_fresh w (Flip t) k l = let g = gen_term k t in then_fresh w k g (Const top_word) (g.name ∷ []) l
    (term_fresh w t k l)
source_fresh w (Not t) k l = term_fresh w t k l
source_fresh w (Neg t) k l = term_fresh w t k l
source_fresh w (Binary op a b) k l =
    let g = gen_term k a in let h = gen_term g.next b in let f = term_fresh w a k l in
    fresh_append w k g.next h.next g.items h.items l f (term_fresh w b g.next (up w k g.items g.next l f))

terms_fresh : (w : ℕ) (ts : List Term) (k : ℕ) → w ≤ k → Fresh w k (gen_terms k ts).items
    (gen_terms k ts).next
terms_fresh w [] k l = fresh_none w k
terms_fresh w (t ∷ ts) k l =
    let g = gen_term k t in let m = gen_terms (suc g.next) ts in let f = term_fresh w t k l in
    let u : w ≤ g.next = up w k g.items g.next l f in
    fresh_append w k g.next m.next g.items (Same g.next g.name ∷ m.items) l f
    (fresh_append w g.next (suc g.next) m.next (Same g.next g.name ∷ []) m.items u
    (fresh_copy w g.next g.name) (terms_fresh w ts (suc g.next) (omega arith)))

module _ (g : Graph) (vars w : ℕ) (wide : vars < w) where
  variable : (x y : ℕ) → x < vars → w ≤ y → suc x ≡ y → ⊥
  variable x y l u e = omega arith

  op_fresh : (op : graph.Op) (k : ℕ) → OpIn (length g.arrays) vars op → w ≤ k
      → Fresh w k (gen_op k op).items (gen_op k op).next
  op_fresh (graph.Assign x t) k h l =
      let r = gen_term k t in
      fresh_append w k r.next r.next r.items (Same (suc x) r.name ∷ []) l (term_fresh w t k l)
      (grind (arith, fresh_item, r.next, variable))
  op_fresh (graph.Store a t u) k h l =
      let r = gen_term k t in let q = gen_term r.next u in let f = term_fresh w t k l in
      let v = up w k r.items r.next l f in
      fresh_append w k r.next q.next r.items (q.items ++ Act (Store a) (r.name ∷ q.name ∷ []) ∷ []) l f
      (fresh_append w r.next q.next q.next q.items (Act (Store a) (r.name ∷ q.name ∷ []) ∷ []) v
      (term_fresh w u r.next v) (fresh_item w q.next (Act (Store a) (r.name ∷ q.name ∷ [])) (λ z n e. cc)
      (λ y b. tt)))
  op_fresh (graph.Print t) k h l =
      let r = gen_term k t in
      fresh_append w k r.next r.next r.items (Act Output (r.name ∷ []) ∷ []) l (term_fresh w t k l)
      (grind (arith, fresh_item, r.next))
  op_fresh (graph.Read x) k h l = grind (arith, fresh_item, variable)
  op_fresh (graph.Give p x) k h l = grind (arith, fresh_item, variable)
  op_fresh (graph.Take p t) k h l =
      let r = gen_term k t in
      fresh_append w k r.next r.next r.items (Act (Take p) (r.name ∷ []) ∷ []) l (term_fresh w t k l)
      (grind (arith, fresh_item, r.next))
  op_fresh (graph.Choose x t a b) k h l =
      let r = gen_term k t in let q = gen_term r.next a in let j = gen_term q.next b in
      let f = term_fresh w t k l in let v = up w k r.items r.next l f in
      let f' = term_fresh w a r.next v in let v' = up w r.next q.items q.next v f' in
      let f'' = term_fresh w b q.next v' in let v'' = up w q.next j.items j.next v' f'' in
      let last : Item = Make (suc x) Phi (q.name ∷ j.name ∷ r.name ∷ []) in
      fresh_append w k r.next j.next r.items (q.items ++ (j.items ++ last ∷ [])) l f
      (fresh_append w r.next q.next j.next q.items (j.items ++ last ∷ []) v f'
      (fresh_append w q.next j.next j.next j.items (last ∷ []) v' f''
      (fresh_item w j.next (Make (suc x) Phi (q.name ∷ j.name ∷ r.name ∷ [])) (λ z n e. cc)
      (λ y u. variable x y h.0 u))))
  op_fresh (graph.Tick n) k h l = fresh_none w k
  op_fresh (graph.TickBy t n m) k h l = fresh_none w k

  ops_fresh : (ops : List graph.Op) (k : ℕ) → AllByRecursion (OpIn (length g.arrays) vars) ops → w ≤ k
      → Fresh w k (gen_ops k ops).items (gen_ops k ops).next
  ops_fresh [] k h l = fresh_none w k
  ops_fresh (op ∷ ops) k h l =
      let d = gen_op k op in let e = gen_ops d.next ops in let f = op_fresh op k h.0 l in
      fresh_append w k d.next e.next d.items e.items l f
      (ops_fresh ops d.next h.1 (up w k d.items d.next l f))

  exit_fresh : (place : ℕ → ℕ) (exit : graph.Exit) (k : ℕ) → w ≤ k → Fresh w k (gen_exit place k exit).items
      (exit_next k exit)
  exit_fresh place (graph.Goto c) k l = fresh_none w k
  exit_fresh place (graph.Branch t a b) k l = source_fresh w t k l
  exit_fresh place (graph.Call r f ts back) k l = fresh_none w k
  exit_fresh place (graph.Return t) k l = term_fresh w t k l
  exit_fresh place (graph.Send t ts ls) k l =
      let r = gen_term k t in let m = gen_terms r.next ts in let f = term_fresh w t k l in
      fresh_append w k r.next m.next r.items m.items l f (terms_fresh w ts r.next (up w k r.items r.next l f))
  exit_fresh place graph.Stop k l = fresh_none w k

  -- a block's constants
  pub block_once : (place : ℕ → ℕ) (ops : List graph.Op) (exit : graph.Exit)
      → AllByRecursion (OpIn (length g.arrays) vars) ops
      → Once ((gen_ops w ops).items ++ (gen_exit place (gen_ops w ops).next exit).items)
  block_once place ops exit h = grind (arith, ops_fresh, fresh_append, exit_fresh, up)
