-- The items of a term make its value.
use Rattle.std.proofs.Common.{ℕ, ◌-◌, ◌^◌, ◌≡◌, ◌<◌, ◌≤◌, List, [], ◌∷◌, ◌++◌, length, map}
use Rattle.std.proofs.Common.{slice_index, refl, sym, ap, ◌∙◌, subst, arith, eq-eqb, ne_eqb}
use Rattle.std.proofs.lemmas.Nat.{mod-mul-add}
use Rattle.ws_words.specs.Outside.{Act, loads, Outside, row}
use Rattle.ws_words.specs.Operators.{applied}
use Rattle.ws_words.specs.declared.alu.Alu.TheVariants.{Sub, Eq}
use Rattle.ws_isa.specs.declared.instr.Op.{Op}
use Rattle.ws_isa.specs.declared.instr.Op.TheVariants.{Alu, Load}
use Rattle.cfg_core.specs.Graph.{Graph, Term, Cell, Flip, Not, Neg, Binary}
use Rattle.cfg_core.specs.Rules.{TermIn}
use Rattle.cfg_core.specs.Walk.{value, loads_of}
use Rattle.wave_gen.specs.Waits.{NameState, set, outcome, effect}
use Rattle.wave_gen.specs.Wire.{Item, Make}
use Rattle.wave_gen.specs.Plans.{pulse}
use Rattle.wave_gen.proofs.OfItems.Runs.{run_item, run_items}
use Rattle.wave_gen.specs.Gen.{Got, got, then_make, top_word, gen_term, Agrees, FlipsWords}
use Rattle.ws_words.proofs.Lists.{append_on as append_assoc}
use Rattle.wave_link.proofs.Grown.GrownEdges.{append_nil}
use Rattle.ws_words.proofs.Acts.{with_more}

pub set_here : (f : ℕ → ℕ) (k v : ℕ) → set f k v k ≡ v
set_here f k v = rw (eq-eqb k k refl) refl

pub set_other : (f : ℕ → ℕ) (k v j : ℕ) → (j ≡ k → ⊥) → set f k v j ≡ f j
set_other f k v j n = rw (ne_eqb j k n) refl

pub run_append : (xs ys : List Item) (s : NameState) → run_items (xs ++ ys) s ≡ run_items ys (run_items xs s)
run_append [] ys s = refl
run_append (x ∷ xs) ys s = run_append xs ys (run_item x s)

pub acted_none : (o : Outside) → with_more o [] ≡ o
acted_none o = grind (arith, append_nil)

pub acted_more : (o : Outside) (xs ys : List Act) → with_more (with_more o xs) ys ≡ with_more o (xs ++ ys)
acted_more o xs ys = grind (arith, append_assoc)

-- what items do: a value at a name, loads, and no name below k changes
pub record Gives (k : ℕ) (s : NameState) (g : Got) (v : ℕ) (ls : List Act) : Type 0 where
  pub value : (run_items g.items s).env g.name ≡ v
  pub keeps : (y : ℕ) → y < k → (run_items g.items s).env y ≡ s.env y
  pub out : (run_items g.items s).out ≡ with_more s.out ls
  pub named : g.name < g.next
  pub next : k ≤ g.next

-- one more instruction, which reads what was made
pub make_gives : (k : ℕ) (s : NameState) (g : Got) (v : ℕ) (ls : List Act) → Gives k s g v ls
    → (op : Op) (from : List ℕ) (w : ℕ) (more : List Act) →
    outcome op (map (run_items g.items s).env from) (run_items g.items s).out ≡ w
    → effect op (map (run_items g.items s).env from) (run_items g.items s).out ≡ with_more
    (run_items g.items s).out more →
    Gives k s (then_make g (λ n. Make n op from)) w (ls ++ more)
make_gives k s g v ls h op from w more a b = grind (arith, run_append, set_here, set_other, acted_more)

pub flipped : (v : ℕ) → v < 2 ^ 64 → applied Sub (2 ^ 64 - 1) v ≡ 2 ^ 64 - 1 - v
unfolding top_word
flipped v l = grind (arith, mod-mul-add)

pub subtracted : (v : ℕ) → v < 2 ^ 64 → applied Sub top_word v ≡ 18446744073709551615 - v
unfolding top_word
subtracted v l = flipped v l

no_more : (k : ℕ) (s : NameState) (g : Got) (v : ℕ) (ls : List Act) → Gives k s g v ((ls ++ []) ++ [])
    → Gives k s g v ls
no_more k s g v ls h = rw (append_nil (ls ++ []) ∙ append_nil ls) at h

pub joined_gives : (k : ℕ) (s : NameState) (g h : Got) (v w : ℕ) (ls ms : List Act) → Gives k s g v ls
    → Gives g.next (run_items g.items s) h w ms →
    Gives k s (got (g.items ++ h.items) h.name h.next) w (ls ++ ms)
    × ((run_items (g.items ++ h.items) s).env g.name ≡ v)
joined_gives k s g h v w ls ms a b = grind (arith, run_items, run_append, with_more, acted_more)

pub agrees_on : (vars : List ℕ) (k n : ℕ) (env env' : ℕ → ℕ) → length vars ≤ n → n < k
    → ((y : ℕ) → y < k → env' y ≡ env y) → Agrees vars env → Agrees vars env'
agrees_on vars k n env env' m l h a = grind arith

module _ (graph : Graph) where
  pub term_gives : (t : Term) (k n : ℕ) (vars : List ℕ) (s : NameState) → TermIn (length graph.arrays) n t
      → n ≡ length vars → n < k → Agrees vars s.env → FlipsWords t vars s.out.cells →
      Gives k s (gen_term k t) (value t vars s.out.cells) (loads_of t vars s.out.cells)
  term_gives (Cell c t) k n vars s i m l a f =
      let g = gen_term k t in
      let h : Gives k s g (value t vars s.out.cells) (loads_of t vars s.out.cells) =
      term_gives t k n vars s i.1 m l a f in
      make_gives k s g (value t vars s.out.cells) (loads_of t vars s.out.cells) h (Load c) (g.name ∷ [])
      (slice_index (row s.out.cells (c - 1)) (value t vars s.out.cells))
      (loads c (value t vars s.out.cells) ∷ [])
      (rw (h.value, h.out) refl) (rw (h.value, h.out) refl)
  term_gives (Flip t) k n vars s i m l a f =
      let g = gen_term k t in
      let h : Gives k s g (value t vars s.out.cells) (loads_of t vars s.out.cells) =
      term_gives t k n vars s i m l a f.1 in
      grind (arith, make_gives, acted_none, g.items, g.next, run_append, set_other, no_more, subtracted)
  term_gives (Not t) k n vars s i m l a f =
      let g = gen_term k t in
      let h : Gives k s g (value t vars s.out.cells) (loads_of t vars s.out.cells) =
      term_gives t k n vars s i m l a f in
      let z : (run_items g.items s).env pulse ≡ 0 = h.keeps pulse (omega arith) ∙ a.zero_pulse in
      rw (append_nil (loads_of t vars s.out.cells)) at (make_gives k s g (value t vars s.out.cells)
      (loads_of t vars s.out.cells) h (Alu Eq) (g.name ∷ pulse ∷ [])
      (applied Eq (value t vars s.out.cells) 0) []
      (rw (h.value, z) refl) (sym (acted_none (run_items g.items s).out)))
  term_gives (Neg t) k n vars s i m l a f =
      let g = gen_term k t in
      let h : Gives k s g (value t vars s.out.cells) (loads_of t vars s.out.cells) =
      term_gives t k n vars s i m l a f in
      let z : (run_items g.items s).env pulse ≡ 0 = h.keeps pulse (omega arith) ∙ a.zero_pulse in
      rw (append_nil (loads_of t vars s.out.cells)) at (make_gives k s g (value t vars s.out.cells)
      (loads_of t vars s.out.cells) h (Alu Sub) (pulse ∷ g.name ∷ [])
      (applied Sub 0 (value t vars s.out.cells)) []
      (rw (h.value, z) refl) (sym (acted_none (run_items g.items s).out)))
  term_gives (Binary op t u) k n vars s i m l a f =
      let g = gen_term k t in
      let h : Gives k s g (value t vars s.out.cells) (loads_of t vars s.out.cells) =
      term_gives t k n vars s i.0 m l a f.0 in
      let s1 : NameState = run_items g.items s in
      let c : s1.out.cells ≡ s.out.cells = ap (λ (o : Outside). o.cells) h.out in
      let a1 : Agrees vars s1.env = agrees_on vars k n s.env s1.env (omega arith) l h.keeps a in
      let j0 : Gives g.next s1 (gen_term g.next u) (value u vars s1.out.cells)
      (loads_of u vars s1.out.cells) = term_gives u g.next n vars s1 i.1 m (let r : k ≤ g.next = h.next in
      omega arith) a1 (subst (λ (cs : List (List ℕ)). FlipsWords u vars cs) (sym c) f.1) in
      let j : Gives g.next s1 (gen_term g.next u) (value u vars s.out.cells) (loads_of u vars s.out.cells) =
      subst (λ (cs : List (List ℕ)). Gives g.next s1 (gen_term g.next u) (value u vars cs)
      (loads_of u vars cs)) c j0 in
      let b = joined_gives k s g (gen_term g.next u) (value t vars s.out.cells) (value u vars s.out.cells)
      (loads_of t vars s.out.cells) (loads_of u vars s.out.cells) h j in
      let q = gen_term g.next u in
      rw (append_nil (loads_of t vars s.out.cells ++ loads_of u vars s.out.cells)) at
      (make_gives k s (got (g.items ++ q.items) q.name q.next) (value u vars s.out.cells)
      (loads_of t vars s.out.cells ++ loads_of u vars s.out.cells) b.0 (Alu op) (g.name ∷ q.name ∷ [])
      (applied op (value t vars s.out.cells) (value u vars s.out.cells)) []
      (rw (b.0.value, b.1) refl) (sym (acted_none (run_items (g.items ++ q.items) s).out)))
  term_gives t k n vars s i m l a f = grind (arith, acted_none, set_here, set_other)
