-- Plans that are drawn from a control graph.
use Rattle.std.specs.Prelude.{ℕ, zero, suc, List, [], ◌∷◌, ◌++◌}
use Rattle.ws_words.specs.declared.alu.Alu.TheVariants.{Sub, Eq}
use Rattle.ws_isa.specs.declared.instr.Op.{Op}
use Rattle.ws_isa.specs.declared.instr.Op.TheVariants.{Const, Alu, Merge, Load}
use Rattle.cfg_core.specs.Graph as graph
use Rattle.cfg_core.specs.Graph.{Term, Number, Var, Cell, Flip, Not, Neg, Binary}
use Rattle.wave_gen.specs.Wire.{Item, Make, Same}
use Rattle.wave_gen.specs.Plans.{pulse}
use Rattle.wave_gen.specs.Gen.{top_word, gen_term}

-- the last instruction of a term, and the items before it
pub record Source : Type 0 where
  pub items : List Item
  pub op : Op
  pub from : List ℕ
  pub next : ℕ

abbrev pub source : List Item → Op → List ℕ → ℕ → Source
source items op from next = record { items = items; op = op; from = from; next = next }

abbrev pub gen_source : ℕ → Term → Source
gen_source k (Number zero) = source [] Merge (pulse ∷ []) k
gen_source k (Number (suc n)) = source [] (Const (suc n)) (pulse ∷ []) k
gen_source k (Var x) = source [] Merge (suc x ∷ []) k
gen_source k (Cell a t) = let g = gen_term k t in source g.items (Load a) (g.name ∷ []) g.next
gen_source k (Flip t) = let g = gen_term k t in
    source (g.items ++ Make g.next (Const top_word) (g.name ∷ []) ∷ []) (Alu Sub) (g.next ∷ g.name ∷ [])
    (suc g.next)
gen_source k (Not t) = let g = gen_term k t in source g.items (Alu Eq) (g.name ∷ pulse ∷ []) g.next
gen_source k (Neg t) = let g = gen_term k t in source g.items (Alu Sub) (pulse ∷ g.name ∷ []) g.next
gen_source k (Binary op a b) = let g = gen_term k a in let h = gen_term g.next b in
    source (g.items ++ h.items) (Alu op) (g.name ∷ h.name ∷ []) h.next

-- values, each under a name of its own
pub record Many : Type 0 where
  pub items : List Item
  pub names : List ℕ
  pub next : ℕ

abbrev pub gen_terms : ℕ → List Term → Many
gen_terms k [] = record { items = []; names = []; next = k }
gen_terms k (t ∷ ts) =
    let g = gen_term k t in let m = gen_terms (suc g.next) ts in
    record { items = g.items ++ (Same g.next g.name ∷ m.items); names = g.next ∷ m.names; next = m.next }

-- the next free name behind an exit's items
abbrev pub exit_next : ℕ → graph.Exit → ℕ
exit_next k (graph.Branch t a b) = (gen_source k t).next
exit_next k (graph.Return t) = (gen_term k t).next
exit_next k (graph.Send t ts ls) = (gen_terms (gen_term k t).next ts).next
exit_next k _ = k
