-- The draft of a graph has no no-op, since no plan makes one.
use Rattle.std.proofs.Common.{arith, ℕ, ◌≡◌, Bool, true, false, List, [], ◌∷◌, refl, sym, ap, ◌∙◌}
use Rattle.std.specs.List.{AllByRecursion}
use Rattle.ws_isa.specs.declared.instr.Op.{Op}
use Rattle.ws_isa.specs.declared.instr.Op.TheVariants.{Nop}
use Rattle.ws_isa.specs.Image.{Image, flat}
use Rattle.cfg_core.specs.Graph as graph
use Rattle.cfg_core.specs.Graph.{Term, Cell, Flip, Not, Neg, Binary, Graph, block_at}
use Rattle.wave_cut.specs.Cut.{Cut}
use Rattle.wave_link.proofs.Sound.FormedOf.{instr_of_all}
use Rattle.wave_gen.specs.Plans.{draft_of}
use Rattle.wave_gen.specs.Listing.{width_of, plans_of, needed, graph_draft}
use Rattle.wave_gen.specs.Words.{arrays_of}
use Rattle.wave_gen.specs.NoNop.{HasNoNop}
use Rattle.wave_gen.specs.Fitting.{Fits}
use Rattle.wave_gen.proofs.Drawing.AllInstrs.{all_instrs}
use Rattle.wave_gen.proofs.Drawing.OpsIn.{Plain, TermHas, OpHas, ExitHas}
use Rattle.wave_gen.proofs.Drawing.OpenDrafts.{op_has}
use Rattle.wave_gen.proofs.OfGraphs.GraphOpen.{BlocksHave, plan_items, plan_kind}
use Rattle.wave_gen.proofs.OfGraphs.PlansGiving.{plans_give}
use Rattle.wave_gen.proofs.OfGraphs.PlansMade.{plans_are}
use Rattle.wave_gen.proofs.OfGraphs.PlansOpening.{plans_open}

abbrev is_nop : Op → Bool
is_nop Nop = true
is_nop _ = false

abbrev IsOther : Op → Type 0
IsOther op = is_nop op ≡ false

plain_other : Plain IsOther
plain_other = grind arith

term_other : (t : Term) → TermHas IsOther t
term_other (Cell a t) = (refl, term_other t)
term_other (Flip t) = term_other t
term_other (Not t) = term_other t
term_other (Neg t) = term_other t
term_other (Binary op a b) = (term_other a, term_other b)
term_other t = grind arith

terms_other : (ts : List Term) → AllByRecursion (TermHas IsOther) ts
terms_other [] = tt
terms_other (t ∷ ts) = (term_other t, terms_other ts)

op_other : (op : graph.Op) → OpHas IsOther op
op_other op = grind (arith, term_other)

ops_other : (ops : List graph.Op) → AllByRecursion (OpHas IsOther) ops
ops_other [] = tt
ops_other (op ∷ ops) = (op_other op, ops_other ops)

exit_other : (exit : graph.Exit) → ExitHas IsOther exit
exit_other (graph.Goto b) = tt
exit_other (graph.Branch t a b) = term_other t
exit_other (graph.Call r f ts back) = tt
exit_other (graph.Return t) = term_other t
exit_other (graph.Send t ts ls) = (term_other t, terms_other ts)
exit_other graph.Stop = tt

all_other : (g : Graph) (live : ℕ → ℕ → Bool) (cut : Cut) → Fits g live cut
    → AllByRecursion (λ i. IsOther i.op)
    (flat (draft_of (arrays_of g) (width_of g) (plans_of g live cut)).blocks)
all_other g live cut fit =
    let has : BlocksHave g live cut fit IsOther plain_other =
    record { ops = λ b l. ops_other (block_at g b).ops; exits = λ b l. exit_other (block_at g b).exit } in
    all_instrs (arrays_of g) (width_of g) (plans_of g live cut) (λ i. IsOther i.op)
    (op_has (arrays_of g) (width_of g) (plans_of g live cut) (λ n x. needed g live cut n x ≡ true)
    (plans_are g live cut fit) (plans_give g live cut fit) (plans_open g live cut fit) IsOther refl refl
    (plan_items g live cut fit IsOther plain_other has) (plan_kind g live cut fit IsOther plain_other has))

-- the draft of a graph has no no-op
pub graph_no_nop : (g : Graph) (live : ℕ → ℕ → Bool) (cut : Cut) → Fits g live cut
    → HasNoNop (graph_draft g (arrays_of g) live cut)
unfolding graph_draft
graph_no_nop g live cut fit k i e =
    let image : Image = draft_of (arrays_of g) (width_of g) (plans_of g live cut) in
    let other : is_nop Nop ≡ false = ap is_nop (sym e) ∙ instr_of_all (λ j. IsOther j.op) image k
    (all_other g live cut fit) i in
    let z : true ≡ false = other in cc
