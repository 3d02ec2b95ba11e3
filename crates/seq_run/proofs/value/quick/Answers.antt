use Rattle.std.proofs.Common.{◌≡◌, sym, ap, ◌∙◌}
use Rattle.ws_words.specs.Memory.{lengths_of}
use Rattle.cfg_core.specs.Graph.{Term, Binary}
use Rattle.cfg_core.specs.Walk.{loads_of}
use Rattle.cfg_core.specs.View as graph
use Rattle.cfg_core.specs.declared.blocks.Term.{Term as CodeTerm}
use Rattle.seq_run.specs.Firsts.{first_past}
use Rattle.seq_run.proofs.FirstPasts.{noted_then, or_none}
use Rattle.seq_run.proofs.value.quick.Goals as goal
use Rattle.seq_run.proofs.value.quick.Goals.{in-Var-deref, in_default-deref, in-Number-deref, in-Var-deref-2}
use Rattle.seq_run.proofs.value.quick.Goals.{in_default-deref-2}
use Rattle.ws_words.specs.Items.{first_some}

pub returns-after-deref-2-clause-past : goal.returns-after-deref-2-clause-past
returns-after-deref-2-clause-past c =
    let vars = c.args.vars.now in let cells = c.args.memory.now.cells in let past = c.args.past.now in
    let a = graph.term c.deref.result.now in let b = graph.term c.deref-in-Binary.result.now in
    let first : c.match-deref.past ≡ first_some past (first_past (lengths_of cells) (loads_of a vars cells)) =
    elim c.match-deref.branch [
      | in-Var-deref w ↦ w.past-is ∙ sym (or_none past)
          ∙ ap (λ (x : CodeTerm).
          first_some past (first_past (lengths_of cells) (loads_of (graph.term x) vars cells)))
          (sym w.in-Var-deref.is)
      | in_default-deref w ↦ w.past-is ∙ w.value-x.ensures.past
    ] in
    let second : c.match-deref-2.past ≡ first_some c.match-deref.past
    (first_past (lengths_of cells) (loads_of b vars cells)) =
    elim c.match-deref-2.branch [
      | in-Number-deref w ↦ w.past-is ∙ sym (or_none c.match-deref.past)
          ∙ ap (λ (x : CodeTerm). first_some c.match-deref.past
          (first_past (lengths_of cells) (loads_of (graph.term x) vars cells))) (sym w.in-Number-deref.is)
      | in-Var-deref-2 w ↦ w.past-is ∙ sym (or_none c.match-deref.past)
          ∙ ap (λ (x : CodeTerm). first_some c.match-deref.past
          (first_past (lengths_of cells) (loads_of (graph.term x) vars cells))) (sym w.in-Var-deref-2.is)
      | in_default-deref-2 w ↦ w.past-is ∙ w.value-y.ensures.past
    ] in
    noted_then (lengths_of cells) (loads_of a vars cells) (loads_of b vars cells) past c.match-deref.past
    c.match-deref-2.past first second
    ∙ ap (λ (x : Term). first_some past (first_past (lengths_of cells) (loads_of x vars cells)))
    (ap (λ (x : CodeTerm). Binary c.in-Binary.op (graph.term x) b) c.deref.ensures
    ∙ ap (λ (x : CodeTerm). Binary c.in-Binary.op (graph.term c.in-Binary.a.value) (graph.term x))
    c.deref-in-Binary.ensures ∙ sym (ap graph.term c.in-Binary.is))
