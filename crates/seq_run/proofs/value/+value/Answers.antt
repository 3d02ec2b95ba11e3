use Rattle.std.proofs.Common.{ℕ, sym, ap, ◌∙◌}
use Rattle.ws_words.specs.Memory.{lengths_of}
use Rattle.ws_words.specs.Outside.{loads}
use Rattle.cfg_core.specs.Graph.{Term, Cell, Binary}
use Rattle.cfg_core.specs.Walk.{loads_of}
use Rattle.cfg_core.specs.View as graph
use Rattle.cfg_core.specs.declared.blocks.Term.{Term as CodeTerm}
use Rattle.seq_run.specs.Firsts.{past_array, first_past}
use Rattle.seq_run.proofs.FirstPasts.{noted_one, noted_then}
use Rattle.seq_run.proofs.value.+value.Goals as goal
use Rattle.ws_words.specs.Items.{first_some}

pub returns-in-Cell-clause-past : goal.returns-in-Cell-clause-past
returns-in-Cell-clause-past t c =
    let vars = c.args.vars.now in let cells = c.args.memory.now.cells in
    let u = graph.term c.deref.result.now in
    noted_one (lengths_of cells) (loads_of u vars cells) _ c.args.past.now c.value-index.new.past
    c.note.new.past c.value-index.ensures.past
    (c.note.ensures
    ∙ ap (λ (i : ℕ). first_some c.value-index.new.past
    (past_array (lengths_of cells) (loads c.in-Cell.a i))) c.value-index.ensures.value)
    ∙ ap (λ (x : Term). first_some c.args.past.now (first_past (lengths_of cells) (loads_of x vars cells)))
    (ap (λ (x : CodeTerm). Cell c.in-Cell.a (graph.term x)) c.deref.ensures
    ∙ sym (ap graph.term c.in-Cell.is))

pub returns-in-Binary-clause-past : goal.returns-in-Binary-clause-past
returns-in-Binary-clause-past t c =
    let vars = c.args.vars.now in let cells = c.args.memory.now.cells in
    let a = graph.term c.deref-in-Binary.result.now in let b = graph.term c.deref-in-Binary-2.result.now in
    noted_then (lengths_of cells) (loads_of a vars cells) (loads_of b vars cells) c.args.past.now
    c.value-x.new.past c.value-y.new.past c.value-x.ensures.past c.value-y.ensures.past
    ∙ ap (λ (x : Term). first_some c.args.past.now (first_past (lengths_of cells) (loads_of x vars cells)))
    (ap (λ (x : CodeTerm). Binary c.in-Binary.op (graph.term x) b) c.deref-in-Binary.ensures
    ∙ ap (λ (x : CodeTerm). Binary c.in-Binary.op (graph.term c.in-Binary.a.value) (graph.term x))
    c.deref-in-Binary-2.ensures ∙ sym (ap graph.term c.in-Binary.is))
