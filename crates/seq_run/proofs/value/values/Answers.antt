use Rattle.std.proofs.Common.{[], ◌∷◌, ◌++◌, List, ℕ, map, take, sym, ap, ◌∙◌}
use Rattle.ws_words.specs.Memory.{lengths_of}
use Rattle.ws_words.specs.Outside.{Act}
use Rattle.cfg_core.specs.Walk.{loads_of, all_loads}
use Rattle.cfg_core.specs.View as graph
use Rattle.seq_run.specs.Firsts.{first_past}
use Rattle.seq_run.proofs.FirstPasts.{noted_then}
use Rattle.seq_run.proofs.Follows.{values_more, loads_more}
use Rattle.seq_run.proofs.value.values.Goals as goal
use Rattle.ws_words.specs.Items.{first_some}

pub loop-term-preserved : goal.loop-term-preserved
loop-term-preserved c =
    let vars = c.args.vars.now in let cells = c.args.memory.now.cells in
    record {
      words =
          c.in_ok-push.ensures.ok ∙ ap (λ (v : ℕ). c.loop-term.words ++ v ∷ []) c.value.ensures.value
          ∙ values_more c.args.terms.now vars cells c.loop-term.term-index c.term-item.result
          c.loop-term.words c.loop-term-test.true c.term-item.is c.loop-term.invariant.words;
      past =
          noted_then (lengths_of cells)
          (all_loads (map graph.term (take c.loop-term.term-index c.args.terms.now)) vars cells)
          (loads_of (graph.term c.term-item.result) vars cells) c.args.past.now c.loop-term.past
          c.value.new.past c.loop-term.invariant.past c.value.ensures.past
          ∙ ap (λ (acts : List Act). first_some c.args.past.now (first_past (lengths_of cells) acts))
          (sym (loads_more c.args.terms.now vars cells c.loop-term.term-index c.term-item.result
          c.loop-term-test.true c.term-item.is));
    }
