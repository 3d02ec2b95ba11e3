use Rattle.std.proofs.Common.{◌-◌, Some, arith, sym, ◌∙◌}
use Rattle.cfg_core.specs.View as graph
use Rattle.seq_run.specs.declared.flow.Reply.TheVariants as replies
use Rattle.seq_run.proofs.Follows.{as_result, result_is, result_stops}
use Rattle.seq_run.proofs.act.finish.Goals as goal

pub returns-in-Some-past-clause-follows : goal.returns-in-Some-past-clause-follows
returns-in-Some-past-clause-follows c = λ start s h.
    let run = c.args.run.now in
    as_result start c.args.ending.now (Some c.in-Some.t) s run.turns (replies.Fault c.in-Some-past.array)
    run.memory (run.turns - 1) c.in-Some.is
    (result_stops start (graph.term c.in-Some.t) s run.memory c.args.vars.now c.in-Some-past.array run.turns h
    (omega arith) (sym c.value-word.ensures.past ∙ c.in-Some-past.is))

pub returns-in-None-past-clause-follows : goal.returns-in-None-past-clause-follows
returns-in-None-past-clause-follows c = λ start s h.
    let run = c.args.run.now in
    as_result start c.args.ending.now (Some c.in-Some.t) s run.turns (replies.Value c.value-word.result)
    run.memory (run.turns - 1) c.in-Some.is
    (result_is start (graph.term c.in-Some.t) s run.memory c.args.vars.now c.value-word.result run.turns h
    (omega arith) (sym c.value-word.ensures.past ∙ c.in-None-past.is) c.value-word.ensures.value)
