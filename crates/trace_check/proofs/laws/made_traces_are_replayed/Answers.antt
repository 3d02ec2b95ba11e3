use Rattle.std.proofs.Common.{List, sym, subst}
use Rattle.df_core.specs.Core.{State, Event, Run, Rest, core_opening}
use Rattle.trace_check.specs.Replays.{events_of}
use Rattle.trace_check.proofs.Written.{events_again}
use Rattle.trace_check.proofs.laws.made_traces_are_replayed.Goals as goal

pub returns-clause-whole : goal.returns-clause-whole
returns-clause-whole c = λ image world formed sound budget events how t first line s.
    c.traces_are_replayed_once.ensures.whole image world formed sound _ t.state line
    (subst (λ (es : List Event). Run image (core_opening image world) es t.state)
    (sym (events_again first events)) t.run) s

pub returns-clause-rests : goal.returns-clause-rests
returns-clause-rests c = λ image world formed sound budget events t first r p.
    p.rest.1 (subst (λ (s : State). Rest image s)
    (c.traces_are_replayed_once.ensures.alone image world formed sound (events_of _) t.state p.state
    (subst (λ (es : List Event). Run image (core_opening image world) es t.state)
    (sym (events_again first events)) t.run) p.run)
    t.ended.0)
