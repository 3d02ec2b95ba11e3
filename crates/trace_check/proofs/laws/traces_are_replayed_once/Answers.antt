use Rattle.std.proofs.Common.{[]}
use Rattle.df_core.specs.Core.{core_opening}
use Rattle.trace_check.proofs.Once.{one_run, no_stop}
use Rattle.trace_check.proofs.laws.traces_are_replayed_once.Goals as goal
use Rattle.df_core.proofs.Keeping.Same.{same_refl}

pub returns-clause-alone : goal.returns-clause-alone
returns-clause-alone c = λ image world formed sound events one other r q.
    let law = c.every_list_of_events.ensures in
    one_run image world (law.alone image world formed sound) (law.kept image world formed sound) events
    (core_opening image world) one other
    (law.reach image world formed sound (core_opening image world) (
      [],
      same_refl (core_opening image world),
    )).0 r q

pub returns-clause-whole : goal.returns-clause-whole
returns-clause-whole c = λ image world formed sound trace state line r st.
    let law = c.every_list_of_events.ensures in
    no_stop image world (law.alone image world formed sound) (law.kept image world formed sound)
    (core_opening image world) state trace line
    (law.reach image world formed sound (core_opening image world) (
      [],
      same_refl (core_opening image world),
    )).0 r st
