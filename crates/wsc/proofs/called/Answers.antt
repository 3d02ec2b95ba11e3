use Rattle.std.proofs.Common.{◌∙◌, sym, subst}
use Rattle.port_set.specs.Slots.{AllOpen}
use Rattle.wsc_top.specs.Answers.{TellWords}
use Rattle.wsc_top.proofs.Calling.CallEnds.{ends_alone}
use Rattle.wsc.proofs.called.Goals as goal

pub wsc-outcome-requires-clause-told : goal.wsc-outcome-requires-clause-told
wsc-outcome-requires-clause-told g c κs alive = subst TellWords (sym c.alone.ensures) c.requires.told

pub wsc-outcome-requires-clause-open : goal.wsc-outcome-requires-clause-open
wsc-outcome-requires-clause-open g c κs alive = subst AllOpen (sym c.alone.ensures) c.requires.open

pub returns : goal.returns
returns g c =
    ends_alone _ _ _ _ _ _ _ _ _ _ _ c.others.ensures c.alone.ensures c.wsc-outcome.ensures.ends
    (c.from.ensures ∙ c.code-code.ensures)
