use Rattle.std.proofs.Common.{sym, ◌∙◌}
use Rattle.trace_check.proofs.Led.{none_picked}
use Rattle.trace_check.proofs.recording.end_of.Goals as goal

pub returns-else-is_some-2 : goal.returns-else-is_some-2
returns-else-is_some-2 c = λ image world s at le. (
  none_picked c.pick.result c.is_some-else-is_some.result c.args.core.now c.is_some-else-is_some.ensures
      c.if-is_some-2.false c.pick.ensures image world s at,
  (c.fault.ensures image world s at).0 ∙ sym c.is_some.ensures ∙ c.if-is_some.false,
)
