use Rattle.std.proofs.Common.{◌≡◌, true, Some}
use Rattle.df_core.specs.Core.{is_full, with_at}
use Rattle.df_core.specs.Partial.{partial_of}
use Rattle.df_core.proofs.quiet.is_filled.Given as goal

abbrev pub invariant-loop-port : goal.invariant-loop-port
invariant-loop-port l = is_full (with_at l.token.wave l.token.instr l.token.port (Some l.token.value)
    (partial_of l.slots.slots.items l.slots.spill)) l.token.wave l.token.instr l.port ≡ true
