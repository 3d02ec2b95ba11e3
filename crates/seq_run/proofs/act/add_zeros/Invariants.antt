use Rattle.std.proofs.Common.{◌≡◌, ◌++◌}
use Rattle.ws_words.specs.Outside.{zeros}
use Rattle.seq_run.proofs.act.add_zeros.Given as goal

abbrev pub invariant-loop : goal.invariant-loop
invariant-loop l = l.vars ≡ l.initial.vars ++ zeros l.counter
