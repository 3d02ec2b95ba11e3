use Rattle.std.proofs.Common.{◌≡◌, ◌++◌}
use Rattle.ws_words.specs.Outside.{zeros}
use Rattle.cfg_core.proofs.exits.enter.Given as goal

abbrev pub invariant-loop : goal.invariant-loop
invariant-loop l = l.vars ≡ l.fn.words ++ zeros l.counter
