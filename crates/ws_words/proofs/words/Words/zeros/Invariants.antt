use Rattle.std.proofs.Common.{◌≡◌}
use Rattle.ws_words.specs.Outside.{zeros}
use Rattle.ws_words.proofs.words.Words.zeros.Given as goal

abbrev pub invariant-loop : goal.invariant-loop
invariant-loop l = l.items.items ≡ zeros l.counter
