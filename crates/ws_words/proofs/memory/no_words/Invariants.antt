use Rattle.std.proofs.Common.{◌≡◌, []}
use Rattle.ws_words.specs.Plain.{took_from}
use Rattle.ws_words.proofs.memory.no_words.Given as goal

abbrev pub invariant-loop : goal.invariant-loop
invariant-loop l = l.took ≡ took_from 1 l.counter []
