use Rattle.std.proofs.Common.{◌≡◌, ◌++◌, drop}
use Rattle.ws_words.proofs.tape.tapes.Given as goal

abbrev pub invariant-loop-port : goal.invariant-loop-port
invariant-loop-port l = l.tapes.items ++ drop l.port l.left ≡ l.left
