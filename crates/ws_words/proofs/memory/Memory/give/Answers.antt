use Rattle.std.proofs.Common.{arith}
use Rattle.ws_words.proofs.Held.{given}
use Rattle.ws_words.proofs.memory.Memory.give.Goals as goal

pub returns-clause-acts : goal.returns-clause-acts
returns-clause-acts c = λ o h. given o c.args.self.now h c.args.port c.saturating_sub.result
    c.next_of.new.tapes (omega arith) c.next_of.ensures.rest
