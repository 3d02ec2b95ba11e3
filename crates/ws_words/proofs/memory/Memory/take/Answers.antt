use Rattle.std.proofs.Common.{◌-◌, arith, refl}
use Rattle.ws_words.proofs.Held.{taken, taken_by_none}
use Rattle.ws_words.proofs.memory.Memory.take.Goals as goal

pub returns-in_ok-add : goal.returns-in_ok-add
returns-in_ok-add c = λ o h. taken o c.args.self.now h c.args.port (c.args.port - 1) c.args.word
    c.add.new.self (omega arith) refl c.in_ok-add.ensures.ok

pub returns-else-port-gt0 : goal.returns-else-port-gt0
returns-else-port-gt0 c = λ o h. taken_by_none o c.args.self.now h c.args.port c.args.word (omega arith)
