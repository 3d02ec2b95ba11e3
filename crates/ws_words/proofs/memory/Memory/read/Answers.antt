use Rattle.ws_words.proofs.Held.{read}
use Rattle.ws_words.proofs.memory.Memory.read.Goals as goal

pub returns-clause-acts : goal.returns-clause-acts
returns-clause-acts c = λ o h. read o c.args.self.now h c.next.new.self c.next.ensures.rest
