use Rattle.ws_words.proofs.Held.{loaded}
use Rattle.ws_words.proofs.memory.Memory.load.Goals as goal

pub returns-clause-acts : goal.returns-clause-acts
returns-clause-acts c = λ o h. loaded o c.args.self.now h c.args.array c.args.index
