use Rattle.ws_words.proofs.Held.{printed}
use Rattle.ws_words.proofs.memory.Memory.print.Goals as goal

pub returns : goal.returns
returns c = λ o h. printed o c.args.self.now h c.args.word c.push.new.self c.in_ok-push.ensures.ok
