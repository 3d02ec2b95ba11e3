use Rattle.ws_words.proofs.Held.{none_within}
use Rattle.ws_words.proofs.memory.Memory.is_within.Goals as goal

pub returns-in-None : goal.returns-in-None
returns-in-None c =
    let past = none_within c.args.self.now.cells c.place_of.result c.args.array c.args.index
    c.place_of.ensures c.in-None.ensures in
    (λ t. absurd (cc), λ lt. absurd (past lt))
