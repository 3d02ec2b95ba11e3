use Rattle.std.proofs.Common.{◌∷◌, [], sym}
use Rattle.store_buf.proofs.Reaching.{covers_next, covers_round}
use Rattle.store_buf.proofs.rounds.Rounds.put.Goals as goal
use Rattle.ws_words.proofs.Results.{on_ok}

pub returns-then-wave-self : goal.returns-then-wave-self
returns-then-wave-self g c = on_ok c.push.result (covers_round c.args.self.now c.self.inside.round.items
    c.self.inside.next.items c.push.new.tokens.items (c.args.token ∷ []) (sym c.self.view_is)) c.push.ensures

pub returns-else-wave-self : goal.returns-else-wave-self
returns-else-wave-self g c = on_ok c.push-else-wave-self.result (covers_next c.args.self.now
    c.self.inside.round.items c.self.inside.next.items c.push-else-wave-self.new.tokens.items
    (c.args.token ∷ []) (sym c.self.view_is)) c.push-else-wave-self.ensures
