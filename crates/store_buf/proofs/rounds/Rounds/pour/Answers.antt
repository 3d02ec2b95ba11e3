use Rattle.store_buf.proofs.Reaching.{covers_put, taken_on}
use Rattle.store_buf.proofs.rounds.Rounds.pour.Goals as goal

pub loop-token-preserved : goal.loop-token-preserved
loop-token-preserved g c =
    let t = c.in-Some.token in (
      covers_put c.args.self.now c.loop-token.self c.put.new.self t c.loop-token.invariant.0
          c.in_ok-put.ensures,
      taken_on c.args.tokens c.loop-token.rest c.pop.new.self c.loop-token.self c.put.new.self t
          c.loop-token.invariant.1 c.in-Some.ensures c.in_ok-put.ensures,
    )
