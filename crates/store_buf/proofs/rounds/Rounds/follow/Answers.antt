use Rattle.std.proofs.Common.{◌≡◌, ◌∷◌, sym, arith}
use Rattle.store_buf.proofs.Reaching.{covers_next, covers_rest, covers_round, pushed, take_after}
use Rattle.store_buf.proofs.rounds.Rounds.follow.Goals as goal

pub returns-then-wave-self-clause-next : goal.returns-then-wave-self-clause-next
returns-then-wave-self-clause-next g c =
    let all = c.args.sent.now in
    let rest = c.next.new.self in
    let old = c.args.self.now in
    let round = c.self.inside.round.items in
    let next = c.self.inside.next.items in
    let more = c.push_all.new.tokens.items in
    let t = c.in-Some.first in
    let first : all ≡ t ∷ rest = grind arith in
    take_after c.take-then-wave-self.result all rest old _ c.take-then-wave-self.new.self t first
    (covers_next old round next more all (sym c.self.view_is) (pushed all rest next c.push.new.tokens.items
    more t first c.in_ok-push.ensures c.in_ok-push_all.ensures.items))
    c.take-then-wave-self.ensures

pub returns-clause-next : goal.returns-clause-next
returns-clause-next g c = let first : c.args.sent.now ≡ c.in-Some.first ∷ c.next.new.self = grind arith in
    covers_rest c.args.sent.now c.next.new.self c.args.self.now _ c.in-Some.first first
    (covers_round c.args.self.now c.self.inside.round.items c.self.inside.next.items
    c.push_all-2.new.tokens.items c.next.new.self (sym c.self.view_is) c.in_ok-push_all-2.ensures.items)
