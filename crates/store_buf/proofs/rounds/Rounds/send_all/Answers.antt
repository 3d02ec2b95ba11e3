use Rattle.std.proofs.Common.{sym}
use Rattle.store_buf.proofs.Reaching.{covers_left, covers_next, covers_right, covers_round, pushed}
use Rattle.store_buf.proofs.rounds.Rounds.send_all.Goals as goal
use Rattle.ws_words.proofs.Results.{on_ok}

pub returns-in_ok-push-clause-old : goal.returns-in_ok-push-clause-old
returns-in_ok-push-clause-old g c = on_ok c.push_all.result (λ is. covers_right c.args.sent.now
    c.args.self.now _ (covers_next c.args.self.now c.self.inside.round.items c.self.inside.next.items
    c.push_all.new.tokens.items c.args.sent.now (sym c.self.view_is) (pushed c.args.sent.now c.next.new.self
    c.self.inside.next.items c.push.new.tokens.items c.push_all.new.tokens.items c.in-Some.first
    c.in-Some.ensures c.in_ok-push.ensures is))) c.push_all.ensures.items

pub returns-in_ok-push-clause-taken : goal.returns-in_ok-push-clause-taken
returns-in_ok-push-clause-taken g c = on_ok c.push_all.result (λ is. covers_left c.args.sent.now
    c.args.self.now _ (covers_next c.args.self.now c.self.inside.round.items c.self.inside.next.items
    c.push_all.new.tokens.items c.args.sent.now (sym c.self.view_is) (pushed c.args.sent.now c.next.new.self
    c.self.inside.next.items c.push.new.tokens.items c.push_all.new.tokens.items c.in-Some.first
    c.in-Some.ensures c.in_ok-push.ensures is))) c.push_all.ensures.items

pub returns-in_ok-push-2-clause-old : goal.returns-in_ok-push-2-clause-old
returns-in_ok-push-2-clause-old g c =
    let more = c.push_all-else-wave-self.new.tokens.items in
    on_ok c.push_all-else-wave-self.result (λ is. covers_right c.args.sent.now c.args.self.now _
    (covers_round c.args.self.now c.self.inside.round.items c.self.inside.next.items more c.args.sent.now
    (sym c.self.view_is) (pushed c.args.sent.now c.next.new.self c.self.inside.round.items
    c.push-else-wave-self.new.tokens.items more c.in-Some.first c.in-Some.ensures c.in_ok-push-2.ensures
    is))) c.push_all-else-wave-self.ensures.items

pub returns-in_ok-push-2-clause-taken : goal.returns-in_ok-push-2-clause-taken
returns-in_ok-push-2-clause-taken g c =
    let more = c.push_all-else-wave-self.new.tokens.items in
    on_ok c.push_all-else-wave-self.result (λ is. covers_left c.args.sent.now c.args.self.now _
    (covers_round c.args.self.now c.self.inside.round.items c.self.inside.next.items more c.args.sent.now
    (sym c.self.view_is) (pushed c.args.sent.now c.next.new.self c.self.inside.round.items
    c.push-else-wave-self.new.tokens.items more c.in-Some.first c.in-Some.ensures c.in_ok-push-2.ensures
    is))) c.push_all-else-wave-self.ensures.items
