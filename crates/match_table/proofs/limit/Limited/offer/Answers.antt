use Rattle.std.proofs.Common.{◌≡◌, ◌<◌, true, true≢false, length, arith}
use Rattle.match_table.specs.Matching.{will_fire}
use Rattle.match_table.specs.Growth.{content_at}
use Rattle.match_table.proofs.Growth.{grows_on, all_grows}
use Rattle.match_table.proofs.Served.{all_ok}
use Rattle.match_table.proofs.limit.Limited.offer.Goals.{else-fired_count-self-via-then-fired_count-self+else-would_fire}
use Rattle.match_table.proofs.limit.Limited.offer.Goals.{else-fired_count-self-via-else-fired_count-self}
use Rattle.match_table.proofs.limit.Limited.offer.Goals as goal

pub invariant_of-self : goal.invariant_of-self
invariant_of-self g c =
    let less : will_fire g.J.Job.image c.self.inside.table c.args.token.now ≡ true
    → length c.self.inside.table.fired < c.self.inside.most = grind (
      arith,
      else-fired_count-self-via-then-fired_count-self+else-would_fire,
      true≢false,
      else-fired_count-self-via-else-fired_count-self,
    ) in
    let x = all_ok g.J.Job.image c.self.inside.table c.accept_into.new.self c.args.token.now
    c.accept_into.new.results c.accept_into.result g.row.NUMBER c.self.inside.most c.self.invariant.0
    c.self.invariant.2 c.requires less
    c.accept_into.ensures.answer c.accept_into.ensures.fires in
    let y = all_grows g.J.Job.image c.self.inside.table c.accept_into.new.self c.args.token.now
    c.accept_into.new.results c.accept_into.result c.accept_into.ensures.answer in (
      x.0,
      c.self.invariant.1,
      x.1,
      grows_on (content_at g.Q.Quotas.began g.row.NUMBER) c.self.inside.table
          c.accept_into.new.self c.self.invariant.3 y,
    )
