use Rattle.std.proofs.Common.{◌-◌, map, List, ap, ◌∙◌, arith}
use Rattle.wave_gen.specs.declared.tails.Tail.{Tail}
use Rattle.wave_gen.specs.Plans.{differing}
use Rattle.wave_gen.specs.Tables.{listed, tail_of}
use Rattle.wave_gen.proofs.Tables.Keepings.{differing_from, forked_next, last_name, map_reverse}
use Rattle.wave_gen.proofs.fork.fork.Goals as goal

pub loop-name-preserved : goal.loop-name-preserved
loop-name-preserved c =
    let w = listed c.args.some.lists.items in let v = listed c.args.none.lists.items in
    let k = c.loop-name.name in let n = c.args.width in (
      omega arith,
      forked_next w v n k (k - 1) c.compare.new.self (omega arith) c.loop-name.invariant.0
          (c.in_ok-compare.ensures w v (differing w v k (n - k))
          (differing_from w v (k - 1) k (n - k) (omega arith)) c.loop-name.invariant.1),
    )

pub returns-clause-tails : goal.returns-clause-tails
returns-clause-tails c =
    let w = listed c.args.some.lists.items in let v = listed c.args.none.lists.items in
    let n = c.args.width in
    let all = c.in_ok-steer_some.ensures w v (differing w v 0 n)
    (last_name w v n c.loop-name.name c.loop-name.arms c.loop-name-test.false c.loop-name.invariant.1) in
    ap (λ (ts : List Tail). map tail_of ts) c.reverse.ensures.items ∙ map_reverse
    c.steer_some.new.self.tails.items ∙ all.tails

pub returns-clause-past : goal.returns-clause-past
returns-clause-past c =
    let w = listed c.args.some.lists.items in let v = listed c.args.none.lists.items in
    let n = c.args.width in
    let all = c.in_ok-steer_some.ensures w v (differing w v 0 n)
    (last_name w v n c.loop-name.name c.loop-name.arms c.loop-name-test.false c.loop-name.invariant.1) in
    all.some
