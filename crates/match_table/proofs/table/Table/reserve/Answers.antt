use Rattle.std.proofs.Common.{refl, arith}
use Rattle.match_table.proofs.Spots.{same_lists}
use Rattle.match_table.proofs.table.Table.reserve.Goals as goal

pub invariant_of-self : goal.invariant_of-self
invariant_of-self g c = let i = c.self.invariant in let pages = c.reserve.ensures.kept in
    let wide = c.reserve.ensures.wide_kept in
    let lists = same_lists g.J.Job.image g.J.Job.world c.self.inside.pages.entries c.reserve.new.self.entries
    c.self.inside.fired c.self.inside.fired c.self.inside.asked c.self.inside.asked c.reserve.ensures.same
    refl refl refl refl (i.0, i.1, i.2) in let p = i.3 in let w = i.6 in
    (lists.0, lists.1, lists.2, omega (arith, p, pages), i.4, i.5, omega (arith, w, wide))

pub invariant_of-self-in_err-reserve-2 : goal.invariant_of-self-in_err-reserve-2
invariant_of-self-in_err-reserve-2 g c = let i = c.self.invariant in let pages = c.reserve.ensures.kept in
    let wide = c.reserve.ensures.wide_kept in
    let fired = c.reserve-then-self-count.ensures in
    let lists = same_lists g.J.Job.image g.J.Job.world c.self.inside.pages.entries c.reserve.new.self.entries
    c.self.inside.fired c.reserve-then-self-count.new.self c.self.inside.asked c.self.inside.asked
    c.reserve.ensures.same fired.spots fired.others refl refl (i.0, i.1, i.2) in
    let p = i.3 in let f = i.4 in let w = i.6 in let more = fired.kept in
    (lists.0, lists.1, lists.2, omega (arith, p, pages), omega (arith, f, more), i.5, omega (arith, w, wide))

pub invariant_of-self-in_err-reserve-3 : goal.invariant_of-self-in_err-reserve-3
invariant_of-self-in_err-reserve-3 g c = let i = c.self.invariant in let pages = c.reserve.ensures.kept in
    let wide = c.reserve.ensures.wide_kept in
    let fired = c.reserve-then-self-count.ensures in let asked = c.reserve-then-self-count-2.ensures in
    let lists = same_lists g.J.Job.image g.J.Job.world c.self.inside.pages.entries c.reserve.new.self.entries
    c.self.inside.fired c.reserve-then-self-count.new.self c.self.inside.asked
    c.reserve-then-self-count-2.new.self c.reserve.ensures.same fired.spots fired.others asked.spots
    asked.others (i.0, i.1, i.2) in
    let p = i.3 in let f = i.4 in let a = i.5 in let w = i.6 in let more = fired.kept in
    let most = asked.kept in (
      lists.0,
      lists.1,
      lists.2,
      omega (arith, p, pages),
      omega (arith, f, more),
      omega (arith, a, most),
      omega (arith, w, wide),
    )

pub invariant_of-self-then-self-count : goal.invariant_of-self-then-self-count
invariant_of-self-then-self-count g c = let i = c.self.invariant in
    let fired = c.reserve-then-self-count.ensures in let asked = c.reserve-then-self-count-2.ensures in
    let lists = same_lists g.J.Job.image g.J.Job.world c.self.inside.pages.entries c.reserve.new.self.entries
    c.self.inside.fired c.reserve-then-self-count.new.self c.self.inside.asked
    c.reserve-then-self-count-2.new.self c.reserve.ensures.same fired.spots fired.others asked.spots
    asked.others (i.0, i.1, i.2) in (grind arith)
