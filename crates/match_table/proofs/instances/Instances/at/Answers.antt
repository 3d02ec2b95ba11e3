use Rattle.std.proofs.Common.{◌≡◌, ◌<◌, get_or, length, sym, ap, ◌∙◌, subst, arith}
use Rattle.match_table.specs.Spots.{InstanceList, IsPlaced}
use Rattle.match_table.proofs.instances.Instances.at.Goals as goal

pub returns-then-place-count-clause-placed : goal.returns-then-place-count-clause-placed
returns-then-place-count-clause-placed c = λ slots placed.
    let count : length c.self.inside.spots.items ≡ length c.args.self.now.spots =
    ap (λ (l : InstanceList). length l.spots) c.self.view_is in
    let below : c.args.place < length c.args.self.now.spots =
    (let t = c.if-place-count.true in let n = c.len-count.ensures in omega (arith, t, n, count)) in
    subst (IsPlaced slots) (ap (λ (l : InstanceList). get_or l.spots c.args.place c.index.result.now)
    (sym c.self.view_is) ∙ sym c.index.ensures) (placed c.args.place c.index.result.now below)
