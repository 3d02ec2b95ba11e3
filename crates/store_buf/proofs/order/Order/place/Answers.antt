use Rattle.std.proofs.Common.{sym, ◌∙◌}
use Rattle.store_buf.proofs.Ordered as O
use Rattle.store_buf.proofs.order.Order.place.Goals as goal

pub returns : goal.returns
returns c = let o = c.args.self.now in
    c.place.ensures ∙ sym (O.found o.kept.items o.index c.args.wave c.args.instr c.hook.result c.hook.ensures)
