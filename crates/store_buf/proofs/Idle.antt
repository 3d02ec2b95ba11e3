-- An order in which nothing is kept.
use Rattle.std.proofs.Common.{◌≡◌, [], ap, ◌∙◌}
use Rattle.store_buf.specs.declared.order.Order.{Order}
use Rattle.store_buf.specs.Requests.{unissued}

-- nothing waits
pub none_wait : (o : Order) → o.kept.items ≡ [] → o.waiting ≡ 0
none_wait o e = o.ok.count ∙ ap unissued e
