use Rattle.std.proofs.Common.{refl, sym}
use Rattle.std.proofs.lemmas.List.{get_or_read}
use Rattle.ready_pool.proofs.Dealing.{dealt_one}
use Rattle.ready_pool.proofs.deal.put_at.Goals as goal

pub returns : goal.returns
returns g c = dealt_one c.args.seats.now.items _ c.args.at c.index_mut.result.now c.put.new.self c.args.item
    c.put.result c.requires (λ d. sym (get_or_read c.args.seats.now.items c.args.at c.index_mut.result.now
    c.requires c.index_mut.ensures.value d)) refl c.put.ensures.put c.put.ensures.refused
    c.put.ensures.wider c.put.ensures.further
