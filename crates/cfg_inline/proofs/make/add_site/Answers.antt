use Rattle.std.proofs.Common.{◌∷◌, map, ap, ◌∙◌, []}
use Rattle.ws_words.proofs.Lists.{map_append}
use Rattle.cfg_core.specs.View as view
use Rattle.cfg_core.specs.Tables.{graph_in}
use Rattle.cfg_inline.proofs.Making.{site_made}
use Rattle.cfg_inline.proofs.make.add_site.Goals as goal

pub returns : goal.returns
returns c = λ s i.
    ap (map view.op) c.in_ok-push.ensures.items
    ∙ map_append view.op c.add_code.new.ops.items (_ ∷ [])
    ∙ site_made (view.graph (graph_in c.args.table.now)) c.args.call.now c.args.vars s i
    (map view.op c.args.ops.now.items) (map view.op c.add_assigns.new.ops.items)
    (map view.op c.add_blanks.new.ops.items) (map view.op c.add_code.new.ops.items) _ _ _ _ _
    c.in_ok-next.ensures.ops c.in_ok-next.ensures.next c.in_ok-add_blanks.ensures c.saturating_sub.ensures
    c.in_ok-add_code.ensures c.in_ok-spare.ensures c.target-x.ensures c.in_ok-returned.ensures
