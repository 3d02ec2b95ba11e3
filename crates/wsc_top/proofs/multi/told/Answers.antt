use Rattle.std.proofs.Common.{◌∙◌}
use Rattle.wsc_top.proofs.Several.ThreadRuns.{all_told}
use Rattle.wsc_top.proofs.multi.told.Goals as goal

pub returns : goal.returns
returns g c = all_told c.args.options c.args.images.now c.args.ends.now _ c.in_ok-told-3.told
    c.in_ok-told-2.told c.in_ok-told.told _ _ _ _ _ c.image_at-4.ensures c.image_at-3.ensures
    c.image_at-2.ensures c.image_at.ensures (c.built.ensures ∙ c.empty.ensures) c.in_ok-told.ensures
    c.in_ok-told-2.ensures c.in_ok-told-3.ensures c.before-5.ensures
