use Rattle.std.proofs.Common.{◌∙◌, sym, ap, map}
use Rattle.ws_isa.specs.View as view
use Rattle.ws_isa.specs.Image.{Block, block_at}
use Rattle.annot_check.specs.Spread.{pad_in}
use Rattle.annot_check.proofs.Slotted.Pads.{lands_in, lands_not}
use Rattle.annot_check.proofs.targets.lands.Goals as goal

pub returns-clause-yes : goal.returns-clause-yes
returns-clause-yes c = lands_in (block_at (view.image c.args.image.now) c.args.number)
    (map view.pad c.block.result.now.pads.items) c.args.pad c.has_pad.result (c.has_pad.ensures ∙
    ap (λ xs. pad_in (map view.pad xs) c.args.pad) c.deref.ensures.value) (sym
    (ap (λ (y : Block). y.pads) c.block.ensures))

pub returns-clause-no : goal.returns-clause-no
returns-clause-no c = lands_not (block_at (view.image c.args.image.now) c.args.number)
    (map view.pad c.block.result.now.pads.items) c.args.pad c.has_pad.result (c.has_pad.ensures ∙
    ap (λ xs. pad_in (map view.pad xs) c.args.pad) c.deref.ensures.value) (sym
    (ap (λ (y : Block). y.pads) c.block.ensures))
