use Rattle.std.proofs.Common.{subst, sym}
use Rattle.ws_isa.specs.View as view
use Rattle.ws_isa.specs.Image.{IsBlock}
use Rattle.annot_check.proofs.Slotted.Suits.{targets_in}
use Rattle.annot_check.proofs.targets.edges_cross.Goals as goal

pub starts_wave-requires : goal.starts_wave-requires
starts_wave-requires c = subst (IsBlock (view.image c.args.image.now)) (sym c.target_of.ensures)
    (targets_in
    (view.image c.args.image.now) c.args.number c.loop-choice.choice c.requires.formed.suited c.requires.block
    c.requires.goes_on)
