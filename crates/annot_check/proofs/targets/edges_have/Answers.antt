use Rattle.std.proofs.Common.{subst, sym}
use Rattle.ws_isa.specs.View as view
use Rattle.ws_isa.specs.Image.{IsBlock}
use Rattle.annot_check.proofs.Slotted.Suits.{targets_in}
use Rattle.annot_check.proofs.targets.edges_have.Goals as goal

pub lands-requires : goal.lands-requires
lands-requires c = record {
  block = subst (IsBlock (view.image c.args.image.now)) (sym c.target_of.ensures)
      (targets_in
      (view.image c.args.image.now) c.args.number c.loop-choice.choice c.requires.formed.suited
      c.requires.block c.requires.goes_on);
}
