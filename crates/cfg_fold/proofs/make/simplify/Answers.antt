use Rattle.std.proofs.Common.{◌≡◌, sym, subst}
use Rattle.cfg_core.specs.Graph as plain
use Rattle.cfg_core.specs.Rules.{IsGraph}
use Rattle.cfg_core.specs.Shape.{IsShaped, ArmsAlone}
use Rattle.cfg_core.specs.Shown.{SameWalks, SameArrays}
use Rattle.cfg_core.specs.View as view
use Rattle.cfg_core.specs.Weights.{TwoBlocksATurn, TurnsPayWork}
use Rattle.cfg_fold.specs.Folded.{folded_graph}
use Rattle.cfg_fold.specs.Keeps.{SameSteps, SameOutline, SizesKept}
use Rattle.live_vars.specs.Keeps.{NoMoreLive}
use Rattle.cfg_fold.proofs.Walking.{same_steps}
use Rattle.cfg_fold.proofs.Kept.{walks_kept, arrays_kept}
use Rattle.cfg_fold.proofs.Lively.{no_more_live}
use Rattle.cfg_fold.proofs.Ruled.{keeps_rules}
use Rattle.cfg_fold.proofs.Outlined.{same_outline}
use Rattle.cfg_fold.proofs.Shaped.{keeps_shape, keeps_arms}
use Rattle.cfg_fold.proofs.Paying.{two_blocks_still, turns_pay_still, sizes_kept}
use Rattle.cfg_fold.proofs.make.simplify.Goals as goal

pub returns : goal.returns
returns c =
    let g : plain.Graph = view.graph c.args.graph.now in
    let same : view.graph c.in_ok-made.made ≡ folded_graph g = c.in_ok-made.ensures in
    record {
      folded = same;
      steps = subst (SameSteps g) (sym same) (same_steps g c.requires);
      walks = subst (SameWalks g) (sym same) (walks_kept g c.requires);
      arrays = subst (SameArrays g) (sym same) (arrays_kept g c.requires);
      rules = subst IsGraph (sym same) (keeps_rules g c.requires);
      outline = subst (SameOutline g) (sym same) (same_outline g);
      sizes = subst (SizesKept g) (sym same) (sizes_kept g);
      shape = λ shape. subst IsShaped (sym same) (keeps_shape g shape);
      arms = λ alone. subst ArmsAlone (sym same) (keeps_arms g alone);
      live = subst (NoMoreLive g) (sym same) (no_more_live g);
      turns = λ two. subst TwoBlocksATurn (sym same) (two_blocks_still g two);
      work = λ most pays. subst (λ (x : plain.Graph). TurnsPayWork x most) (sym same)
          (turns_pay_still g most pays);
    }
