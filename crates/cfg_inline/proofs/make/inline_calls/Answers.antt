use Rattle.std.proofs.Common.{◌≡◌, ◌∙◌, sym, ap, subst}
use Rattle.cfg_core.specs.Graph as plain
use Rattle.cfg_core.specs.Rules.{IsGraph}
use Rattle.cfg_core.specs.Shape.{ArmsAlone}
use Rattle.cfg_core.specs.Shown.{SameWalks, SameArrays}
use Rattle.cfg_core.specs.View as view
use Rattle.cfg_core.specs.Weights.{TwoBlocksATurn}
use Rattle.cfg_core.specs.declared.blocks.Graph.{Graph}
use Rattle.cfg_inline.specs.Inlined.{Plan, inlined}
use Rattle.cfg_inline.specs.Charged.{BlocksCharged}
use Rattle.cfg_inline.specs.Keeps.{ExitsKept}
use Rattle.cfg_core.specs.Passing.{PassesNoMore}
use Rattle.live_vars.specs.Keeps.{NoMoreLive}
use Rattle.cfg_inline.proofs.Charged.{blocks_charged}
use Rattle.cfg_inline.proofs.Kept.{walks_kept, arrays_kept, no_more, exits_kept}
use Rattle.cfg_inline.proofs.Lively.{no_more_live}
use Rattle.cfg_inline.proofs.Ruled.{keeps_rules}
use Rattle.cfg_inline.proofs.Shaped.{arms_alone, two_blocks_still}
use Rattle.cfg_inline.proofs.make.inline_calls.Goals as goal

pub returns : goal.returns
returns c =
    let g : plain.Graph = view.graph c.args.graph.now in
    let plan : Plan = record { room = c.args.room; chosen = c.args.chosen.now } in
    let same : view.graph c.in_ok-made.made ≡ inlined plan g =
    c.in_ok-made.ensures ∙ ap (λ (x : Graph). inlined plan (view.graph x)) c.in_ok-table.ensures in
    record {
      inlined = same;
      walks = subst (SameWalks g) (sym same) (walks_kept plan g c.requires.rules);
      arrays = subst (SameArrays g) (sym same) (arrays_kept plan g c.requires.rules);
      rules = subst IsGraph (sym same) (keeps_rules plan g c.requires.rules);
      exits = subst (ExitsKept g) (sym same) (exits_kept plan g c.requires.rules);
      blocks = subst (PassesNoMore g) (sym same) (no_more plan g c.requires.rules);
      arms = λ a. subst ArmsAlone (sym same) (arms_alone plan g c.requires.rules a);
      live = subst (NoMoreLive g) (sym same) (no_more_live plan g c.requires.rules);
      turns = λ t. subst TwoBlocksATurn (sym same) (two_blocks_still plan g c.requires.rules t);
      charged = subst (BlocksCharged plan g) (sym same) (blocks_charged plan g c.requires.rules);
    }
