use Rattle.std.proofs.Common.{◌≡◌, ◌∙◌, ℕ, List, sym, ap, subst}
use Rattle.cfg_core.specs.Graph as plain
use Rattle.cfg_core.specs.Rules.{IsGraph}
use Rattle.cfg_core.specs.Shape.{ArmsAlone}
use Rattle.cfg_core.specs.Shown.{SameWalks, SameArrays}
use Rattle.cfg_core.specs.View as view
use Rattle.cfg_core.specs.declared.blocks.Graph.{Graph}
use Rattle.phi_conv.specs.Joined.{joined}
use Rattle.cfg_core.specs.Passing.{PassesNoMore}
use Rattle.phi_conv.specs.Keeps.{ExitsKept, NoCopyLive, ShortJoined, SizesKept, TurnsPayMost}
use Rattle.cfg_core.specs.Weights.{TwoBlocksATurn}
use Rattle.phi_conv.proofs.Paying.{two_blocks_still, turns_pay_most}
use Rattle.phi_conv.proofs.Owning.{arms_alone}
use Rattle.phi_conv.proofs.Dead.{no_copy_live}
use Rattle.phi_conv.proofs.Placing.{exits_kept}
use Rattle.phi_conv.proofs.Alongside.{no_more}
use Rattle.phi_conv.proofs.Kept.{walks_kept, arrays_kept}
use Rattle.phi_conv.proofs.Ruled.{keeps_rules}
use Rattle.phi_conv.proofs.Sizing.{short_joined, sizes_kept}
use Rattle.phi_conv.proofs.make.join_short.Goals as goal

pub returns : goal.returns
returns c =
    let g : plain.Graph = view.graph c.args.graph.now in
    let live : List (List ℕ) = c.args.live.now in
    let same : view.graph c.in_ok-made.made ≡ joined g live =
    c.in_ok-made.ensures ∙ ap (λ (x : Graph). joined (view.graph x) live) c.in_ok-table.ensures in
    record {
      joined = same;
      walks = subst (SameWalks g) (sym same) (walks_kept g live c.requires.rules c.requires.live);
      arrays = subst (SameArrays g) (sym same) (arrays_kept g live c.requires.rules c.requires.live);
      rules = subst IsGraph (sym same) (keeps_rules g live c.requires.rules);
      exits = subst (ExitsKept g) (sym same) (exits_kept g live);
      short = subst (ShortJoined g) (sym same) (short_joined g live);
      sizes = subst (SizesKept g) (sym same) (sizes_kept g live);
      arms = λ alone. subst ArmsAlone (sym same) (arms_alone g live alone);
      copies = subst (NoCopyLive g) (sym same) (no_copy_live g live c.requires.rules);
      turns = λ two. subst TwoBlocksATurn (sym same) (two_blocks_still g live c.requires.rules two);
      work = λ most pays. subst (λ (x : plain.Graph). TurnsPayMost x most) (sym same)
          (turns_pay_most g live most pays);
      blocks = subst (PassesNoMore g) (sym same) (no_more g c.requires.rules live c.requires.live);
    }
