use Rattle.std.proofs.Common.{◌≡◌, ◌∙◌, ap, subst}
use Rattle.cfg_core.specs.View as view
use Rattle.cfg_core.specs.declared.blocks.Graph.{Graph}
use Rattle.call_gen.specs.Part.{part, AreReached}
use Rattle.call_gen.proofs.Parted.PartMaking.{reached_kept}
use Rattle.call_gen.proofs.part.reached.Goals as goal
use Rattle.ws_words.specs.Items.{flag_at}

pub returns : goal.returns
returns c =
    let g = view.graph c.args.graph.now in
    let flags = c.in_ok-flags.flags.items in
    let same : view.graph c.in_ok-made.made ≡ part g (flag_at flags) = c.in_ok-made.ensures
    ∙ ap (λ (x : Graph). part (view.graph x) (flag_at flags)) c.in_ok-table.ensures in
    let k = reached_kept g (view.graph c.in_ok-made.made) flags same c.requires.rules c.requires.no_send
    (subst (λ (x : Graph). AreReached (view.graph x) flags) c.in_ok-table.ensures
    c.in_ok-flags.ensures) in
    record {
      walks = k.walks;
      arrays = k.arrays;
      all = k.all;
      rules = k.rules;
      no_send = k.no_send;
      shape = k.shape;
      sizes = k.sizes;
      arms = k.arms;
      places = k.places;
    }
