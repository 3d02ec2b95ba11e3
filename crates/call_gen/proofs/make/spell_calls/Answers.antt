use Rattle.std.proofs.Common.{ℕ, List, ◌≡◌, ◌∙◌, ap}
use Rattle.cfg_core.specs.View as view
use Rattle.cfg_core.specs.declared.blocks.Graph.{Graph}
use Rattle.call_gen.specs.Spelled.{spelled}
use Rattle.call_gen.proofs.Spelled.Making.{all_kept}
use Rattle.call_gen.proofs.make.spell_calls.Goals as goal

pub returns : goal.returns
returns c =
    let g = view.graph c.args.graph.now in
    let plan = c.in_ok-plan.plan in
    let same : view.graph c.in_ok-graph.graph ≡ spelled g c.args.live.now = c.in_ok-graph.ensures
    ∙ ap (λ (x : Graph). spelled (view.graph x) plan.live.now) c.in_ok-plan.ensures.graph
    ∙ ap (λ (l : List (List ℕ)). spelled g l) c.in_ok-plan.ensures.live in
    let k = all_kept g c.args.live.now (view.graph c.in_ok-graph.graph) same (record {
      rules = c.requires.rules;
      no_send = c.requires.no_send;
      known = λ b x lt low l. (c.requires.live b x lt low).1 l;
      only = λ b x lt low h. (c.requires.live b x lt low).0 h;
    }) in
    record {
      walks = k.walks;
      arrays = k.arrays;
      rules = k.rules;
      no_call = k.no_call;
      across = k.across;
      values = k.values;
      sizes = k.sizes;
      charged = k.charged;
      arms = k.arms;
      start = k.start;
    }
