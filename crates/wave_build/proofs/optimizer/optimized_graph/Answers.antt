use Rattle.src_ast.specs.View as ast
use Rattle.cfg_core.specs.View as view
use Rattle.wave_build.proofs.CompilingRuns.{next_shows}
use Rattle.wave_build.proofs.optimizer.optimized_graph.Goals as goal

pub reached-requires-clause-rules : goal.reached-requires-clause-rules
reached-requires-clause-rules c = c.in_ok-inlined.ensures.opened.costs.rules

pub reached-requires-clause-no_send : goal.reached-requires-clause-no_send
reached-requires-clause-no_send c = c.in_ok-inlined.ensures.opened.no_send

pub returns : goal.returns
returns c =
    let o = c.in_ok-inlined.ensures in
    let k = c.in_ok-kept.ensures in
    let s = c.in_ok-spelled.ensures in
    let parts = ast.parts c.args.accepted.now.program.items.items in
    let g = view.graph c.in_ok-inlined.inlined in
    let h = view.graph c.in_ok-kept.kept in
    let i = view.graph c.in_ok-spelled.spelled in
    record {
      given = g;
      kept = h;
      needed = _;
      inlined = o;
      keeping = record { rules = k.rules; arms = k.arms; sizes = k.sizes; places = k.places };
      needing = c.in_ok-needed.ensures;
      spelling = record {
        rules = s.rules;
        no_call = s.no_call;
        across = s.across;
        values = s.values;
        sizes = s.sizes;
        arms = s.arms;
        start = s.start;
        charged = s.charged;
      };
      shows = next_shows parts h i (next_shows parts g h o.opened.shows k.walks k.arrays) s.walks s.arrays;
    }
