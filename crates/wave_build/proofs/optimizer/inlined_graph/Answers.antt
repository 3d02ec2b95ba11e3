use Rattle.std.proofs.Common.{◌+◌, ◌*◌, arith}
use Rattle.src_ast.specs.Bound.{most_variables}
use Rattle.src_ast.specs.View as ast
use Rattle.cfg_core.specs.View as view
use Rattle.phi_conv.specs.Joined.{more_vars}
use Rattle.wave_build.specs.Small.{lowered_sizes, joined_sizes}
use Rattle.wave_build.proofs.Opening.{joined_opened}
use Rattle.wave_build.proofs.Sizing.{joined_within, vars_within}
use Rattle.wave_build.proofs.optimizer.inlined_graph.Goals as goal

pub returns : goal.returns
returns c =
    let parts = ast.parts c.args.accepted.now.program.items.items in
    let v = most_variables parts in
    let g = view.graph c.in_ok-joined.joined in
    let b = c.in_ok-joined.ensures in
    let most = c.most_room-most.ensures in
    let sizes = joined_within parts b.lowered g b.lowering b.joining in
    let paid = most.paid v (vars_within (joined_sizes (lowered_sizes parts)) (3 * v + 1) (omega arith) g.procs
    sizes.procs) in
    let one = c.in_ok-once.ensures.opened parts (more_vars v) paid (joined_opened parts g b) in
    let two = c.in_ok-twice.ensures.opened parts (more_vars v + one.0) paid one.2 in
    record {
      vars = more_vars v + one.0 + two.0;
      few = omega (arith, most.few, one.1, two.1);
      opened = two.2;
    }
