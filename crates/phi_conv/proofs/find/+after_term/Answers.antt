use Rattle.std.proofs.Common.{arith}
use Rattle.cfg_core.specs.View as view
use Rattle.phi_conv.proofs.Counting.{some_nodes}
use Rattle.phi_conv.proofs.find.+after_term.Goals as goal

pub returns-then-left-eq0 : goal.returns-then-left-eq0
returns-then-left-eq0 t c = omega (arith, some_nodes (view.term c.args.t.now))
