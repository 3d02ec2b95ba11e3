use Rattle.std.proofs.Common.{◌≡◌, ◌++◌, map, drop}
use Rattle.std.specs.List.{filter}
use Rattle.cfg_core.specs.View as view
use Rattle.live_vars.specs.Marks.{has}
use Rattle.phi_conv.specs.Joined as joined
use Rattle.phi_conv.specs.Found.{branch_in_code}
use Rattle.phi_conv.proofs.join.Join.add_choices.Given as goal

abbrev pub invariant-loop-x : goal.invariant-loop-x
invariant-loop-x l =
    map view.op l.ops.items ++ map (joined.choice l.self.vars (branch_in_code l.self.branch))
    (filter (has l.live l.self.branch.join) (drop l.x-index l.self.either.items))
    ≡ map view.op l.initial.ops.items ++ map (joined.choice l.self.vars (branch_in_code l.self.branch))
    (filter (has l.live l.self.branch.join) l.self.either.items)
