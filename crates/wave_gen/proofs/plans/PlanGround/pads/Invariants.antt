use Rattle.std.proofs.Common.{◌≡◌, ◌++◌, ◌∷◌, suc, map, drop}
use Rattle.wave_gen.specs.Plans.{pulse}
use Rattle.wave_gen.proofs.plans.PlanGround.pads.Given as goal

abbrev pub invariant-loop-x : goal.invariant-loop-x
invariant-loop-x l = l.list.items ++ map suc (drop l.x-index l.named) ≡ pulse ∷ map suc l.named
