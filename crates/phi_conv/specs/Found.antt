-- What the code finds of short branches.
use Rattle.std.specs.Prelude.{◌≡◌, ℕ, true, List, [], Option, Some, None, MatchOption, map}
use Rattle.cfg_core.specs.Graph.{Op, Block}
use Rattle.cfg_core.specs.View as view
use Rattle.phi_conv.specs.declared.find.ShortBranch.{ShortBranch}
use Rattle.phi_conv.specs.declared.join.Join.{Join}
use Rattle.phi_conv.specs.Short.{Short, is_arm, is_lone_arm}
use Rattle.phi_conv.specs.Joined.{written, written_by, is_still}

-- the block is an arm that goes on to j, with these operations
pub record ArmIs (block : Block) (j : ℕ) (held : List Op) : Type 0 where
  pub arm : is_arm block j ≡ true
  pub ops : held ≡ block.ops

-- the same of an arm beside none
pub record LoneArmIs (block : Block) (j : ℕ) (held : List Op) : Type 0 where
  pub arm : is_lone_arm block j ≡ true
  pub ops : held ≡ block.ops

-- the code's short branch as plain data
abbrev pub branch_in_code : ShortBranch → Short
branch_in_code s = record {
  test = view.term s.test.now;
  first = map view.op s.first.now;
  second = map view.op s.second.now;
  join = s.join;
}

-- the code has found this short branch, or none
abbrev pub FoundIs : Option Short → Option ShortBranch → Type 0
FoundIs found result = MatchOption result (found ≡ None) (λ s. found ≡ Some (branch_in_code s))

-- what the code holds of a short branch
pub record JoinIs (join : Join) : Type 0 where
  pub still : join.still ≡ is_still join.either.items (view.term join.branch.test.now)
  pub first : join.first.items ≡ written [] (branch_in_code join.branch).first
  pub second : join.second.items ≡ written [] (branch_in_code join.branch).second
  pub either : join.either.items ≡ written_by (branch_in_code join.branch)
