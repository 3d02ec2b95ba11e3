use Rattle.std.proofs.Common.{◌≡◌, ◌++◌, length, map, take, drop}
use Rattle.wave_gen.specs.Shared.{shared, none_known}
use Rattle.wave_gen.specs.View as plans
use Rattle.wave_gen.specs.Placed.{known_name}
use Rattle.wave_gen.proofs.share.share_constants.Given as goal

abbrev pub invariant-loop-i : goal.invariant-loop-i
invariant-loop-i l = record {
  count : length l.list.items ≡ l.i-end;
  items : map plans.item (take l.i l.list.items) ++ shared (known_name l.known)
      (map plans.item (drop l.i l.list.items)) ≡ shared none_known (map plans.item l.initial.list.items);
}
