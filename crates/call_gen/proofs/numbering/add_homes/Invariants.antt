use Rattle.std.proofs.Common.{◌≡◌, ◌++◌, replicate}
use Rattle.call_gen.proofs.numbering.add_homes.Given as goal

abbrev pub invariant-loop : goal.invariant-loop
invariant-loop l = l.homes.items ≡ l.initial.homes.items ++ replicate l.counter l.f
