use Rattle.std.proofs.Common.{◌≡◌, drop}
use Rattle.cfg_core.specs.Walk as walks
use Rattle.cfg_core.proofs.exits.fill.Given as goal

abbrev pub invariant-loop-i : goal.invariant-loop-i
invariant-loop-i l = walks.landed (drop l.i l.named) (drop l.i l.words) l.vars ≡ walks.landed l.named l.words
    l.initial.vars
