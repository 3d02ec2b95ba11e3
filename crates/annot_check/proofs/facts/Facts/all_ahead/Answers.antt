use Rattle.std.proofs.Common.{◌≡◌, ◌∷◌, ◌+◌, get_or, drop, drop-cons, add-one, inl, refl}
use Rattle.ws_isa.specs.declared.instr.Dest.{Dest}
use Rattle.annot_check.proofs.facts.Facts.all_ahead.Goals as goal

pub returns-then-not-is_ahead-clause-no : goal.returns-then-not-is_ahead-clause-no
returns-then-not-is_ahead-clause-no c x all =
    let d : Dest = get_or c.args.dests.now c.loop-dest.dest-index (record { instr = 0; port = 0 }) in
    let e : drop c.loop-dest.dest-index c.args.dests.now ≡ d ∷ drop
    (c.loop-dest.dest-index + 1) c.args.dests.now =
    rw add-one (drop-cons c.args.dests.now c.loop-dest.dest-index _ c.loop-dest-test.true) in
    c.is_ahead.ensures.no c.if-not-is_ahead.true (all d.instr d.port
    (c.loop-dest.invariant.here d.instr d.port (rw e (inl (refl, refl)))))
