use Rattle.std.proofs.Common.{◌≡◌, drop, map}
use Rattle.ws_isa.specs.View as view
use Rattle.annot_check.specs.Spread.{pad_in}
use Rattle.annot_check.proofs.targets.has_pad.Given as goal

abbrev pub invariant-loop-pad : goal.invariant-loop-pad
invariant-loop-pad l = pad_in (map view.pad (drop l.pad-index l.pads)) l.number ≡ pad_in
    (map view.pad l.pads) l.number
