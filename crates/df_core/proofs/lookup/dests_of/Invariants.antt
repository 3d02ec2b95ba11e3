use Rattle.std.proofs.Common.{◌≡◌, drop, map}
use Rattle.ws_isa.specs.Image.{pad_of}
use Rattle.ws_isa.specs.View as view
use Rattle.df_core.proofs.lookup.dests_of.Given as goal

abbrev pub invariant-loop-pad : goal.invariant-loop-pad
invariant-loop-pad l = pad_of (map view.pad (drop l.pad-index l.pads)) l.number ≡ pad_of (map view.pad l.pads)
    l.number
