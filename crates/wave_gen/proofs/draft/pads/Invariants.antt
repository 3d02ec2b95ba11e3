use Rattle.std.proofs.Common.{◌≡◌, ◌++◌, drop, map}
use Rattle.ws_isa.specs.View as isa
use Rattle.wave_gen.specs.Plans.{pads_of}
use Rattle.wave_gen.specs.Numbered.{number_at}
use Rattle.wave_gen.proofs.draft.pads.Given as goal

abbrev pub invariant-loop-place : goal.invariant-loop-place
invariant-loop-place l = map isa.pad l.pads.items ++ pads_of (number_at l.numbers) l.block l.place l.entries
    (drop l.place l.names) ≡ pads_of (number_at l.numbers) l.block 0 l.entries l.names
