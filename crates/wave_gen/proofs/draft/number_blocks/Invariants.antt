use Rattle.std.proofs.Common.{◌≡◌, ◌-◌, ℕ, suc, ◌++◌, length, map, reverse}
use Rattle.ws_isa.specs.View as isa
use Rattle.wave_gen.specs.View as view
use Rattle.wave_gen.specs.Plans.{mades, blocks_of}
use Rattle.wave_gen.specs.Kept.{AreKept}
use Rattle.wave_gen.specs.Numbered.{numbers_from}
use Rattle.wave_gen.proofs.draft.number_blocks.Given as goal

abbrev pub invariant-loop-place : goal.invariant-loop-place
invariant-loop-place l =
    (width : ℕ) → AreKept width (map view.plan l.plans) 1 (reverse l.kept)
    (mades width (map view.plan l.plans)) → l.numbers ≡ numbers_from 1 (reverse l.kept)
    → map isa.block l.blocks.items ++ blocks_of width (map view.plan l.plans) (suc l.place)
    (length l.plans - l.place) ≡ blocks_of width (map view.plan l.plans) 1 (length l.plans)
