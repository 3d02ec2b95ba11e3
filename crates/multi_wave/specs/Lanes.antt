-- What is true of a thread of a run by its type.
use Rattle.std.specs.Prelude.{Option}
use Rattle.port_set.specs.Ports.{Told}
use Rattle.multi_wave.specs.declared.lane.LaneState.{LaneState}
use Rattle.multi_wave.specs.declared.lane.LaneState.TheVariants.{Going, Over}
use Rattle.multi_wave.specs.Parts.{Alone, EndSo}
use Rattle.multi_wave.specs.Stands.{Stand, On, Off, end_told}

module _ {J P : Type 0} (tells : P → Told) where
  abbrev pub stand_of : LaneState J P → Stand
  stand_of (Going g) = On g
  stand_of (Over end) = Off (end_told tells end)

  -- a thread that has ended has an end of its part
  abbrev pub LaneOk : Option Alone → LaneState J P → Type 0
  LaneOk part (Going g) = Unit {0}
  LaneOk part (Over end) = EndSo tells part end
