-- What the code's plans say: the same plans as plain data.
use Rattle.std.specs.Prelude.{map}
use Rattle.wave_gen.specs.Wire as wire
use Rattle.wave_gen.specs.Plans as plans
use Rattle.wave_gen.specs.declared.plan.Item.{Item}
use Rattle.wave_gen.specs.declared.plan.Item.TheVariants.{Make, Act, Same}
use Rattle.wave_gen.specs.declared.plan.HowLeft.{HowLeft}
use Rattle.wave_gen.specs.declared.plan.HowLeft.TheVariants.{Onto, Either, Lands, Halts}
use Rattle.wave_gen.specs.declared.plan.Plan.{Plan}

abbrev pub item : Item → wire.Item
item (Make x op from) = wire.Make x op from.items
item (Act op from) = wire.Act op from.items
item (Same x y) = wire.Same x y

abbrev pub leaves : HowLeft → plans.HowLeft
leaves (Onto b) = plans.Onto b
leaves (Either op from b c) = plans.Either op from.items b c
leaves (Lands op from values landings) =
    plans.Lands op from.items values.items landings.items
leaves Halts = plans.Halts

abbrev pub plan : Plan → plans.Plan
plan p = record {
  wave = p.wave;
  first = p.first;
  joined = p.joined;
  entries = p.entries.items;
  pads = p.pads.items;
  items = map item p.items.items;
  exit = leaves p.exit;
  test = p.test;
}
