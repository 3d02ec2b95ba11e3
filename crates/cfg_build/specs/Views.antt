-- What the code holds of a builder.
use Rattle.std.specs.Prelude.{map}
use Rattle.cfg_core.specs.View as view
use Rattle.cfg_build.specs.Building as building
use Rattle.cfg_build.specs.declared.builder.Builder.{Builder}

-- the builder as plain data
abbrev pub builder : Builder → building.Builder
builder d =
    record { first = d.first; done = map view.block d.done.items; ops = map view.op d.ops.items }
