use Rattle.std.proofs.Common.{◌≡◌, drop}
use Rattle.wave_gen.specs.Tables.{listed}
use Rattle.wave_gen.specs.Wire.{Wants, with_uses}
use Rattle.wave_gen.proofs.table.Table.add_uses.Given as goal

abbrev pub invariant-loop-port : goal.invariant-loop-port
invariant-loop-port l =
    ◌≡◌ {A = Wants} (with_uses l.block l.back l.port (drop l.port l.from) (listed l.self.lists.items))
    (with_uses l.block l.back 0 l.from (listed l.initial.self.lists.items))
