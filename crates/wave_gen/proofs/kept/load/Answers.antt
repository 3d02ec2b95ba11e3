use Rattle.std.proofs.Common.{◌∙◌, sym, length, ap, arith}
use Rattle.std.proofs.lemmas.List.{drop_all}
use Rattle.wave_gen.specs.declared.kept.Want.{Want}
use Rattle.wave_gen.specs.Wire.{Back}
use Rattle.wave_gen.specs.Tables.{listed}
use Rattle.wave_gen.specs.Kept.{wanted}
use Rattle.wave_gen.proofs.Tables.Keepings.{load_more}
use Rattle.wave_gen.proofs.kept.load.Goals as goal

pub loop-left-init : goal.loop-left-init
loop-left-init c = (
  omega arith,
  c.new-table.ensures
      ∙ ap wanted (sym (drop_all (length c.args.wants.now) c.args.wants.now (omega arith))),
)

pub loop-left-preserved : goal.loop-left-preserved
loop-left-preserved c = (
  omega arith,
  let d : Want = record { name = 0; spot = Back 0 0 0 } in
      load_more c.args.wants.now c.loop-left.left d (listed c.loop-left.table.lists.items)
      (listed c.add.new.self.lists.items) (omega arith) c.loop-left.invariant.0 c.loop-left.invariant.1
      c.in_ok-add.ensures,
)
