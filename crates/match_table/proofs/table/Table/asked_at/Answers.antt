use Rattle.std.proofs.Common.{arith}
use Rattle.df_core.specs.Core.{Key}
use Rattle.match_table.specs.Spots.{instance_key}
use Rattle.match_table.specs.Tables.{of_memory}
use Rattle.ws_isa.specs.Image.{is_memory}
use Rattle.match_table.proofs.Listed.{asked_now, has_filtered, place_has}
use Rattle.match_table.proofs.table.Table.asked_at.Goals as goal

pub fired_with-requires : goal.fired_with-requires
fired_with-requires g c = let k = instance_key c.listed-instance.result in let image = g.J.Job.image in
    place_has (of_memory image c.args.self.now.fired) c.args.self.now.fired c.args.place k
    (has_filtered (λ (x : Key). is_memory image x.instr) c.args.self.now.fired) c.requires
    (grind (arith, asked_now))
