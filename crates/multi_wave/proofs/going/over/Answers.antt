use Rattle.match_table.specs.Together.{part_of}
use Rattle.multi_wave.proofs.Ends.{end_so}
use Rattle.multi_wave.proofs.going.over.Goals as goal

pub off-requires : goal.off-requires
off-requires g c =
    end_so g.P.Port.tells c.ends_are_told.ensures g.J.Job.image g.J.Job.world g.J.Job.began c.args.budget
    (part_of c.args.tables).fired g.J.LaneJob.part c.crew_end-end.result g.met.J.LaneJob.named
    c.requires.part c.crew_end-end.ensures.finish c.crew_end-end.ensures.open
