use Rattle.std.proofs.Common.{Option, Some, inl, refl, subst, sym}
use Rattle.port_set.specs.Slots.{AllOpen, contents}
use Rattle.store_buf.specs.declared.finish.RunFinish.TheVariants.{NoMemory}
use Rattle.multi_wave.specs.Parts.{Alone, EndSo, alone_of}
use Rattle.multi_wave.proofs.Ends.{begins, named_by}
use Rattle.multi_wave.proofs.lane.Lane.begin.Goals as goal

pub begin-requires-clause-ports : goal.begin-requires-clause-ports
begin-requires-clause-ports g c =
    let handed = contents g.P.Port.tells c.args.part.ports in
    let named = named_by g.J.Job.image g.J.Job.world g.J.Job.began g.J.LaneJob.part
    (alone_of g.P.Port.tells c.args.part) g.met.J.LaneJob.named c.requires.part in
    begins g.J.Job.world g.J.Job.began c.args.part.input handed named.1 named.2
    (c.told_ports_begin.ensures.begin handed c.requires.ready.0)

pub off-requires : goal.off-requires
off-requires g c = subst (λ (part : Option Alone). EndSo g.P.Port.tells part
    (Some (record { finish = NoMemory; ports = c.args.part.ports }))) c.requires.part
    (inl refl, c.requires.ready.1)

pub off-requires-in-Err : goal.off-requires-in-Err
off-requires-in-Err g c = subst (λ (part : Option Alone). EndSo g.P.Port.tells part
    (Some (record { finish = NoMemory; ports = c.in-Err.ports }))) c.requires.part (
      inl c.in-Err.ensures.back,
      subst (λ ports. AllOpen ports) (sym c.in-Err.ensures.back) c.requires.ready.1,
    )
