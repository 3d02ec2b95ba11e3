use Rattle.part_store.proofs.Told.Telling.{port_failed}
use Rattle.part_store.proofs.ends.port_run.Goals as goal

pub returns : goal.returns
returns g c = λ handed e.
    let failed = c.facts.ensures.failed c.args.port c.requires.failed in
    let back = c.args.buffer.now.outside.ports in
    port_failed _ _ _ _ c.facts.ensures.parted.0 c.facts-2.ensures.formed c.facts-2.ensures.sound _ failed.0 _
    e (c.told_ports_begin.ensures.rose handed back c.args.port (rw (← e) failed.1))
