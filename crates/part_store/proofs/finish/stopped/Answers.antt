use Rattle.part_store.proofs.finish.stopped.Goals as goal

pub returns-in_default-clause-tells : goal.returns-in_default-clause-tells
returns-in_default-clause-tells g c = λ handed e.
    rw c.finish-end-in_default.ensures.ports (c.front_run.ensures handed e)
