use Rattle.machine_tests.proofs.crews.phase.Goals as goal

pub counted-count-requires-clause-fits : goal.counted-count-requires-clause-fits
counted-count-requires-clause-fits g c = c.in_ok-tables.ensures.fits c.args.limits.now
