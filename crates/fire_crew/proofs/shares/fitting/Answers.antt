use Rattle.std.proofs.Common.{arith}
use Rattle.match_table.specs.Rows.{contents}
use Rattle.match_table.proofs.Shares.{all_within, fit_serve, fit_within}
use Rattle.fire_crew.proofs.shares.fitting.Goals as goal

pub returns-clause-serve : goal.returns-clause-serve
returns-clause-serve g c = fit_serve 0 (contents c.args.tables.now) c.args.limits.now c.requires.fits

pub returns-clause-within : goal.returns-clause-within
returns-clause-within g c = grind (arith, all_within, fit_within)
