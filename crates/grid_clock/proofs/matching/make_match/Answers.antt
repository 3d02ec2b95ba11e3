use Rattle.std.proofs.Common.{[], ◌∷◌}
use Rattle.df_core.specs.Core.{Match}
use Rattle.df_core.specs.Places.{image_of}
use Rattle.df_core.specs.Ways.{token_of}
use Rattle.grid_clock.proofs.Leading.{same_going, same_leads}
use Rattle.grid_clock.proofs.matching.make_match.Goals as goal

pub arrive-requires-clause-going : goal.arrive-requires-clause-going
arrive-requires-clause-going c = same_going _ _ _ _ c.prepare.ensures.same c.requires.going

pub returns-clause-leads : goal.returns-clause-leads
returns-clause-leads c = same_leads (image_of c.args.program.now) (Match c.args.token.wave c.args.token.instr
    c.args.token.port) (token_of c.args.token ∷ []) c.args.flow.now c.prepare.new.self c.arrive.new.self
    c.prepare.ensures.same c.arrive.ensures.leads
