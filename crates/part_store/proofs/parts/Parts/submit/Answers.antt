use Rattle.std.proofs.Common.{ap}
use Rattle.df_core.specs.Places.{image_of}
use Rattle.df_core.specs.Rights.{tokens_of}
use Rattle.part_store.proofs.parts.Parts.submit.Goals as goal

pub returns-else-lets-clause-leads : goal.returns-else-lets-clause-leads
returns-else-lets-clause-leads g c = let image = image_of c.args.program.now in
    rw (ap tokens_of c.requires.told) c.put_by.ensures.leads
