use Rattle.std.proofs.lemmas.List.Elements.{recursion_from_All}
use Rattle.df_core.specs.Rights.{IsRight, tokens_of}
use Rattle.store_buf.proofs.Telling.{each_right}
use Rattle.store_buf.proofs.answers.BufferAnswers.listed.Goals as goal

pub of_right-requires-clause-right : goal.of_right-requires-clause-right
of_right-requires-clause-right g c = each_right g.J.Job.image g.J.Job.world
    (tokens_of c.self.inside.told.items) (recursion_from_All (IsRight g.J.Job.image g.J.Job.world)
    (tokens_of c.self.inside.told.items) c.self.invariant.1)
