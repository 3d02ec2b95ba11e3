use Rattle.std.proofs.Common.{refl}
use Rattle.df_core.specs.Places.{image_of}
use Rattle.df_core.specs.Rights.{tokens_of}
use Rattle.store_buf.specs.Stores.{asked_of}
use Rattle.store_buf.proofs.Coming as K
use Rattle.store_buf.proofs.buffer.BufferMemoryOrder.take_in.Goals as goal

pub invariant_of-self : goal.invariant_of-self
invariant_of-self g c = (K.with_job (image_of c.args.program.now) g.J.Job.image g.J.Job.world g.J.Job.began
    c.requires.code.image_is c.requires.code.formed c.requires.code.sound c.self.inside.store
    c.submit.new.self c.args.kept (asked_of c.args.kept) (tokens_of c.submit.new.told.items) c.submit.result
    refl c.requires.right c.submit.ensures.leads c.self.invariant).0

pub returns-clause-right : goal.returns-clause-right
returns-clause-right g c = (K.with_job (image_of c.args.program.now) g.J.Job.image g.J.Job.world g.J.Job.began
    c.requires.code.image_is c.requires.code.formed c.requires.code.sound c.self.inside.store
    c.submit.new.self c.args.kept (asked_of c.args.kept) (tokens_of c.submit.new.told.items) c.submit.result
    refl c.requires.right c.submit.ensures.leads c.self.invariant).1
