use Rattle.std.proofs.Common.{subst}
use Rattle.df_core.specs.Rights.{tokens_of}
use Rattle.store_buf.specs.Stores.{asked_of}
use Rattle.part_store.specs.Calls.{request_of, PartSubmitSo}
use Rattle.part_store.specs.Parts.{content_of}
use Rattle.part_store.specs.Contents.{PartContent}
use Rattle.part_store.proofs.Running.After as A
use Rattle.part_store.proofs.part.PartBuffer.take_whole.Goals as goal

pub invariant_of-self : goal.invariant_of-self
invariant_of-self g c = (A.submit_told _ _ _ _ c.requires.code.image_is c.requires.code.formed
    c.requires.code.sound _ _ _ _ _ _ (A.waits_is _ c.requires.waits) c.submit.ensures.ok
    c.submit.ensures.filed c.self.invariant c.requires.right c.submit.ensures.leads).0

pub returns-clause-right : goal.returns-clause-right
returns-clause-right g c = (A.submit_told _ _ _ _ c.requires.code.image_is c.requires.code.formed
    c.requires.code.sound _ _ _ _ _ _ (A.waits_is _ c.requires.waits) c.submit.ensures.ok
    c.submit.ensures.filed c.self.invariant c.requires.right c.submit.ensures.leads).1

pub returns-clause-submitted : goal.returns-clause-submitted
returns-clause-submitted g c = A.submitted_as _ _ _ _ _ _ (subst (λ (x : PartContent). PartSubmitSo
    g.J.Job.image x (request_of (asked_of c.args.kept)) (tokens_of c.submit.new.told.items) c.submit.result
    (content_of c.submit.new.self)) c.self.view_is (A.submit_told _ _ _ _ c.requires.code.image_is
    c.requires.code.formed c.requires.code.sound _ _ _ _ _ _ (A.waits_is _ c.requires.waits)
    c.submit.ensures.ok c.submit.ensures.filed c.self.invariant c.requires.right c.submit.ensures.leads).2)
