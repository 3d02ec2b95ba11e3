use Rattle.std.proofs.Common.{List, ◌++◌, ◌∙◌, ap, sym, subst}
use Rattle.ws_isa.specs.Image.{Token}
use Rattle.df_core.specs.Places.{image_of}
use Rattle.df_core.specs.Rights.{tokens_of}
use Rattle.store_buf.specs.Contents.{RightTokens, SubmitSo, with_tokens}
use Rattle.store_buf.specs.Outdoors.{Holding}
use Rattle.store_buf.specs.Stores.{Standing, asked_of, content_of}
use Rattle.store_buf.proofs.Coming as K
use Rattle.store_buf.proofs.Served as V
use Rattle.store_buf.proofs.Turns as T
use Rattle.store_buf.proofs.store.Store.serve.Goals as goal

pub returns-in-Ok-clause-leads : goal.returns-in-Ok-clause-leads
returns-in-Ok-clause-leads g c = λ world began formed sound ask standing.
    let image = image_of c.args.program.now in
    let served = c.serve_at.ensures.leads in
    let mid = served.0 in
    let at = c.serve_at.new.self in
    let keeps = V.keeps_on c.args.self.now c.prepare.new.self mid c.args.kept c.prepare.ensures.keeps
    served.1 in
    let before = tokens_of c.make_room.new.told.items in
    let between = tokens_of c.serve_at.new.told.items in
    let lead = T.lead_on image mid at c.go_on.new.self before between (tokens_of c.go_on.new.told.items)
    (T.lead_one image mid at before between served.2) c.go_on.ensures.lead in
    let told = lead.1 ∙ ap (λ xs. xs ++ lead.0)
    (ap tokens_of (c.make_room.ensures.items ∙ c.requires.told)) in
    subst (λ (ts : List Token). Standing image world began c.go_on.new.self × RightTokens image world ts
    × SubmitSo image world began (content_of c.args.self.now) (asked_of c.args.kept)
    (with_tokens ts c.go_on.result) (content_of c.go_on.new.self)) (sym told)
    (K.said image world began formed sound c.args.self.now mid c.args.kept c.requires.fresh
    c.requires.waits ask keeps c.requires.running c.requires.working standing
    c.go_on.new.self c.go_on.ensures.ok lead.0 (λ m h. lead.2 world began m formed sound h) c.go_on.result
    (V.settled_from image mid at c.go_on.new.self c.go_on.result
    (c.serve_at.ensures.failed ∙ sym served.1.failed)
    (c.serve_at.ensures.ports ∙ sym (ap (λ (h : Holding). h.ports) served.1.outer)) c.go_on.ensures.settled))

pub returns-in-Err-clause-leads : goal.returns-in-Err-clause-leads
returns-in-Err-clause-leads g c = K.not_kept (image_of c.args.program.now) c.args.self.now c.prepare.new.self
    c.args.kept (tokens_of c.make_room.new.told.items)
    (ap tokens_of (c.make_room.ensures.items ∙ c.requires.told)) c.prepare.ensures.keeps
    (c.prepare.ensures.ok (image_of c.args.program.now) c.requires.ok) c.requires.fresh
    c.requires.running c.requires.working

pub serve_at-requires-clause-ok : goal.serve_at-requires-clause-ok
serve_at-requires-clause-ok g c = c.prepare.ensures.ok (image_of c.args.program.now) c.requires.ok
