use Rattle.std.proofs.Common.{List, ◌++◌, ◌∙◌, refl, ap, sym, subst, inl}
use Rattle.ws_isa.specs.Image.{Token}
use Rattle.df_core.specs.Places.{image_of}
use Rattle.df_core.specs.Rights.{tokens_of}
use Rattle.store_buf.specs.Contents.{RightTokens, SubmitSo, with_tokens}
use Rattle.store_buf.specs.Stores.{Standing, asked_of, content_of}
use Rattle.store_buf.proofs.Coming as K
use Rattle.store_buf.proofs.store.Store.take_in.Goals as goal

pub returns-then-is_err-clause-leads : goal.returns-then-is_err-clause-leads
returns-then-is_err-clause-leads g c = λ world began formed sound ask standing. (
  standing,
  subst (RightTokens (image_of c.args.program.now) world)
      (sym (ap tokens_of (c.make_room.ensures.items ∙ c.requires.told))) (λ w i p v e. absurd e),
  inl ((c.requires.running, c.requires.working), c.requires.fresh, refl),
)

pub returns-after-lets-clause-leads : goal.returns-after-lets-clause-leads
returns-after-lets-clause-leads g c = λ world began formed sound ask standing.
    let image = image_of c.args.program.now in
    let lead = c.settle.ensures.lead in
    let told = lead.1 ∙ ap (λ xs. xs ++ lead.0)
    (ap tokens_of (c.make_room.ensures.items ∙ c.requires.told)) in
    subst (λ (ts : List Token). Standing image world began c.settle.new.self × RightTokens image world ts
    × SubmitSo image world began (content_of c.args.self.now) (asked_of c.args.kept)
    (with_tokens ts c.settle.result) (content_of c.settle.new.self)) (sym told)
    (K.said image world began formed sound c.args.self.now c.keep.new.self c.args.kept c.requires.fresh
    c.requires.waits ask c.in-Ok.ensures.keeps c.requires.running c.requires.working standing
    c.settle.new.self c.settle.ensures.ok lead.0 (λ m h. lead.2 world began m formed sound h) c.settle.result
    c.settle.ensures.settled)

pub returns-in-Err-clause-leads : goal.returns-in-Err-clause-leads
returns-in-Err-clause-leads g c = K.not_kept (image_of c.args.program.now) c.args.self.now c.keep.new.self
    c.args.kept (tokens_of c.make_room.new.told.items)
    (ap tokens_of (c.make_room.ensures.items ∙ c.requires.told)) c.in-Err.ensures.unchanged
    c.keep.ensures.ok c.requires.fresh c.requires.running c.requires.working
