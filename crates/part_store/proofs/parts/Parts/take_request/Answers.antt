use Rattle.std.proofs.Common.{List, ◌++◌, ◌∙◌, false, refl, ap, sym, subst, inl}
use Rattle.ws_isa.specs.Image.{Token}
use Rattle.df_core.specs.Places.{image_of}
use Rattle.df_core.specs.Rights.{tokens_of}
use Rattle.store_buf.specs.Contents.{RightTokens}
use Rattle.part_store.specs.Bares.{is_in}
use Rattle.part_store.proofs.Running.Coming as C
use Rattle.part_store.proofs.parts.Parts.take_request.Goals as goal

pub returns-in-Ok-clause-leads : goal.returns-in-Ok-clause-leads
returns-in-Ok-clause-leads g c = λ world began formed sound right calm idle.
    let image = image_of c.args.program.now in
    let old = c.args.self.now in
    let mid = c.keep.new.self in
    let lead = c.settle.ensures.lead in
    let told = lead.1 ∙ ap (λ (xs : List Token). xs ++ lead.0)
    (ap tokens_of (c.make_room.ensures.items ∙ c.requires.told)) in
    let now = C.calm_now image world began formed sound old mid c.args.kept false c.requires.fresh
    c.requires.waits c.in-Ok.ensures.keeps (C.whole_bare old mid c.args.kept c.requires.ok c.requires.fresh
    c.in-Ok.ensures.bare) c.requires.running c.requires.working right calm in
    let led = lead.2 world began formed sound now in (
      led.1,
      rw told (C.right_now image world began formed sound old mid
          c.args.kept false c.requires.fresh c.requires.waits c.in-Ok.ensures.keeps (C.whole_bare old mid
          c.args.kept c.requires.ok c.requires.fresh c.in-Ok.ensures.bare) c.requires.running
          c.requires.working right calm c.settle.new.self lead.0 led),
      rw told (C.took image world began formed sound old mid c.args.kept false c.requires.fresh
          c.requires.waits c.in-Ok.ensures.keeps (C.whole_bare old mid c.args.kept c.requires.ok
          c.requires.fresh c.in-Ok.ensures.bare) c.requires.running c.requires.working right calm
          c.settle.new.self lead.0 led refl c.settle.result c.settle.ensures.settled),
    )

pub returns-in-Err-clause-leads : goal.returns-in-Err-clause-leads
returns-in-Err-clause-leads g c = λ world began formed sound right calm idle.
    let image = image_of c.args.program.now in
    let old = c.args.self.now in
    let new = c.keep.new.self in
    let told = ap tokens_of (c.make_room.ensures.items ∙ c.requires.told) in (
      C.unchanged image world began old new c.in-Err.ensures.unchanged
          (λ w i. ap (λ (b : _). is_in b w i) c.in-Err.ensures.bare) calm,
      subst (RightTokens image world) (sym told) (λ w i p v e. absurd e),
      inl (
        (c.requires.running, c.requires.working),
        inl c.requires.fresh,
        C.same_as image world began old new
            c.in-Err.ensures.unchanged (λ w i. ap (λ (b : _). is_in b w i) c.in-Err.ensures.bare),
      ),
    )
