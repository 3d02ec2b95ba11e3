use Rattle.std.proofs.Common.{List, ◌++◌, ◌∙◌, refl, ap, sym, subst, inl}
use Rattle.ws_isa.specs.Image.{Token}
use Rattle.df_core.specs.Places.{image_of}
use Rattle.df_core.specs.Rights.{tokens_of}
use Rattle.store_buf.specs.Contents.{RightTokens}
use Rattle.part_store.proofs.Running.Coming as C
use Rattle.part_store.proofs.parts.Parts.take_address.Goals as goal

pub returns-in-Ok-clause-leads : goal.returns-in-Ok-clause-leads
returns-in-Ok-clause-leads g c = λ world began formed sound right calm idle.
    let image = image_of c.args.program.now in
    let old = c.args.self.now in
    let mid = c.keep_bare.new.self in
    let lead = c.settle.ensures.lead in
    let told = lead.1 ∙ ap (λ (xs : List Token). xs ++ lead.0)
    (ap tokens_of (c.make_room.ensures.items ∙ c.requires.told)) in
    let now = C.calm_now _ _ _ formed sound _ _ _ _ c.requires.fresh c.requires.waits c.in-Ok.ensures.keeps
    c.in-Ok.ensures.bare c.requires.running c.requires.working right calm in
    let led = lead.2 world began formed sound now in (
      led.1,
      rw told (C.right_now _ _ _ formed sound _ _ _ _ c.requires.fresh c.requires.waits c.in-Ok.ensures.keeps
          c.in-Ok.ensures.bare c.requires.running c.requires.working right calm _ _ led),
      rw told (C.said _ _ _ formed sound _ _ _ _ c.requires.fresh c.requires.waits c.in-Ok.ensures.keeps
          c.in-Ok.ensures.bare c.requires.running c.requires.working right calm _ _ led refl _
          c.settle.ensures.settled),
    )

pub returns-in-Err-clause-leads : goal.returns-in-Err-clause-leads
returns-in-Err-clause-leads g c = λ world began formed sound right calm idle.
    let image = image_of c.args.program.now in
    let old = c.args.self.now in
    let new = c.keep_bare.new.self in
    let told = ap tokens_of (c.make_room.ensures.items ∙ c.requires.told) in (
      C.unchanged image world began old new c.in-Err.ensures.unchanged c.in-Err.ensures.still calm,
      subst (RightTokens image world) (sym told) (λ w i p v e. absurd e),
      inl (
        (c.requires.running, c.requires.working),
        c.requires.fresh,
        C.same_as image world began old new c.in-Err.ensures.unchanged c.in-Err.ensures.still,
      ),
    )
