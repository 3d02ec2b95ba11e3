use Rattle.std.proofs.Common.{refl, inl}
use Rattle.df_core.specs.Places.{image_of}
use Rattle.part_store.proofs.Running.Coming as C
use Rattle.part_store.proofs.parts.Parts.put_by_address.Goals as goal

pub returns-in-Ok-clause-leads : goal.returns-in-Ok-clause-leads
returns-in-Ok-clause-leads g c = λ world began formed sound right calm idle.
    let image = image_of c.args.program.now in
    let old = c.args.self.now in
    let mid = c.keep_bare.new.self in
    let bare = c.in-Ok.ensures.bare in (
      C.put_calm _ _ _ formed sound _ _ _ _ c.requires.fresh c.requires.waits c.in-Ok.ensures.keeps bare
          c.requires.running c.requires.working right calm c.requires.fed c.requires.held idle,
      (λ w i p v e. absurd e),
      C.put_address _ _ _ formed sound _ _ _ _ c.requires.fresh c.requires.waits c.in-Ok.ensures.keeps bare
          c.requires.running c.requires.working right calm c.requires.fed c.requires.held idle refl,
    )

pub returns-in-Err-clause-leads : goal.returns-in-Err-clause-leads
returns-in-Err-clause-leads g c = λ world began formed sound right calm idle.
    let image = image_of c.args.program.now in
    let old = c.args.self.now in
    let new = c.keep_bare.new.self in (
      C.unchanged image world began old new c.in-Err.ensures.unchanged c.in-Err.ensures.still calm,
      (λ w i p v e. absurd e),
      inl (
        (c.requires.running, c.requires.working),
        c.requires.fresh,
        C.same_as image world began old new c.in-Err.ensures.unchanged c.in-Err.ensures.still,
      ),
    )
