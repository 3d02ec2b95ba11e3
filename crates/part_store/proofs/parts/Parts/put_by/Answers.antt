use Rattle.std.proofs.Common.{ℕ, ◌≡◌, false, ap, refl, inl}
use Rattle.part_store.specs.Bares.{is_in}
use Rattle.df_core.specs.Places.{image_of}
use Rattle.part_store.proofs.Running.Coming as C
use Rattle.part_store.proofs.parts.Parts.put_by.Goals as goal

pub returns-in-Ok-clause-leads : goal.returns-in-Ok-clause-leads
returns-in-Ok-clause-leads g c = λ world began formed sound right calm idle.
    let image = image_of c.args.program.now in
    let old = c.args.self.now in
    let mid = c.keep.new.self in
    let bare = C.whole_bare old mid c.args.kept c.requires.ok c.requires.fresh c.keep.ensures.bare in (
      C.put_calm _ _ _ formed sound _ _ _ _ c.requires.fresh c.requires.waits c.in-Ok.ensures.keeps bare
          c.requires.running c.requires.working right calm c.requires.fed c.requires.held idle,
      (λ w i p v e. absurd e),
      C.put_request image world began formed sound old mid c.args.kept false c.requires.fresh c.requires.waits
          c.in-Ok.ensures.keeps bare c.requires.running c.requires.working right calm c.requires.fed
          c.requires.held idle refl,
    )

pub returns-in-Err-clause-leads : goal.returns-in-Err-clause-leads
returns-in-Err-clause-leads g c = λ world began formed sound right calm idle.
    let image = image_of c.args.program.now in
    let old = c.args.self.now in
    let new = c.keep.new.self in
    let bare : (w i : ℕ) → is_in new.bare w i ≡ is_in old.bare w i =
    λ w i. ap (λ (b : _). is_in b w i) c.keep.ensures.bare in (
      C.unchanged image world began old new c.in-Err.ensures.unchanged bare calm,
      (λ w i p v e. absurd e),
      inl (
        (c.requires.running, c.requires.working),
        inl c.requires.fresh,
        C.same_as image world began old new c.in-Err.ensures.unchanged bare,
      ),
    )
