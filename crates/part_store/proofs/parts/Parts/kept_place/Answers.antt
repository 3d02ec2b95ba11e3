use Rattle.std.proofs.Common.{◌≡◌, ◌∙◌, Some, None, sym}
use Rattle.std.proofs.lemmas.Bool.{both_ways}
use Rattle.part_store.specs.Parts.{kept_flag}
use Rattle.part_store.proofs.Moving.Answering as A
use Rattle.part_store.proofs.parts.Parts.kept_place.Goals as goal

pub returns-else-is_kept_at-clause-none : goal.returns-else-is_kept_at-clause-none
returns-else-is_kept_at-clause-none g c = λ k e.
    let o = c.args.self.now.order in
    let s = A.stands_at o c.args.wave c.args.instr k e in
    let q : Some c.in-Some.place ≡ Some s.place = sym c.in-Some.is ∙ c.place.ensures ∙ s.found in
    let r : c.in-Some.place ≡ s.place = cc in
    both_ways (kept_flag o s.place c.args.wave c.args.instr) (rw (← r) (sym (c.if-is_kept_at.ensures.flag (rw
    r s.inside)))) (A.kept_flag_is o s.place c.args.wave c.args.instr k s.is s.wave s.instr)

pub returns-in-None-clause-none : goal.returns-in-None-clause-none
returns-in-None-clause-none g c = λ k e.
    let o = c.args.self.now.order in
    let s = A.stands_at o c.args.wave c.args.instr k e in
    let q : None ≡ Some s.place = sym c.in-None.is ∙ c.place.ensures ∙ s.found in cc
