use Rattle.std.proofs.Common.{◌≡◌, ◌∙◌, List, slice_index_or, ap, refl, false, true, arith, sym, Result, Ok}
use Rattle.std.proofs.Common.{Err, IsOk}
use Rattle.std.specs.Result.{is_err}
use Rattle.std.proofs.lemmas.Bool.{both_ways}
use Rattle.df_core.specs.declared.plain.Asked.{Asked}
use Rattle.df_core.specs.Flows.{asked_at, no_asked, FlowRoom}
use Rattle.df_core.proofs.Sizes.Steady.{room_less, room_still}
use Rattle.df_core.proofs.Parts.Stepping.{kept_same, not_ready, going_prepared, makes_issue}
use Rattle.df_core.proofs.engine.Core.make_issue.Goals as goal

pub returns-in-None-clause-refused : goal.returns-in-None-clause-refused
returns-in-None-clause-refused c = λ e. not_ready c.args.self.now c.args.wave c.args.instr c.in-None.ensures

pub issue-requires-clause-going : goal.issue-requires-clause-going
issue-requires-clause-going c = going_prepared c.args.self.now c.prepare.new.self c.prepare.ensures.same
    c.requires

pub returns-else-is_err-clause-made : goal.returns-else-is_err-clause-made
returns-else-is_err-clause-made c =
    let at = λ (xs : List Asked). slice_index_or xs c.in-Some.place no_asked in
    let e : asked_at c.prepare.new.self c.in-Some.place ≡ asked_at c.args.self.now.flow c.in-Some.place =
    ap at c.prepare.ensures.same.asked in
    makes_issue c.args.self.now c.prepare.new.self c.prepare.ensures.same _
    (asked_at c.prepare.new.self c.in-Some.place) c.args.wave c.args.instr refl
    (ap (λ (a : Asked). a.wave) e ∙ c.in-Some.ensures.3) (ap (λ (a : Asked). a.instr) e ∙ c.in-Some.ensures.4)
    c.issue.ensures.leads

not_both : {A E : Type 0} (r : Result A E) → IsOk r → is_err r ≡ true → ⊥
not_both (Ok a) o e = both_ways false refl e
not_both (Err x) o e = both_ways false refl o

pub returns-then-is_err-clause-memory : goal.returns-then-is_err-clause-memory
returns-then-is_err-clause-memory c = λ room.
    let less : FlowRoom c.args.self.now.flow 0 0 = room_less c.args.self.now.flow 1 0 (omega arith) room.0 in
    let ok : IsOk c.prepare.result = c.prepare.ensures.succeeds (omega arith) less in
    absurd (not_both c.prepare.result ok (sym c.is_err.ensures.value ∙ c.if-is_err.true))

pub returns-then-is_err-clause-kept : goal.returns-then-is_err-clause-kept
returns-then-is_err-clause-kept c = kept_same c.args.self.now c.prepare.new.self c.prepare.ensures.same

pub returns-in-None-clause-room : goal.returns-in-None-clause-room
returns-in-None-clause-room c = room_still c.args.self.now.flow c.args.self.now.flow refl (λ n r. r)

pub returns-then-is_err-clause-room : goal.returns-then-is_err-clause-room
returns-then-is_err-clause-room c = room_still c.args.self.now.flow c.prepare.new.self
    c.prepare.ensures.same.fired c.prepare.ensures.kept

pub returns-else-is_err-clause-room : goal.returns-else-is_err-clause-room
returns-else-is_err-clause-room c = room_still c.args.self.now.flow c.issue.new.self
    (c.issue.ensures.count ∙ c.prepare.ensures.same.fired)
    (λ n r. c.issue.ensures.room n (c.prepare.ensures.kept n r))
