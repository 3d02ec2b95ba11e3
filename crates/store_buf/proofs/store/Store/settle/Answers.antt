use Rattle.std.proofs.Common.{Some, false, true, ap, inl, inr}
use Rattle.std.proofs.lemmas.Bool.{both_ways}
use Rattle.df_core.specs.Core.{has}
use Rattle.df_core.specs.Places.{image_of}
use Rattle.df_core.specs.Rights.{tokens_of}
use Rattle.store_buf.proofs.Turns as T
use Rattle.store_buf.proofs.store.Store.settle.Goals as goal

pub returns-in-Some-clause-lead : goal.returns-in-Some-clause-lead
returns-in-Some-clause-lead g c = let old = c.args.self.now in let new = c.issue_all.new.self in
    T.in_mind (image_of c.args.program.now) (record old { starved = false }) new old.failed new.failed
    old.starved new.starved (tokens_of c.args.told.now.items) (tokens_of c.issue_all.new.told.items)
    c.issue_all.ensures.lead

pub returns-in-None-clause-lead : goal.returns-in-None-clause-lead
returns-in-None-clause-lead g c = let old = c.args.self.now in let new = c.issue_all.new.self in
    T.in_mind (image_of c.args.program.now) (record old { starved = false }) new old.failed new.failed
    old.starved new.starved (tokens_of c.args.told.now.items) (tokens_of c.issue_all.new.told.items)
    c.issue_all.ensures.lead

pub returns-in-Err-Failed-clause-lead : goal.returns-in-Err-Failed-clause-lead
returns-in-Err-Failed-clause-lead g c = let old = c.args.self.now in let new = c.issue_all.new.self in
    T.in_mind (image_of c.args.program.now) (record old { starved = false }) new old.failed
    (Some c.in-Err-Failed.port) old.starved new.starved (tokens_of c.args.told.now.items)
    (tokens_of c.issue_all.new.told.items) c.issue_all.ensures.lead

pub returns-in-Err-NoMemory-clause-lead : goal.returns-in-Err-NoMemory-clause-lead
returns-in-Err-NoMemory-clause-lead g c = let old = c.args.self.now in let new = c.issue_all.new.self in
    T.in_mind (image_of c.args.program.now) (record old { starved = false }) new old.failed new.failed
    old.starved true (tokens_of c.args.told.now.items) (tokens_of c.issue_all.new.told.items)
    c.issue_all.ensures.lead

pub returns-in-None-clause-settled : goal.returns-in-None-clause-settled
returns-in-None-clause-settled g c = (
  c.in-None.is,
  c.issue_all.ensures.failed,
  c.issue_all.ensures.starved,
  elim c.in-Ok.ensures.none [
    | inl e ↦ absurd (both_ways (has c.issue_all.new.self.fault) (ap has c.in-None.is) e)
    | inr n ↦ n
  ],
)
