use Rattle.std.proofs.Common.{OnOk, sym, subst}
use Rattle.df_core.specs.Core.{Match, Issue}
use Rattle.df_core.specs.declared.engine.Event.{Event}
use Rattle.df_core.specs.Cores.{Makes, event_of}
use Rattle.df_core.proofs.Parts.Stepping.{runs_on}
use Rattle.df_core.proofs.Sizes.Steady.{room_after, prepared_after}
use Rattle.df_core.proofs.engine.Core.step.Goals as goal

pub returns-in-Match-clause-made : goal.returns-in-Match-clause-made
returns-in-Match-clause-made c =
    subst (λ (e : Event). OnOk c.make_match.result (Makes (event_of e) c.args.self.now c.make_match.new.self))
    (sym c.in-Match.is) c.make_match.ensures.made

pub returns-in-Issue-clause-made : goal.returns-in-Issue-clause-made
returns-in-Issue-clause-made c =
    subst (λ (e : Event). OnOk c.make_issue.result (Makes (event_of e) c.args.self.now c.make_issue.new.self))
    (sym c.in-Issue.is) c.make_issue.ensures.made

pub returns-in-Match-clause-core : goal.returns-in-Match-clause-core
returns-in-Match-clause-core c = runs_on (Match c.in-Match.wave c.in-Match.instr c.in-Match.port)
    c.args.self.now c.make_match.new.self c.make_match.result c.requires c.make_match.ensures.made
    c.make_match.ensures.kept

pub returns-in-Issue-clause-core : goal.returns-in-Issue-clause-core
returns-in-Issue-clause-core c = runs_on (Issue c.in-Issue.wave c.in-Issue.instr) c.args.self.now
    c.make_issue.new.self c.make_issue.result c.requires c.make_issue.ensures.made c.make_issue.ensures.kept

pub returns-in-Match-clause-room : goal.returns-in-Match-clause-room
returns-in-Match-clause-room c = room_after c.args.self.now c.make_match.new.self c.make_match.ensures.room
    c.make_match.ensures.count

pub returns-in-Match-clause-prepared : goal.returns-in-Match-clause-prepared
returns-in-Match-clause-prepared c = prepared_after c.args.self.now c.make_match.new.self
    c.make_match.ensures.room

pub returns-in-Issue-clause-room : goal.returns-in-Issue-clause-room
returns-in-Issue-clause-room c = room_after c.args.self.now c.make_issue.new.self c.make_issue.ensures.room
    c.make_issue.ensures.count

pub returns-in-Issue-clause-prepared : goal.returns-in-Issue-clause-prepared
returns-in-Issue-clause-prepared c = prepared_after c.args.self.now c.make_issue.new.self
    c.make_issue.ensures.room
