use Rattle.std.proofs.Common.{[], ◌-◌}
use Rattle.df_core.specs.Core.{Issue}
use Rattle.df_core.specs.Places.{image_of}
use Rattle.df_core.specs.Flows.{asked_at}
use Rattle.df_core.proofs.Parts.Driving.{alone, follows_none, leads_on}
use Rattle.df_core.proofs.Sizes.Steady.{same_parts}
use Rattle.df_core.proofs.drive.issue_last.Goals as goal

pub returns-then-may_issue-clause-follows : goal.returns-then-may_issue-clause-follows
returns-then-may_issue-clause-follows c =
    let flow = c.args.flow.now in
    leads_on (image_of c.args.program.now) (Issue (asked_at flow (c.len-place.result - 1)).wave
    (asked_at flow (c.len-place.result - 1)).instr) flow flow c.issue.new.self (same_parts flow)
    c.issue.ensures.leads

pub returns-else-len-lt-MOST_EARLY-clause-follows : goal.returns-else-len-lt-MOST_EARLY-clause-follows
returns-else-len-lt-MOST_EARLY-clause-follows c = follows_none (image_of c.args.program.now) c.args.flow.now

pub issue-requires-clause-going : goal.issue-requires-clause-going
issue-requires-clause-going c = alone (image_of c.args.program.now) [] _ (c.requires.going)
