use Rattle.std.proofs.Common.{◌∙◌, subst}
use Rattle.wsc_top.specs.Clocked.{TaskInRange}
use Rattle.wsc_top.proofs.Calling.Calls.{err_same, replay_begun}
use Rattle.wsc_top.proofs.Calling.Outcomes.{checked_yields, listed_yields, traced_yields, replayed_yields}
use Rattle.wsc_top.proofs.Calling.Outcomes.{gridded_yields}
use Rattle.wsc_top.proofs.yields.assembly_yielded.Goals as goal

pub returns-in-Check-clause-ok : goal.returns-in-Check-clause-ok
returns-in-Check-clause-ok c handed = checked_yields c.args.text.now c.args.image c.args.input handed
    c.args.task _ (cc) c.fixed-sound.ensures

pub returns-in_ok-listing-in-List-clause-ok : goal.returns-in_ok-listing-in-List-clause-ok
returns-in_ok-listing-in-List-clause-ok c handed = listed_yields c.args.text.now c.args.image c.args.input
    handed c.args.task _ (cc) (c.built.ensures ∙ c.in_ok-listing-in-List.ensures)

pub returns-in-Ok-clause-ok : goal.returns-in-Ok-clause-ok
returns-in-Ok-clause-ok c handed = traced_yields c.args.text.now c.args.image c.args.input handed c.args.task
    c.in-Trace.budget _ _ _ (cc) c.built-in-Ok.ensures c.in-Ok.ensures.told c.in-Ok.ensures.ends

pub returns-in_ok-status-in-Replay-clause-ok : goal.returns-in_ok-status-in-Replay-clause-ok
returns-in_ok-status-in-Replay-clause-ok c handed =
    replayed_yields c.args.text.now c.args.image c.args.input handed c.args.task _ _ _ _ (cc)
    c.built-in-Replay.ensures c.in_ok-status-in-Replay.ensures.told c.in_ok-status-in-Replay.ensures.ends

pub clocked-requires : goal.clocked-requires
clocked-requires c = subst TaskInRange c.in-Grid.is c.requires.task

pub returns-in-Ok-clocked-clause-ok : goal.returns-in-Ok-clocked-clause-ok
returns-in-Ok-clocked-clause-ok c handed =
    gridded_yields c.args.text.now c.args.image c.args.input handed c.args.task c.in-Grid.options _ _ _ (cc)
    c.built-in-Ok-clocked.ensures c.in-Ok-clocked.ensures.told c.in-Ok-clocked.ensures.ends

pub returns-in_err-status-in-Replay-clause-begun : goal.returns-in_err-status-in-Replay-clause-begun
returns-in_err-status-in-Replay-clause-begun c =
    err_same _ _ c.in_err-status-in-Replay.field-0.0 c.from_residual-in_err-status-in-Replay.ensures.1
    (replay_begun c.args.task c.args.text.now c.args.image _ (cc) c.in_err-status-in-Replay.ensures.begun)
