use Rattle.std.proofs.Common.{map, ap}
use Rattle.cfg_core.specs.Tables.{graph_in}
use Rattle.cfg_core.specs.View as view
use Rattle.call_gen.proofs.Parted.Marking.{marks_arms, marks_call}
use Rattle.call_gen.proofs.find.Finder.leave.Goals as goal
use Rattle.ws_words.proofs.Results.{on_ok}

pub returns-in_ok-mark-in-Branch : goal.returns-in_ok-mark-in-Branch
returns-in_ok-mark-in-Branch c = rw (ap view.exit c.in-Branch.is) (on_ok c.mark-in-Branch-2.result (marks_arms
    (view.graph (graph_in c.args.table.now)) (view.term c.in-Branch.field-0) c.in-Branch.c c.in-Branch.d
    c.args.self.now.flags.items c.mark-in-Branch.new.self.flags.items c.mark-in-Branch-2.new.self.flags.items
    c.args.self.now.waits.items c.mark-in-Branch.new.self.waits.items c.mark-in-Branch-2.new.self.waits.items
    c.in_ok-mark-in-Branch.ensures) c.mark-in-Branch-2.ensures)

pub returns-in_ok-mark-in-Call : goal.returns-in_ok-mark-in-Call
returns-in_ok-mark-in-Call c = rw (ap view.exit c.in-Call.is) (on_ok c.mark-in-Call-2.result (marks_call
    (view.graph (graph_in c.args.table.now)) c.in-Call.result c.in-Call.callee (map view.term
    c.in-Call.values.items) c.in-Call.back c.room.result.entry c.args.self.now.flags.items
    c.mark-in-Call.new.self.flags.items c.mark-in-Call-2.new.self.flags.items c.args.self.now.waits.items
    c.mark-in-Call.new.self.waits.items c.mark-in-Call-2.new.self.waits.items c.room.ensures.entry
    c.in_ok-mark-in-Call.ensures) c.mark-in-Call-2.ensures)
