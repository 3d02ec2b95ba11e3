use Rattle.std.proofs.Common.{ap}
use Rattle.cfg_core.specs.Graph.{no_proc, proc_at, entry_of, GraphProc}
use Rattle.cfg_core.specs.View as view
use Rattle.cfg_core.proofs.Tables.{room_in, entry_past}
use Rattle.cfg_core.proofs.table.GraphTable.room.Goals as goal

pub returns-in-Some : goal.returns-in-Some
unfolding proc_at entry_of
returns-in-Some c =
    let l = c.in-Some.ensures.lookup in
    let r = room_in 0 (view.graph c.args.self.now.graph.now).procs c.args.self.now.rooms.items c.args.f
    c.in-Some.room.now c.args.self.now.rooms_listed (rw c.deref.ensures.value at (l.3).0)
    (rw c.deref.ensures.value at l.1) in
    record { entry = r.entry; params = r.params; vars = r.vars }

pub returns-in-None : goal.returns-in-None
unfolding proc_at entry_of no_proc
returns-in-None c =
    let r = entry_past 0 (view.graph c.args.self.now.graph.now).procs c.args.self.now.rooms.items c.args.f
    c.args.self.now.rooms_listed (rw c.deref.ensures.value at c.in-None.ensures.lookup.3) in
    record {
      entry = r.0;
      params = ap (λ (p : GraphProc). p.params) r.1;
      vars = ap (λ (p : GraphProc). p.vars) r.1;
    }
