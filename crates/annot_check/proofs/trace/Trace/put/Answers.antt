use Rattle.std.proofs.Common.{refl, arith}
use Rattle.std.proofs.lemmas.List.{get_or-set_same}
use Rattle.std.proofs.Common.{Some, None}
use Rattle.annot_check.proofs.Slotted.Held.{shut_look}
use Rattle.annot_check.proofs.Slotted.Entries.{enter_grows, ready_entered}
use Rattle.annot_check.proofs.trace.Trace.put.Goals as goal

pub returns-clause-ready : goal.returns-clause-ready
returns-clause-ready c = ready_entered c.args.self.now _ c.args.number (record {
  from = c.args.from;
  set = c.args.self.now.held.set;
}) c.requires.ready refl refl refl refl (omega (arith, c.requires.ready.table_size, c.requires.block.1))
    c.requires.reached

pub returns-clause-grows : goal.returns-clause-grows
returns-clause-grows c = record {
  image = refl;
  starts = refl;
  depth = refl;
  board = refl;
  nodes = record { ok = c.requires.ready.held.nodes; more = omega arith; same = λ set l. refl };
  table = enter_grows c.args.self.now.table.items c.args.number (record {
    from = c.args.from;
    set = c.args.self.now.held.set;
  }) c.args.self.now.todo.items c.push.new.self.items (omega (
    arith,
    c.requires.ready.table_size,
    c.requires.block.1,
  )) c.requires.is_new c.in_ok-push.ensures.items;
}

pub returns-clause-lands : goal.returns-clause-lands
returns-clause-lands c = record {
  entry = record { from = c.args.from; set = c.args.self.now.held.set };
  has = get_or-set_same c.args.self.now.table.items c.args.number (Some (record {
    from = c.args.from;
    set = c.args.self.now.held.set;
  })) None (omega (arith, c.requires.ready.table_size, c.requires.block.1));
  slots = shut_look c.args.self.now.held c.requires.ready.held c.requires.shut;
}
