use Rattle.std.proofs.Common.{◌≡◌, ◌*◌, IfSome}
use Rattle.smallvec.specs.SmallVec.{HasRoomFor}
use Rattle.df_core.specs.Places.{image_of}
use Rattle.df_core.specs.Rights.{tokens_of}
use Rattle.store_buf.specs.Ordering.{MayAt}
use Rattle.store_buf.specs.Outdoors.{FaultsGrow}
use Rattle.store_buf.specs.Stores.{StoreOk, AllLead, left_over}
use Rattle.store_buf.proofs.store.Store.issue_all.Given as goal

abbrev pub invariant-loop-next : goal.invariant-loop-next
invariant-loop-next g l = record {
  ok : StoreOk (image_of l.program) l.self;
  lead : AllLead (image_of l.program) l.initial.self l.self (tokens_of l.initial.told.items)
      (tokens_of l.told.items);
  grow : FaultsGrow l.initial.self.outer.ports l.self.outer.ports;
  failed : l.self.failed ≡ l.initial.self.failed;
  starved : l.self.starved ≡ l.initial.self.starved;
  room : HasRoomFor l.told (8 * l.self.order.waiting);
  next : IfSome l.next (MayAt (image_of l.program) l.self.order);
  same_room : l.told.capacity ≡ l.initial.told.capacity;
}

abbrev pub decreases-loop-next : goal.decreases-loop-next
decreases-loop-next g l = left_over l.self
