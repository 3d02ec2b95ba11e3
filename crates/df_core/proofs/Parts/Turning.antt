-- Parts whose tokens on the way are in another order stand for the same.
use Rattle.std.proofs.Common.{arith, ◌≡◌, List, is_some}
use Rattle.ws_words.specs.Outside.{World}
use Rattle.ws_isa.specs.Image as plain
use Rattle.ws_isa.specs.Image.{Image}
use Rattle.df_core.specs.Core.{State, Event}
use Rattle.df_core.specs.declared.flow.Flow.{Flow}
use Rattle.df_core.specs.Ways.{way_of}
use Rattle.df_core.specs.Flows.{EventLeads, FlowIs}

module _ (old mid new : Flow) (way : way_of new.way ≡ way_of mid.way) (slots : new.slots ≡ mid.slots)
    (asked : new.asked ≡ mid.asked) (early : new.early ≡ mid.early) (chain : new.chain ≡ mid.chain)
    (stopped : new.fault ≡ mid.fault) (memory : new.memory ≡ mid.memory) (fired : new.fired ≡ mid.fired) where
  holds_turned : (image : Image) (world : World) (beside : List plain.Token) (s : State)
      → FlowIs image world beside mid s → FlowIs image world beside new s
  holds_turned image world beside s h = grind (arith, new.slots.slots.items, new.early.items, is_some)

  pub leads_turned : (image : Image) (event : Event) (taken : List plain.Token)
      → EventLeads image event taken old mid → EventLeads image event taken old new
  leads_turned image event taken leads beside world s formed sound h =
      let r = leads beside world s formed sound h in
      (r.0, r.1, holds_turned image world beside r.0 r.2)
