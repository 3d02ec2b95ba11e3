use Rattle.part_store.proofs.Told.Wholly as W
use Rattle.part_store.proofs.laws.no_bare_is_a_store_buffer.Goals as goal

pub returns : goal.returns
returns c image world began formed sound x none own = (
  (λ parted. (
    W.empty x none parted.1,
    (
      parted.0.memory,
      W.buffer_so _ _ formed sound _ _ _ _ (W.on_now image world formed sound began x none parted) own
          parted.0.fault,
    ),
  )),
  (λ h. W.parted_so image world formed sound began x none h.0 h.1.0 h.1.1),
)
