use Rattle.part_store.proofs.Told.Quieting as Q
use Rattle.part_store.proofs.laws.no_bare_submits_as_a_store_buffer.Goals as goal

pub returns : goal.returns
returns c image world began formed sound old new r ask none before after own_old own answer submitted = (
  Q.bare_after image world formed sound began old new r ask none before after own own_old answer submitted,
  Q.submit_so image world formed sound began old new r ask none before after own own_old answer submitted,
)
