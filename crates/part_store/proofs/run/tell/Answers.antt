use Rattle.part_store.proofs.Running.Bringing.{addressed}
use Rattle.part_store.proofs.run.tell.Goals as goal
use Rattle.ws_words.proofs.Results.{on_ok}

pub returns : goal.returns
returns g c = record {
  paid = on_ok c.offer.result (λ offered t. addressed _ _ _ _ _ _ _ c.address_into-answer.ensures offered _)
      c.offer.ensures;
}
