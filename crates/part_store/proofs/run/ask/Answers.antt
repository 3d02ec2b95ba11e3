use Rattle.part_store.proofs.Running.Bringing.{submitted, submitted_whole}
use Rattle.part_store.proofs.run.ask.Goals as goal
use Rattle.ws_words.proofs.Results.{on_ok}

pub returns-clause-paid : goal.returns-clause-paid
returns-clause-paid g c = on_ok c.offer.result (λ offered t. submitted _ _ _ _ c.facts.ensures.parted.0 _ _ _
    _ _ c.submit_into-answer.ensures offered _) c.offer.ensures

pub returns-clause-asked : goal.returns-clause-asked
returns-clause-asked g c = on_ok _ (submitted_whole _ _ _ _ c.facts.ensures.parted.0 _ _ _ _ _
    c.submit_into-answer.ensures) c.offer.ensures
