use Rattle.df_core.proofs.engine.Core.take_printed.Goals as goal

pub returns-clause-same : goal.returns-clause-same
returns-clause-same c = λ image world s at. record {
  image_is = at.image_is;
  formed = at.formed;
  sound = at.sound;
  holds = record {
    stands = at.holds.stands;
    chain_is = at.holds.chain_is;
    stopped_is = at.holds.stopped_is;
    fault_is = at.holds.fault_is;
    memory_is = c.take_printed.ensures.same s.memory at.holds.memory_is;
    count_is = at.holds.count_is;
  };
}
