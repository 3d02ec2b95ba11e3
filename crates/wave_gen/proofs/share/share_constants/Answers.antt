use Rattle.std.proofs.Common.{◌∙◌, ◌+◌, arith}
use Rattle.std.proofs.lemmas.List.{length-set}
use Rattle.wave_gen.specs.Placed.{known_name}
use Rattle.wave_gen.proofs.Tables.Sharers.{share_next}
use Rattle.wave_gen.proofs.share.share_constants.Goals as goal

pub loop-i-preserved : goal.loop-i-preserved
loop-i-preserved c = record {
  count = length-set c.loop-i.list.items c.loop-i.i c.share.new.item ∙ c.loop-i.invariant.count;
  items = share_next c.loop-i.list.items c.loop-i.i (c.loop-i.i + 1) c.index_mut.result.now c.share.new.item
      (known_name c.loop-i.known) (known_name c.share.new.self) (omega arith) (omega arith)
      c.index_mut.ensures.value c.in_ok-share.ensures.item c.in_ok-share.ensures.known
      ∙ c.loop-i.invariant.items;
}
