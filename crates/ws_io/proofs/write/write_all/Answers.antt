use Rattle.std.proofs.Common.{rules, arith}
use Rattle.std.proofs.lemmas.Grind.{common_steps}
use Rattle.std.proofs.lemmas.List.{take_rest}
use Rattle.ws_io.proofs.Pieces.{Adds-front}
use Rattle.ws_io.proofs.write.write_all.Goals as goal

pub pieces-preserved : goal.pieces-preserved
pieces-preserved g c = record {
  within = grind (arith, common_steps);
  added = Adds-front _ _ _ c.args.text.now c.pieces.done c.in_ok-done.field-0 c.pieces.invariant.added
      (rw take_rest at c.in_ok-done.ensures.added);
  unflushed = search rules;
  counted = search rules;
}
