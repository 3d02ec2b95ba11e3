use Rattle.std.proofs.Common.{subst}
use Rattle.std.specs.Prelude.{map, string_bytes}
use Rattle.asm_read.specs.Reads.{reading}
use Rattle.opt_top.specs.Calls as optimized
use Rattle.run_text.specs.Writes.{writing}
use Rattle.one_result.proofs.calls.optimize_call.Goals as goal

pub returns : goal.returns
returns g c text out given before after done =
    let reads = reading g.S.Source.left g.S.Source.faults c.args.source.now c.wso.new.source in
    let writes = writing g.K.Sink.held g.K.Sink.flushed g.K.Sink.faults c.args.sink.now c.wso.new.sink in
    let words = map string_bytes c.args.words.now in
    record {
      reads = reads;
      writes = writes;
      words = words;
      ends = subst (λ s. optimized.CallEnds words reads.left reads.after reads.faults reads.counted
          writes.held writes.holds writes.flushed writes.covered writes.faults writes.counted s) done
          c.wso.ensures.ends;
      given = given;
      before = before;
      after = after;
    }
