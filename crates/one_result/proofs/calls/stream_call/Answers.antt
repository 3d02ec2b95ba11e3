use Rattle.std.specs.Prelude.{refl}
use Rattle.asm_read.specs.Reads.{reading}
use Rattle.run_text.specs.Writes.{writing}
use Rattle.one_result.proofs.calls.stream_call.Goals as goal

pub returns : goal.returns
returns g c text out given before after = record {
  reads = reading g.S.Source.left g.S.Source.faults c.args.source.now c.wss.new.source;
  writes = writing g.K.Sink.held g.K.Sink.flushed g.K.Sink.faults c.args.sink.now c.wss.new.sink;
  own = c.wss.result;
  ends = c.wss.ensures.ends;
  means = refl;
  given = given;
  before = before;
  after = after;
}
