use Rattle.std.proofs.Common.{length, ◌-◌, ◌≡◌, ◌≤◌, take}
use Rattle.ws_io.specs.Streams.{Adds}
use Rattle.ws_io.proofs.write.write_all.Given as goal

-- a front of the text is written, and nothing is flushed
abbrev pub invariant-pieces : goal.invariant-pieces
invariant-pieces g l = record {
  within : l.done ≤ length l.text;
  added : Adds (g.K.Sink.held l.fn.sink) (take l.done l.text) (g.K.Sink.held l.sink);
  unflushed : g.K.Sink.flushed l.sink ≡ g.K.Sink.flushed l.fn.sink;
  counted : g.K.Sink.faults l.fn.sink ≤ g.K.Sink.faults l.sink;
}

abbrev pub decreases-pieces : goal.decreases-pieces
decreases-pieces g l = length l.text - l.done
