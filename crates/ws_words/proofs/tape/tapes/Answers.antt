use Rattle.std.proofs.Common.{◌+◌, arith}
use Rattle.ws_words.proofs.Held.{rows_more}
use Rattle.ws_words.proofs.tape.tapes.Goals as goal

pub loop-port-preserved : goal.loop-port-preserved
loop-port-preserved c =
    rows_more c.args.left.now c.loop-port.tapes.items c.push.new.self.items c.loop-port.port
    (c.loop-port.port + 1) c.tape_of.result (omega arith) (omega (arith, c.len-port-end.ensures))
    c.tape_of.ensures c.in_ok-push.ensures.items c.loop-port.invariant
