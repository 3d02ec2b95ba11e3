use Rattle.std.proofs.Common.{◌≡◌, take, drop, ◌+◌, arith}
use Rattle.std.proofs.lemmas.Grind.{common_steps}
use Rattle.ws_io.proofs.Pieces.{Takes-front}
use Rattle.ws_io.proofs.mem_source.MemSourceSource.read.Goals as goal

pub returns-clause-taken : goal.returns-clause-taken
returns-clause-taken c =
    let front : take c.copy_front-count.result c.copy_front-count.new.into ≡ take c.copy_front-count.result
    c.args.self.now.left = grind (arith, common_steps) in
    let rest : drop (c.self.inside.given + c.copy_front-count.result) c.self.inside.bytes
    ≡ drop c.copy_front-count.result c.args.self.now.left = grind (arith, common_steps) in
    Takes-front c.args.self.now.left c.copy_front-count.result _ _ front rest
