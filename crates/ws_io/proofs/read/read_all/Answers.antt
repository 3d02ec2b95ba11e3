use Rattle.std.proofs.Common.{arith, ◌≤◌, ◌+◌, ◌++◌, take, length}
use Rattle.std.proofs.lemmas.Grind.{common_steps}
use Rattle.ws_io.proofs.Pieces.{Takes-more}
use Rattle.ws_io.proofs.read.read_all.Goals as goal

pub returns-in_err-extend-clause-memory : goal.returns-in_err-extend-clause-memory
returns-in_err-extend-clause-memory g c =
    let piece = take c.in_ok-count.count c.read.new.into in
    let few : length (c.pieces.text ++ piece) ≤ c.args.limit + 1 = grind (arith, common_steps) in
    λ _. (
      c.pieces.text ++ piece,
      few,
      Takes-more _ c.pieces.text _ piece _ c.pieces.invariant.taken
          c.in_ok-count.ensures.taken,
    )
