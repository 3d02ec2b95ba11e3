use Rattle.std.proofs.Common.{arith}
use Rattle.df_core.proofs.Parts.Found.{none_at}
use Rattle.df_core.proofs.way.find_token.Goals as goal

pub returns : goal.returns
returns c = none_at c.args.tokens.now c.args.wave c.args.instr c.args.port
    (λ k l e. c.loop-place.invariant.behind k (omega (arith, c.loop-place-test.false)) l e)
