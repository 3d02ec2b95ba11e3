use Rattle.std.proofs.Common.{◌-◌, arith}
use Rattle.df_core.proofs.Parts.Found.{now_sent, later_sent}
use Rattle.df_core.proofs.way.Way.some.Goals as goal

pub returns-then-count-gt0 : goal.returns-then-count-gt0
returns-then-count-gt0 c = now_sent c.args.self.now (c.len-count.result - 1) c.index.result.now
    (omega (arith, c.if-count-gt0.true, c.len-count.ensures, c.args.self.now.now.ok.0)) c.index.ensures

pub returns-then-others-gt0 : goal.returns-then-others-gt0
returns-then-others-gt0 c = later_sent c.args.self.now (c.len-others.result - 1)
    c.index-then-others-gt0.result.now (omega (
      arith,
      c.if-others-gt0.true,
      c.len-others.ensures,
      c.args.self.now.later.ok.0,
    )) c.index-then-others-gt0.ensures
