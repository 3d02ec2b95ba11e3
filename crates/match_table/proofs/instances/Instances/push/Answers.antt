use Rattle.std.proofs.Common.{arith}
use Rattle.match_table.proofs.Spots.{other_listed, spot_listed}
use Rattle.match_table.proofs.instances.Instances.push.Goals as goal

pub returns-then-not-is_empty-clause-listed : goal.returns-then-not-is_empty-clause-listed
returns-then-not-is_empty-clause-listed c = λ slots named placed. other_listed _ _ _ _ _ _ _ _ c.self.view_is
    c.push_reserved.ensures.items placed

pub returns-in-Some-clause-listed : goal.returns-in-Some-clause-listed
returns-in-Some-clause-listed c = λ slots named placed. spot_listed _ _ _ _ _ _ _ _ _ c.self.view_is (grind
    (arith, c.is_empty.ensures, c.if-not-is_empty.false)) c.push_reserved-in-Some.ensures.items
    (c.in-Some.ensures slots named) placed

pub returns-in-None-clause-listed : goal.returns-in-None-clause-listed
returns-in-None-clause-listed c = λ slots named placed. other_listed _ _ _ _ _ _ _ _ c.self.view_is
    c.push_reserved-in-None.ensures.items placed
