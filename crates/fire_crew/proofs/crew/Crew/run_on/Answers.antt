use Rattle.std.proofs.Common.{arith}
use Rattle.match_table.specs.Together.{part_of}
use Rattle.fire_crew.proofs.crew.Crew.run_on.Goals as goal

pub returns-clause-few : goal.returns-clause-few
returns-clause-few g c = λ cost most. (let m = c.run_phases-ended.ensures.moved in
    let few = c.few_tokens.ensures (part_of c.args.tables).held m.0 cost m.2 most in
    let le = m.1 in omega (arith, few, le))
