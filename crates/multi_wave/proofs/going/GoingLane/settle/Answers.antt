use Rattle.std.proofs.Common.{length, refl, subst, sym, rules}
use Rattle.match_table.specs.Together.{part_of}
use Rattle.multi_wave.specs.Stands.{IsJudged, Stand}
use Rattle.multi_wave.proofs.Turns.{some_may_fire}
use Rattle.multi_wave.proofs.going.GoingLane.settle.Goals as goal

pub returns-in-Go-clause-settled : goal.returns-in-Go-clause-settled
returns-in-Go-clause-settled g c =
    subst (λ (s : Stand). IsJudged g.J.Job.image g.J.Job.world s) (sym c.on.ensures) (record {
      serve = search rules;
      room = some_may_fire c.fired.result (length (part_of c.self.inside.tables).fired) c.self.inside.budget
          c.fired.ensures c.in-Go.ensures.0;
      token = c.in-Go.token;
      named = refl;
      missing = c.in-Go.ensures.1;
      few = c.few_tokens.ensures;
    })
