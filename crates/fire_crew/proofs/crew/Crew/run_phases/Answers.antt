use Rattle.std.proofs.Common.{◌-◌, ◌+◌, ◌≤◌, ℕ, Option, cond, length, subst, sym, arith}
use Rattle.match_table.specs.Rows.{contents}
use Rattle.match_table.specs.Together.{part_of}
use Rattle.match_table.proofs.Growth.{all_grow_on, all_grow_same}
use Rattle.fire_crew.specs.Ends.{IsGoing}
use Rattle.fire_crew.specs.Solo.{GoesOn, Paid}
use Rattle.fire_crew.specs.declared.judge.Ending.{Ending}
use Rattle.fire_crew.proofs.Phases.{Steady, counted_most, steady_end, steady_left, steady_next, steady_on}
use Rattle.fire_crew.proofs.Phases.{steady_start}
use Rattle.fire_crew.proofs.crew.Crew.run_phases.Goals as goal

pub returns-in-Err-clause-ended : goal.returns-in-Err-clause-ended
returns-in-Err-clause-ended g c =
    c.in-Err.ensures.ends (c.args.self.now.budget - length (part_of c.args.tables).fired)

pub returns-in-Err-clause-grow : goal.returns-in-Err-clause-grow
returns-in-Err-clause-grow g c = all_grow_same (contents c.args.tables)

pub loop-round-init : goal.loop-round-init
loop-round-init g c = (
  steady_start (contents c.args.tables) c.args.self.now.budget c.requires.serve c.requires.within,
  omega arith,
  c.in-Ok.ensures.going,
  c.in-Ok.ensures.paid,
)

pub returns-in-Some-clause-grow : goal.returns-in-Some-clause-grow
returns-in-Some-clause-grow g c = grind (arith, all_grow_on)

pub returns-in-Some-clause-moved : goal.returns-in-Some-clause-moved
returns-in-Some-clause-moved g c =
    let shared = contents c.share-left.result.left.tables in
    rw c.counted-phases.ensures (steady_end _ _ _ _ _ _ c.loop-round.invariant.0 c.share-left.ensures.grow
    c.share-left.ensures.some)

pub returns-in-Some-ending-clause-grow : goal.returns-in-Some-ending-clause-grow
returns-in-Some-ending-clause-grow g c = grind (arith, all_grow_on)

pub returns-in-Some-ending-clause-moved : goal.returns-in-Some-ending-clause-moved
returns-in-Some-ending-clause-moved g c =
    let shared = contents c.share-left.result.left.tables in
    rw c.counted-phases.ensures (steady_left _ _ _ _ _ (steady_next _ _ _ _ _ _ c.loop-round.invariant.0
    c.share-left.ensures.grow c.share-left.ensures.serve c.share-left.ensures.within c.share-left.ensures.some
    (λ p. c.share-left.ensures.moved p c.in_default.is)) c.go_alone-left.ensures.grow)

pub loop-round-preserved : goal.loop-round-preserved
loop-round-preserved g c =
    let shared = contents c.share-left.result.left.tables in
    let left = c.go_alone-left.result in
    let phases = cond c.share-left.result.is_phase (c.loop-round.phases + 1) c.loop-round.phases in
    let goes : IsGoing left.buffer × Paid g.J.Job.image (part_of left.tables) left.buffer left.tokens =
    subst (λ (o : Option Ending). GoesOn g.J.Job.image g.J.Job.world g.J.Job.began (part_of left.tables)
    (c.args.self.now.budget - length (part_of left.tables).fired) left.buffer left.tokens o)
    c.in_default-ending.is c.go_alone-left.ensures.goes in (
      subst (λ (n : ℕ). Steady (contents c.args.tables) (contents left.tables) c.args.self.now.budget n) (sym
          c.counted-phases.ensures) (steady_on _ _ _ _ _ (steady_next _ _ _ _ _ _ c.loop-round.invariant.0
          c.share-left.ensures.grow c.share-left.ensures.serve c.share-left.ensures.within
          c.share-left.ensures.some (λ p. c.share-left.ensures.moved p c.in_default.is))
          c.go_alone-left.ensures.grow c.go_alone-left.ensures.serve c.go_alone-left.ensures.within),
      subst (λ (n : ℕ). n ≤ c.loop-round.round + 1) (sym c.counted-phases.ensures) (counted_most _ _ _
          c.loop-round.invariant.1),
      goes.0,
      goes.1,
    )
