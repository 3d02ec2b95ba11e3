use Rattle.std.proofs.Common.{◌+◌, ◌<◌, ◌≤◌, ◌∙◌, ℕ, length, slice_index_or, subst, arith}
use Rattle.std.proofs.lemmas.Bool.{cases_lt}
use Rattle.std.proofs.lemmas.List.{length-set}
use Rattle.match_table.specs.Growth.{content_at}
use Rattle.match_table.specs.Rows.{contents}
use Rattle.match_table.specs.Tables.{TableContent}
use Rattle.match_table.specs.Together.{part_of}
use Rattle.fire_crew.specs.Owing.{ToldIn}
use Rattle.fire_crew.proofs.Paid.{set_each, told_join}
use Rattle.fire_crew.proofs.missing.look_across.Goals as goal

pub loop-number-preserved : goal.loop-number-preserved
loop-number-preserved g c =
    let image = g.J.Job.image in
    let cs = contents c.args.tables.now in
    let held = (part_of c.args.tables.now).held in
    let places = c.loop-number.places in
    let n = c.loop-number.number in
    let to = c.in_ok-to.to in
    let old = c.loop-number.invariant in
    let long = old.0 in
    let most = c.count_of-number-end.ensures.most in
    let count = c.count_of-number-end.ensures.count in
    let test = c.loop-number-test.true in
    let within : n < length places = omega (arith, long, most, test) in
    let here : n < length cs = omega (arith, count, test) in (
      length-set places n to ∙ long,
      c.in_ok-to.ensures.missing,
      (λ way e. (let a = c.in_ok-to.ensures.reach way e in let b = old.2 way a.0 in (
        b.0,
        λ told k lt. set_each (λ (j x : ℕ). ToldIn image held way 0 x (content_at cs j)) places n to within
            (told_join image held way 0 (slice_index_or places n 0) to (content_at cs n) (b.1 told n here)
            (subst (λ (t : TableContent). ToldIn image held way (slice_index_or places n 0) to t)
            c.table_at-table.ensures a.1)) k (λ apart. b.1 told k lt),
      ))),
      (λ all k lt. set_each (λ (j x : ℕ). j < n + 1 → length (content_at cs j).fired ≤ x) places n to within
          (λ l. subst (λ (t : TableContent). length t.fired ≤ to) c.table_at-table.ensures
          (c.in_ok-to.ensures.all all)) k
          (λ apart l. old.3 all k (grind (arith, cases_lt))) lt),
    )

pub returns-clause-all : goal.returns-clause-all
returns-clause-all g c = grind arith
