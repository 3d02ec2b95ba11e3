use Rattle.std.proofs.Common.{◌≡◌, ◌∙◌, ◌-◌, ◌++◌, ◌∷◌, [], List, drop, length, sym, ap, subst, arith}
use Rattle.std.proofs.lemmas.List.{drop_all}
use Rattle.wave_gen.specs.Wire.{Target, Front, Wants}
use Rattle.wave_gen.specs.Plans.{fronts}
use Rattle.wave_gen.specs.Tables.{listed}
use Rattle.wave_gen.proofs.OfGraphs.Framed.{front_more}
use Rattle.wave_gen.proofs.at_start.fronts.Goals as goal

pub loop-left-init : goal.loop-left-init
loop-left-init c =
    let xs = c.args.entries.now in (
      omega arith,
      c.new-table.ensures ∙ ap (fronts c.args.block (length xs))
          (sym (drop_all (length xs) xs (omega arith))),
    )

pub loop-left-preserved : goal.loop-left-preserved
loop-left-preserved c = (
  omega arith,
  front_more c.args.block c.loop-left.left c.args.entries.now (listed c.loop-left.table.lists.items)
      (listed c.put.new.self.lists.items) c.push.new.self.items 0 (omega arith) c.loop-left.invariant.0
      c.loop-left.invariant.1 (c.in_ok-push.ensures.items
      ∙ ap (λ (l : List Target). l ++ Front c.args.block (c.loop-left.left - 1) ∷ [])
      c.new-list.ensures.items) c.in_ok-put.ensures,
)

pub returns : goal.returns
returns c =
    let none : c.loop-left.left ≡ 0 = omega arith in
    subst (λ n. ◌≡◌ {A = Wants} (listed c.loop-left.table.lists.items)
    (fronts c.args.block n (drop n c.args.entries.now))) none c.loop-left.invariant.1
