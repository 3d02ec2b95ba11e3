use Rattle.std.proofs.Common.{◌-◌, List, map, length, sym, ap, subst, arith}
use Rattle.std.proofs.lemmas.List.{length-map, length_push}
use Rattle.wave_gen.specs.declared.kept.Kept.{Kept}
use Rattle.wave_gen.specs.View as view
use Rattle.wave_gen.specs.Kept.{KeptBehind}
use Rattle.wave_gen.proofs.OfGraphs.Framed.{kept_more, all_kept}
use Rattle.wave_gen.proofs.block.make_blocks.Goals as goal

pub loop-left-preserved : goal.loop-left-preserved
loop-left-preserved c = (
  omega (
    arith,
    ap (λ (xs : List Kept). length xs) c.in_ok-push.ensures.items,
    length_push c.loop-left.kept.items c.in_ok-block.block,
  ),
  let ps = map view.plan c.args.plans.now in let b = c.loop-left.left in let ks = c.loop-left.kept.items in
      subst (λ (xs : List Kept). KeptBehind c.args.width ps (b - 1) xs) (sym c.in_ok-push.ensures.items)
      (kept_more c.args.width ps (b - 1) b ks c.in_ok-block.block (omega arith)
      (omega (arith, length-map c.args.plans.now view.plan)) c.loop-left.invariant.1
      (c.in_ok-block.ensures (subst (λ (xs : List Kept). KeptBehind c.args.width ps b xs)
      (sym c.deref.ensures.value) c.loop-left.invariant.1) (c.requires b))),
)

pub returns-clause-kept : goal.returns-clause-kept
returns-clause-kept c = all_kept c.args.width (map view.plan c.args.plans.now) c.loop-left.left
    c.loop-left.kept.items (omega arith) c.loop-left.invariant.1
