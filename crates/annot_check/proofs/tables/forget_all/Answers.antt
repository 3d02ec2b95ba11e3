use Rattle.std.proofs.Common.{◌∙◌, sym, inl, inr, arith}
use Rattle.annot_check.proofs.Slotted.Entries.{number_past, number_step}
use Rattle.annot_check.proofs.tables.forget_all.Goals as goal

pub loop-number-preserved : goal.loop-number-preserved
loop-number-preserved c = record {
  size = c.forget.ensures.size ∙ c.loop-number.invariant.size;
  kept = λ b e h. (let k = c.forget.ensures.kept b e h in
      let m = c.loop-number.invariant.kept b e k.0 in (
        m.0,
        λ x. elim (number_step c.args.numbers.now c.loop-number.number-index 0 b c.loop-number-test.true
            (m.1 x)) [
              | inl s ↦ absurd (k.1 (sym s))
              | inr y ↦ y
            ],
      ));
}

pub returns-clause-kept : goal.returns-clause-kept
returns-clause-kept c b e h =
    let m = c.loop-number.invariant.kept b e h in (
      m.0,
      λ x. number_past c.args.numbers.now c.loop-number.number-index b
          (omega (arith, c.loop-number-test.false))
          (m.1 x),
    )
