use Rattle.std.proofs.Common.{◌-◌, refl, sym, ◌∙◌, arith}
use Rattle.df_core.specs.Places.{image_of}
use Rattle.df_core.proofs.Parts.Quietly.{all_fill, fill_further, sent_at}
use Rattle.df_core.proofs.quiet.quiet_among.Goals as goal

pub returns-then-not-fills : goal.returns-then-not-fills
returns-then-not-fills c = (
  sent_at c.args.tokens.now (c.loop-place.place - 1) _
      (omega (arith, c.loop-place-test.true, c.loop-place.invariant.within)) refl,
  sym c.fills.ensures ∙ c.if-not-fills.true,
)

pub loop-place-preserved : goal.loop-place-preserved
loop-place-preserved c = record {
  within = omega (arith, c.loop-place.invariant.within);
  behind = fill_further (image_of c.args.program.now) c.args.slots.now c.args.tokens.now
      (c.loop-place.place - 1) c.loop-place.place (omega (arith, c.loop-place-test.true))
      (sym c.fills.ensures ∙ c.if-not-fills.false) c.loop-place.invariant.behind;
}

pub returns : goal.returns
returns c = all_fill (image_of c.args.program.now) c.args.slots.now c.args.tokens.now
    (λ k l. c.loop-place.invariant.behind k (omega (arith, c.loop-place-test.false)) l)
