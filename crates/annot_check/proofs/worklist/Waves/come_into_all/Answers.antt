use Rattle.std.proofs.Common.{◌≡◌, ◌∙◌, ℕ, true, sym, ap, inl, inr, subst, arith, get_or}
use Rattle.ws_isa.specs.View as view
use Rattle.ws_isa.specs.Image.{is_first}
use Rattle.annot_check.specs.Table.{HasNumber}
use Rattle.annot_check.proofs.Slotted.Come.{come_twice}
use Rattle.annot_check.proofs.Slotted.Entries.{number_there, number_past, number_step}
use Rattle.annot_check.proofs.worklist.Waves.come_into_all.Goals as goal
use Rattle.ws_words.specs.Items.{flag_at}

pub come_into-requires-clause-block : goal.come_into-requires-clause-block
come_into-requires-clause-block c = c.requires.blocks (get_or c.args.numbers.now c.loop-number.number-index 0)
    (number_there c.args.numbers.now c.loop-number.number-index 0 c.loop-number-test.true)

pub loop-number-preserved : goal.loop-number-preserved
loop-number-preserved c =
    let made = c.in_ok-come_into.ensures in
    let number : ℕ = get_or c.args.numbers.now c.loop-number.number-index 0 in
    record {
      more = come_twice c.args.self.now c.loop-number.self c.come_into.new.self c.loop-number.invariant.more
          made.more;
      there = λ b h f. elim (c.loop-number.invariant.there b h f) [
        | inl m ↦ inl (made.more.keeps b m)
        | inr m ↦ elim (number_step c.args.numbers.now c.loop-number.number-index 0 b c.loop-number-test.true
            m) [
              | inl s ↦ inl (subst (λ (x : ℕ). flag_at c.come_into.new.self.come.items x ≡ true) s
                  (made.there (ap (is_first (view.image c.args.image.now)) s ∙ f)))
              | inr y ↦ inr y
            ]
      ];
      is_new = λ b h. elim (made.is_new b h) [
        | inl m ↦ c.loop-number.invariant.is_new b m
        | inr m ↦ inr (
          subst (HasNumber c.args.numbers.now) (sym m.0)
              (number_there c.args.numbers.now c.loop-number.number-index 0 c.loop-number-test.true),
          m.1,
        )
      ];
    }

pub returns-clause-there : goal.returns-clause-there
returns-clause-there c b h f = elim (c.loop-number.invariant.there b h f) [
  | inl m ↦ m
  | inr m ↦ absurd (number_past c.args.numbers.now c.loop-number.number-index b
      (omega (arith, c.loop-number-test.false)) m)
]
