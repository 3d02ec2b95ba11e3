use Rattle.std.proofs.Common.{◌≡◌, ℕ, List, drop, sym, subst, arith}
use Rattle.wave_gen.specs.Plans.{advances}
use Rattle.wave_gen.specs.Tables.{HasMade}
use Rattle.wave_gen.proofs.Tables.Making.{back_number}
use Rattle.wave_gen.proofs.maker.Maker.advance.Goals as goal

pub loop-left-preserved : goal.loop-left-preserved
loop-left-preserved c = (
  omega arith,
  λ b s st.
      let xs = c.args.entries.now in let k = c.loop-left.left in
      subst (λ (ys : List ℕ). HasMade b c.emit.new.self (advances b ys s))
      (sym (back_number xs k (omega arith) c.loop-left.invariant.0))
      (c.in_ok-emit.ensures b (advances b (drop k xs) s) (c.loop-left.invariant.1 b s st)),
)

pub returns : goal.returns
returns c b s st =
    let none : c.loop-left.left ≡ 0 = omega arith in
    subst (λ n. HasMade b c.loop-left.self (advances b (drop n c.args.entries.now) s)) none
    (c.loop-left.invariant.1 b s st)
