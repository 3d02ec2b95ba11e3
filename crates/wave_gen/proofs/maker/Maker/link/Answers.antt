use Rattle.std.proofs.Common.{◌+◌, ◌-◌, refl, subst, arith}
use Rattle.wave_gen.specs.Wire.{Made, wire}
use Rattle.wave_gen.specs.Plans.{chain}
use Rattle.wave_gen.specs.Tables.{HasMade}
use Rattle.wave_gen.proofs.Tables.Hanging.{chain_more, chain_none, chain_end}
use Rattle.wave_gen.proofs.maker.Maker.link.Goals as goal

pub loop-left-preserved : goal.loop-left-preserved
loop-left-preserved c = (
  omega arith,
  λ b s st.
      let k = c.loop-left.left in let n = c.args.links in let z = c.args.test in
      subst (λ (t : Made). HasMade b c.wire_make.new.self t)
      (chain_more b z n k (k - 1) c.in-Some.name (c.in-Some.name - 1) s (omega arith)
      c.loop-left.invariant.0 (omega (arith, c.in-Some.ensures)) refl)
      (c.in_ok-wire_make.ensures b (wire b (chain (z + k) (n - k)) s) (c.loop-left.invariant.1 b s st)),
)

pub returns : goal.returns
returns c b s st =
    let k = c.loop-left.left in let n = c.args.links in let z = c.args.test in
    subst (λ (t : Made). HasMade b c.loop-left.self t) (chain_none b z n k s (omega arith))
    (c.loop-left.invariant.1 b s st)

pub loop-left-init : goal.loop-left-init
loop-left-init c = (
  omega arith,
  λ b s st. subst (λ (t : Made). HasMade b c.args.self.now t) (chain_end b c.args.test c.args.links s) st,
)
