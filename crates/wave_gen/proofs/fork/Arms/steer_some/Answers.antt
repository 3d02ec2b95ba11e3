use Rattle.std.proofs.Common.{◌≡◌, ◌-◌, ℕ, false, eqb, [], suc, sym, ◌∙◌, inl, inr, arith}
use Rattle.std.proofs.lemmas.Bool.{eqb-true, false≢true}
use Rattle.std.proofs.lemmas.Bool.Decides.{eqb_tells}
use Rattle.std.specs.Prelude.{vec_len}
use Rattle.std.proofs.lemmas.Result.{on_ok_weaker}
use Rattle.wave_gen.proofs.Tables.Keepings.{steered_some, steered_none}
use Rattle.wave_gen.proofs.fork.Arms.steer_some.Goals as goal

pub returns-then-is_empty : goal.returns-then-is_empty
returns-then-is_empty c =
    let n = vec_len c.args.self.now.tails in
    let none : n ≡ 0 = eqb-true n 0 (sym c.is_empty.ensures ∙ c.if-is_empty.true) in
    on_ok_weaker c.steer.result (λ e w v xs was. steered_none w v xs c.args.self.now c.steer.new.self
    (sym c.args.self.now.tails.ok.0 ∙ none) was (e w v [])) c.steer.ensures

some_from : (n : ℕ) → eqb n 0 ≡ false → n ≡ suc (n - 1)
some_from n e = elim (eqb_tells n 0) [
  | inl p ↦ absurd (false≢true (sym e ∙ p.0))
  | inr p ↦
      (let d = p.1 in omega arith)
]

pub returns-else-is_empty : goal.returns-else-is_empty
returns-else-is_empty c w v xs was =
    let n = vec_len c.args.self.now.tails in
    let some : n ≡ suc (n - 1) = some_from n (sym c.is_empty.ensures ∙ c.if-is_empty.false) in
    steered_some w v xs c.args.self.now (n - 1) (sym c.args.self.now.tails.ok.0 ∙ some) was
