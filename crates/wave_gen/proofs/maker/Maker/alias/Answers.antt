use Rattle.std.proofs.Common.{sym, ◌∙◌, subst}
use Rattle.std.proofs.lemmas.Result.{on_ok_weaker}
use Rattle.std.proofs.lemmas.Bool.{false≢true}
use Rattle.wave_gen.specs.declared.maker.Maker.{Maker}
use Rattle.wave_gen.specs.Tables.{HasMade}
use Rattle.wave_gen.specs.Wire.{gather}
use Rattle.wave_gen.proofs.Tables.Making.{alias_stands}
use Rattle.wave_gen.proofs.maker.Maker.alias.Goals.{then-is_full+in_ok-gather+in_ok-gather-2, else-is_full}
use Rattle.wave_gen.proofs.maker.Maker.alias.Goals as goal

pub returns : goal.returns
returns c =
    let m = c.args.self.now in let k = c.if-is_full.self in
    let x = c.args.name in let y = c.args.other in
    on_ok_weaker c.copy.result (λ e b s st. alias_stands b x y m k c.copy.new.self s c.is_full.result
    c.list.result.now c.list.ensures c.is_full.ensures
    (elim c.if-is_full.branch [
      | then-is_full+in_ok-gather+in_ok-gather-2 w ↦
          λ t. subst (λ (z : Maker). HasMade b z (gather b y (gather b x s))) (sym w.self-is)
          (w.in_ok-gather-2.ensures b (gather b x s) (w.in_ok-gather.ensures b s st))
      | else-is_full w ↦ λ t. absurd (false≢true (sym w.if-is_full.false ∙ t))
    ])
    (elim c.if-is_full.branch [
      | then-is_full+in_ok-gather+in_ok-gather-2 w ↦ λ t. absurd (false≢true (sym t ∙ w.if-is_full.true))
      | else-is_full w ↦ λ t. subst (λ (z : Maker). HasMade b z s) (sym w.self-is) st
    ])
    (e b) st) c.copy.ensures
