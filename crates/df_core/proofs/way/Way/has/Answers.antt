use Rattle.std.proofs.Common.{◌∙◌, map, sym, subst}
use Rattle.df_core.specs.Ways.{token_of, NoneAt}
use Rattle.df_core.proofs.Sizes.Fine.{none_if}
use Rattle.df_core.proofs.Parts.Found.{none_both}
use Rattle.df_core.proofs.way.Way.has.Goals as goal

pub returns-else-is_some : goal.returns-else-is_some
returns-else-is_some c = λ e.
    none_both (map token_of c.args.self.now.now.items) (map token_of c.args.self.now.later.items) c.args.wave
    c.args.instr c.args.port
    (subst (λ ts. NoneAt (map token_of ts) c.args.wave c.args.instr c.args.port) c.deref.ensures.value
    (none_if c.find_token.result _ _ (sym c.is_some.ensures ∙ c.if-is_some.false) c.find_token.ensures))
    (subst (λ ts. NoneAt (map token_of ts) c.args.wave c.args.instr c.args.port)
    c.deref-else-is_some.ensures.value (none_if c.find_token-else-is_some.result _ _
    (sym c.is_some-else-is_some.ensures ∙ e) c.find_token-else-is_some.ensures))
