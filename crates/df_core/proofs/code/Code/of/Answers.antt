use Rattle.std.proofs.Common.{sym, subst, arith}
use Rattle.ws_isa.specs.View as view
use Rattle.ws_isa.specs.Formed.{Formed, most_blocks}
use Rattle.std.proofs.lemmas.List.{length-map}
use Rattle.df_core.proofs.code.Code.of.Goals as goal

pub of-requires : goal.of-requires
unfolding most_blocks
of-requires g c =
    let formed : Formed (view.image c.image.result.now) = subst Formed (sym c.image.ensures.image)
    c.image.ensures.formed in
    record { few = omega (arith, formed.few_blocks, length-map c.image.result.now.blocks.items view.block) }
