use Rattle.std.proofs.Common.{sym, subst, arith}
use Rattle.ws_isa.specs.View as view
use Rattle.ws_isa.specs.Formed.{Formed, most_blocks}
use Rattle.df_core.proofs.engine.Core.begin.Goals as goal
use Rattle.ws_words.proofs.Lists.{length_map}

pub of-requires : goal.of-requires
unfolding most_blocks
of-requires c =
    let formed : Formed (view.image c.image.result.now) = subst Formed (sym c.image.ensures.image)
    c.image.ensures.formed in
    record { few = omega (arith, formed.few_blocks, length_map view.block c.image.result.now.blocks.items) }
