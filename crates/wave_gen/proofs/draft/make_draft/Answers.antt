use Rattle.std.proofs.Common.{◌∙◌, List, map, reverse, sym, ap, subst}
use Rattle.ws_isa.specs.View as isa
use Rattle.wave_gen.specs.declared.kept.Kept.{Kept}
use Rattle.wave_gen.specs.View as view
use Rattle.wave_gen.specs.Plans.{mades}
use Rattle.wave_gen.specs.Kept.{AreKept}
use Rattle.wave_gen.specs.Numbered.{numbers_from}
use Rattle.wave_gen.proofs.Tables.Numberings.{draft_is}
use Rattle.wave_gen.proofs.draft.make_draft.Goals as goal

pub returns : goal.returns
returns c =
    let ds = c.args.plans.now in let n = c.args.width in
    draft_is n ds (map isa.array c.args.arrays.items) (map isa.block c.in_ok-blocks.blocks.items)
    (c.in_ok-blocks.ensures n
    (subst (λ (ks : List Kept). AreKept n (map view.plan ds) 1 (reverse ks) (mades n (map view.plan ds)))
    (sym c.deref-2.ensures.value) c.in_ok-kept.ensures.kept)
    (c.deref-3.ensures.value ∙ c.in_ok-numbers.ensures ∙ ap (λ (ks : List Kept). numbers_from 1 (reverse ks))
    (c.deref.ensures.value ∙ sym c.deref-2.ensures.value)))
