use Rattle.std.proofs.Common.{◌≡◌, List, ◌∷◌, map, ap, ◌∙◌}
use Rattle.ws_isa.specs.Image.{Block, Image}
use Rattle.ws_isa.specs.View as view
use Rattle.wave_link.specs.declared.links.Passage.{Passage}
use Rattle.wave_link.specs.Grown.{no_place}
use Rattle.wave_link.specs.Notes.{places_of}
use Rattle.wave_link.specs.Outlines.{outlines_of}
use Rattle.wave_link.specs.Plain.{noted_from, noted}
use Rattle.wave_link.proofs.plain.note_draft.Goals as goal

whole : (draft : Image) (made : List Block) (table : List Passage)
    → table ≡ no_place ∷ places_of (outlines_of draft.blocks) → made ≡ noted_from table 1 draft.blocks
    → record { arrays = draft.arrays; blocks = made } ≡ noted draft
unfolding noted
whole draft made table e f = ap (λ (xs : List Block). record { arrays = draft.arrays; blocks = xs })
    (f ∙ ap (λ (places : List Passage). noted_from places 1 draft.blocks) e)

pub returns : goal.returns
returns c = whole (view.draft c.args.draft) (map view.block c.in_ok-blocks.blocks.items) c.deref-4.result.now
    (c.deref-4.ensures.value ∙ (c.in_ok-table.ensures
    ∙ ap (λ (places : List Passage). no_place ∷ places) (c.deref-3.ensures.value ∙ (c.in_ok-places.ensures
    ∙ ap places_of (c.deref-2.ensures.value ∙ (c.in_ok-outlines.ensures
    ∙ ap outlines_of (ap (map view.block) c.deref.ensures.value)))))))
    c.in_ok-blocks.ensures
