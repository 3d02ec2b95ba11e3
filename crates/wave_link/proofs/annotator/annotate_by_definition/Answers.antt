use Rattle.std.proofs.Common.{List, ◌∷◌, map, ap, ap₂, ◌∙◌}
use Rattle.ws_isa.specs.View as view
use Rattle.wave_link.specs.declared.links.Passage.{Passage}
use Rattle.wave_link.specs.States.{nops_of}
use Rattle.wave_link.specs.Notes.{places_of}
use Rattle.wave_link.specs.Outlines.{with_nops}
use Rattle.wave_link.specs.Layout.{tables_of}
use Rattle.wave_link.specs.Laid.{view_tables}
use Rattle.wave_link.specs.Grown.{no_place, grown_from}
use Rattle.wave_link.proofs.Parted.Made.{made}
use Rattle.wave_link.proofs.annotator.annotate_by_definition.Goals as goal

pub returns : goal.returns
returns c =
    made (view.draft c.args.draft.now) (map view.array c.in_ok-arrays.arrays.items)
    (map view.block c.in_ok-blocks.blocks.items) (map view.block c.as_slice-blocks.result.now)
    c.in_ok-outlines.outlines.items c.in_ok-more.more.items c.in_ok-added.added.items
    c.in_ok-places.places.items c.in_ok-table.table.items (view_tables c.in_ok-tables.tables)
    (c.in_ok-arrays.ensures ∙ ap (map view.array) c.as_slice.ensures.value)
    (ap (map view.block) c.as_slice-blocks.ensures.value)
    c.in_ok-outlines.ensures
    (c.in_ok-added.ensures ∙ ap nops_of c.deref.ensures.value)
    (c.in_ok-more.ensures ∙ ap₂ with_nops c.deref-2.ensures.value c.deref-3.ensures.value)
    (c.in_ok-places.ensures ∙ ap places_of c.deref-4.ensures.value)
    (c.in_ok-table.ensures ∙ ap (λ (ps : List Passage). no_place ∷ ps) c.deref-5.ensures.value)
    (c.in_ok-tables.ensures ∙ ap (tables_of (map view.block c.as_slice-blocks.result.now))
    c.deref-6.ensures.value)
    (c.in_ok-blocks.ensures ∙ ap (λ (ts : List Passage). grown_from (view_tables c.in_ok-tables.tables) ts 1 1
    (map view.block c.as_slice-blocks.result.now)) c.deref-7.ensures.value)
