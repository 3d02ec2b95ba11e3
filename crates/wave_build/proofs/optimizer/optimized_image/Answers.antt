use Rattle.std.proofs.Common.{List, map, ap, ◌∙◌, arith}
use Rattle.ws_isa.specs.Shown.{shown_arrays}
use Rattle.ws_isa.specs.View as image
use Rattle.src_ast.specs.View as ast
use Rattle.cfg_core.specs.Graph.{GraphArray}
use Rattle.cfg_core.specs.View as view
use Rattle.wave_gen.specs.Words.{array_of}
use Rattle.wave_build.proofs.CompilingBound.{keeps_bound}
use Rattle.wave_build.proofs.CompilingShown.{same_shown}
use Rattle.wave_build.proofs.CompilingWalks.{walks_as_run}
use Rattle.wave_build.proofs.CompilingWords.{code_words}
use Rattle.wave_build.proofs.Forming.{leaves_room}
use Rattle.wave_build.proofs.Opening.{last_graphs}
use Rattle.wave_build.proofs.Sizing.{last_within}
use Rattle.wave_build.specs.Small.{sizes_with}
use Rattle.wave_build.proofs.optimizer.optimized_image.Goals as goal

pub generate-requires-clause-arms : goal.generate-requires-clause-arms
generate-requires-clause-arms c =
    let p = c.in_ok-graph.ensures in p.spelling.arms (p.keeping.arms p.inlined.opened.arms)

pub annotate-requires : goal.annotate-requires
annotate-requires c = record {
  fit = c.open_drafts_fit.ensures (image.draft c.in_ok-draft.draft) c.in_ok-draft.ensures.open_to_notes;
}

pub returns-clause-formed : goal.returns-clause-formed
returns-clause-formed c =
    let parts = ast.parts c.args.accepted.now.program.items.items in
    let g = view.graph c.in_ok-graph.graph in
    let d = c.in_ok-draft.ensures in
    let p = c.in_ok-graph.ensures in
    let o = p.inlined.opened in
    let few = c.accepted_has_few_variables.ensures parts c.args.accepted.now.program.finish
    c.args.accepted.now.accepted in
    let last = last_graphs parts g p _ _ c.in_ok-live.ensures c.in_ok-waves.ensures.rule
    c.in_ok-waves.ensures.waves in
    c.in_ok-made.ensures.formed (leaves_room parts g _ c.requires p.inlined.vars o.ops o.nodes
    (omega (arith, few, p.inlined.few))
    (last_within p.given p.kept g p.needed _ _ last (sizes_with p.inlined.vars o.ops o.nodes) o.sizes)
    p.spelling.start p.shows.arrays (code_words c.in_ok-graph.graph) (image.draft c.in_ok-draft.draft)
    d.limits d.lists d.arrays (c.has_room.ensures (grind (arith, c.if-not-has_room.false))))

pub returns-clause-arrays : goal.returns-clause-arrays
returns-clause-arrays c =
    let g = view.graph c.in_ok-graph.graph in
    ap shown_arrays (c.in_ok-made.ensures.blocks.arrays ∙ c.in_ok-draft.ensures.arrays)
    ∙ same_shown g.arrays
    ∙ ap (λ (xs : List GraphArray). map array_of xs) c.in_ok-graph.ensures.shows.arrays

pub returns-clause-walk : goal.returns-clause-walk
returns-clause-walk c =
    let parts = ast.parts c.args.accepted.now.program.items.items in
    let g = view.graph c.in_ok-graph.graph in
    let draft = image.draft c.in_ok-draft.draft in
    let made = image.image c.in_ok-made.made in
    let p = c.in_ok-graph.ensures in
    let d = c.in_ok-draft.ensures in
    let m = c.in_ok-made.ensures in
    let words = code_words c.in_ok-graph.graph in
    λ world w. walks_as_run parts g draft made world c.walks_answer.ensures p.spelling.rules p.shows
    (d.walk words world w) (d.endless words world w) (m.walk world) d.arrays m.blocks.arrays

pub returns-clause-draft : goal.returns-clause-draft
returns-clause-draft c =
    let m = c.in_ok-made.ensures in
    record {
      draft = image.draft c.in_ok-draft.draft;
      open_to_notes = c.in_ok-draft.ensures.open_to_notes;
      no_nop = c.in_ok-draft.ensures.no_nop;
      blocks = m.blocks;
      needed = m.needed;
      never_linked = m.never_linked;
      triggers = m.triggers;
    }

pub returns-clause-cost : goal.returns-clause-cost
returns-clause-cost c =
    let parts = ast.parts c.args.accepted.now.program.items.items in
    let g = view.graph c.in_ok-graph.graph in
    let p = c.in_ok-graph.ensures in
    let last = last_graphs parts g p _ _ c.in_ok-live.ensures c.in_ok-waves.ensures.rule
    c.in_ok-waves.ensures.waves in
    keeps_bound parts p.given p.kept g p.needed _ _ p.inlined.opened.costs last p.shows
    (c.written_is_narrow.ensures parts c.requires) (image.draft c.in_ok-draft.draft)
    (image.image c.in_ok-made.made)
    (c.in_ok-draft.ensures.cost (code_words c.in_ok-graph.graph)) c.in_ok-made.ensures.walk
