use Rattle.std.proofs.Common.{ℕ, ◌+◌, List, sym, ◌∙◌, subst}
use Rattle.cfg_core.specs.Tables.{graph_in}
use Rattle.cfg_core.specs.View as view
use Rattle.call_gen.specs.Plans.{Tallied}
use Rattle.call_gen.proofs.Spelled.Tallying.{place_some, tallied_some, room_for_one, place_none, tallied_same}
use Rattle.call_gen.proofs.numbering.next_place.Goals as goal

pub tally-requires : goal.tally-requires
tally-requires c =
    let g = view.graph (graph_in c.args.table.now) in
    room_for_one g c.args.counts.now.items c.args.b c.in-Some.f c.requires.there c.requires.counts
    (sym c.callee_at.ensures ∙ c.in-Some.is) c.requires.few

pub returns-in-Some-clause-place : goal.returns-in-Some-clause-place
returns-in-Some-clause-place c =
    let g = view.graph (graph_in c.args.table.now) in
    λ e le h. c.tally.ensures.before ∙ place_some g c.args.counts.now.items c.args.b c.in-Some.f
    c.requires.there c.requires.counts (sym c.callee_at.ensures ∙ c.in-Some.is) e le h

pub returns-in-Some-clause-counts : goal.returns-in-Some-clause-counts
returns-in-Some-clause-counts c =
    let g = view.graph (graph_in c.args.table.now) in
    subst (λ (ns : List ℕ). Tallied g ns (c.args.b + 1)) (sym c.tally.ensures.after)
    (tallied_some g c.args.counts.now.items c.args.b c.in-Some.f c.requires.there c.requires.counts
    (sym c.callee_at.ensures ∙ c.in-Some.is))

pub returns-in-None-clause-place : goal.returns-in-None-clause-place
returns-in-None-clause-place c =
    let g = view.graph (graph_in c.args.table.now) in
    place_none g c.args.counts.now.items c.args.b c.requires.there c.requires.counts
    (sym c.callee_at.ensures ∙ c.in-None.is) 0

pub returns-in-None-clause-counts : goal.returns-in-None-clause-counts
returns-in-None-clause-counts c =
    let g = view.graph (graph_in c.args.table.now) in
    tallied_same g c.args.counts.now.items c.args.b c.requires.there c.requires.counts
    (sym c.callee_at.ensures ∙ c.in-None.is)
