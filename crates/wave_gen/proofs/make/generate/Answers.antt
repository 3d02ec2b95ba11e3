use Rattle.std.proofs.Common.{ap, ◌∙◌, map, ℕ, List, ◌≡◌}
use Rattle.ws_isa.specs.View as image
use Rattle.ws_isa.specs.Image.{Array}
use Rattle.cfg_core.specs.Graph.{Graph}
use Rattle.cfg_core.specs.Tables.{graph_in}
use Rattle.cfg_core.specs.View as view
use Rattle.live_vars.specs.Marks.{has}
use Rattle.wave_cut.specs.Cut.{Cut}
use Rattle.wave_gen.specs.Plans.{Plan, draft_of}
use Rattle.wave_gen.specs.View as shown
use Rattle.wave_gen.specs.declared.plan.Plan as declared
use Rattle.wave_gen.specs.Listing.{width_of, plans_of}
use Rattle.wave_gen.specs.Words.{arrays_of}
use Rattle.wave_gen.proofs.OfGraphs.Generated.{fits, kept, leads}
use Rattle.wave_gen.proofs.make.generate.Goals as goal

pub make_draft-requires : goal.make_draft-requires
make_draft-requires c =
    let g = view.graph c.args.graph.now in let cut = c.args.waves.now in
    let o = c.in_ok-outline.outline in let h = c.in_ok-outline.ensures in let r = c.requires in
    let same : view.graph (graph_in o.table) ≡ g = ap view.graph h.graph in
    let plans : map shown.plan c.deref.result.now ≡ plans_of g (has c.args.live.now) cut =
    ap (λ (ps : List declared.Plan). map shown.plan ps) c.deref.ensures.value ∙ c.in_ok-plans.ensures
    ∙ ap (λ (k : Graph). plans_of k (has o.live.now) o.waves.now) same
    ∙ ap (λ (l : List (List ℕ)). plans_of g (has l) o.waves.now) h.live
    ∙ ap (λ (w : Cut). plans_of g (has c.args.live.now) w) h.waves in
    leads g (has c.args.live.now) cut (fits g c.args.live.now cut r.rules r.live r.cut r.waves r.no_call
    r.across r.arms) (map shown.plan c.deref.result.now) plans

pub returns : goal.returns
returns c =
    let g = view.graph c.args.graph.now in let cut = c.args.waves.now in
    let o = c.in_ok-outline.outline in let h = c.in_ok-outline.ensures in let r = c.requires in
    let same : view.graph (graph_in o.table) ≡ g = ap view.graph h.graph in
    let width : o.width ≡ width_of g = h.outline.width ∙ ap width_of same in
    let plans : map shown.plan c.deref.result.now ≡ plans_of g (has c.args.live.now) cut =
    ap (λ (ps : List declared.Plan). map shown.plan ps) c.deref.ensures.value ∙ c.in_ok-plans.ensures
    ∙ ap (λ (k : Graph). plans_of k (has o.live.now) o.waves.now) same
    ∙ ap (λ (l : List (List ℕ)). plans_of g (has l) o.waves.now) h.live
    ∙ ap (λ (w : Cut). plans_of g (has c.args.live.now) w) h.waves in
    let draft : image.draft c.in_ok-draft.draft ≡ draft_of (arrays_of g) (width_of g)
    (plans_of g (has c.args.live.now) cut) =
    c.in_ok-draft.ensures
    ∙ ap (λ (xs : List Array). draft_of xs o.width (map shown.plan c.deref.result.now)) c.in_ok-arrays.ensures
    ∙ ap (λ (n : ℕ). draft_of (arrays_of g) n (map shown.plan c.deref.result.now)) width
    ∙ ap (λ (ps : List Plan). draft_of (arrays_of g) (width_of g) ps) plans in
    let k = kept g (has c.args.live.now) cut (fits g c.args.live.now cut r.rules r.live r.cut r.waves
    r.no_call r.across r.arms) (image.draft c.in_ok-draft.draft) draft in
    record {
      open_to_notes = k.open_to_notes;
      lists = k.lists;
      no_nop = k.no_nop;
      limits = k.limits;
      arrays = k.arrays;
      walk = k.walk;
      endless = k.endless;
      cost = k.cost;
    }
