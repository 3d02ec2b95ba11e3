-- What holds of the draft that is made of a graph.
use Rattle.std.proofs.Common.{arith, ℕ, ◌≡◌, Bool, true, false, List, refl, sym, subst}
use Rattle.ws_words.specs.Outside.{World, WorldOfWords}
use Rattle.ws_isa.specs.Image.{Image}
use Rattle.ws_isa.specs.Open.{OpenToNotes}
use Rattle.cfg_core.specs.Graph as graph
use Rattle.cfg_core.specs.Graph.{Graph, block_at}
use Rattle.cfg_core.specs.Rules.{IsGraph, calls}
use Rattle.live_vars.specs.Live.{Live}
use Rattle.live_vars.specs.Marks.{AreLive, has}
use Rattle.wave_cut.specs.Cut.{Cut, IsCut, AreWaves}
use Rattle.call_gen.specs.Keeps.{NoCall, HasNoCall, NoneAcross, NoneLiveAcross}
use Rattle.cfg_core.specs.Shape.{ArmsAlone}
use Rattle.wave_gen.specs.Plans.{Plan, plan_at, draft_of}
use Rattle.wave_gen.specs.Kept.{LeadsAhead}
use Rattle.wave_gen.specs.Lists.{ListsFit}
use Rattle.wave_gen.specs.NoNop.{HasNoNop}
use Rattle.wave_gen.specs.Cost.{CostsAtMost}
use Rattle.wave_gen.specs.Limits.{KeepsLimits}
use Rattle.wave_gen.specs.Words.{GraphOfWords, arrays_of}
use Rattle.wave_gen.specs.Keeps.{KeepsWalk, EndlessWith}
use Rattle.wave_gen.specs.Listing.{landings_of, width_of, plans_of, needed, graph_draft}
use Rattle.wave_gen.specs.Fitting.{Fits}
use Rattle.wave_gen.proofs.OfGraphs.GraphOpen.{graph_open, graph_lists, graph_walks}
use Rattle.wave_gen.proofs.OfGraphs.NoNops.{graph_no_nop}
use Rattle.wave_gen.proofs.Weighing.Limits.{graph_limits}
use Rattle.wave_gen.proofs.Weighing.Costs.{graph_costs}
use Rattle.wave_gen.proofs.Walking.Endless.{endless}
use Rattle.wave_gen.proofs.Planning.LeadingAhead.{plans_lead_ahead}
use Rattle.wave_gen.proofs.OfGraphs.PlansMade.{plans_are}
use Rattle.ws_words.specs.Items.{In}

-- what the passes before give is what plans are made of
pub no_call : (x : graph.Exit) → NoCall x → calls x ≡ false
no_call x h = grind arith

pub brought : (g : Graph) (exit : graph.Exit) → NoneAcross g exit → (l x : ℕ) → In l (landings_of exit)
    → Live g l x → In x (block_at g l).named
brought g exit h l x i v = grind arith

pub fits : (g : Graph) (planes : List (List ℕ)) (cut : Cut) → IsGraph g → AreLive g planes → IsCut g cut
    → AreWaves g cut → HasNoCall g → NoneLiveAcross g → ArmsAlone g → Fits g (has planes) cut
fits g planes cut r l c w n a b = grind (arith, no_call, brought, a.landings)

pub record Kept (g : Graph) (live : ℕ → ℕ → Bool) (draft : Image) : Type 0 where
  pub open_to_notes : OpenToNotes draft
  pub lists : ListsFit draft
  pub no_nop : HasNoNop draft
  pub limits : KeepsLimits g live draft
  pub arrays : draft.arrays ≡ arrays_of g
  pub walk : GraphOfWords g → (world : World) → WorldOfWords world → (turns : ℕ)
      → KeepsWalk g draft world turns
  pub endless : GraphOfWords g → (world : World) → WorldOfWords world → EndlessWith g draft world
  pub cost : GraphOfWords g → (world : World) → WorldOfWords world → (turns : ℕ)
      → CostsAtMost g live draft world turns

arrays_kept : (g : Graph) (live : ℕ → ℕ → Bool) (cut : Cut) → (graph_draft g (arrays_of g) live cut).arrays
    ≡ arrays_of g
unfolding graph_draft draft_of
arrays_kept g live cut = refl

pub kept : (g : Graph) (live : ℕ → ℕ → Bool) (cut : Cut) → Fits g live cut → (draft : Image)
    → draft ≡ draft_of (arrays_of g) (width_of g) (plans_of g live cut) → Kept g live draft
unfolding graph_draft
kept g live cut f draft e = subst (Kept g live) (sym e) (record {
  open_to_notes = graph_open g live cut f;
  lists = graph_lists g live cut f;
  no_nop = graph_no_nop g live cut f;
  limits = graph_limits g live cut f;
  arrays = arrays_kept g live cut;
  walk = λ words world w turns. graph_walks g live cut f words world w turns;
  endless = λ words world w. endless g (graph_draft g (arrays_of g) live cut) world
      (λ turns. graph_walks g live cut f words world w turns);
  cost = λ words world w turns. graph_costs g live cut f words world w turns;
})

-- edges of its plans lead ahead
pub leads : (g : Graph) (live : ℕ → ℕ → Bool) (cut : Cut) → Fits g live cut → (ps : List Plan)
    → ps ≡ plans_of g live cut → (b : ℕ) → LeadsAhead ps b (plan_at ps b).exit
leads g live cut f ps e b =
    subst (λ (qs : List Plan). LeadsAhead qs b (plan_at qs b).exit) (sym e)
    (plans_lead_ahead (plans_of g live cut) (width_of g) (λ n x. needed g live cut n x ≡ true)
    (plans_are g live cut f) b)
