-- The joined graph is open to the passes behind it, and so is an inlined one.
use Rattle.std.proofs.Common.{ℕ, ◌+◌, ◌*◌, ◌≡◌, ◌≤◌, List, length, sym, ap, ◌∙◌, subst, inl, inr, arith}
use Rattle.src_ast.specs.Syntax.{Part}
use Rattle.src_ast.specs.Bound.{widest, most_variables}
use Rattle.cfg_core.specs.Graph.{Exit, Graph, spots, block_at}
use Rattle.cfg_core.specs.Rules.{IsGraph}
use Rattle.cfg_core.specs.Shape.{ArmsAlone}
use Rattle.cfg_core.specs.Shown.{SameWalks, SameArrays}
use Rattle.cfg_core.specs.Weights.{WalksWeigh, ops_in, nodes_in}
use Rattle.live_vars.specs.Keeps.{NoMoreLive}
use Rattle.live_vars.specs.Marks.{AreLive}
use Rattle.wave_cut.specs.Cut.{Cut, IsCut, AreWaves}
use Rattle.phi_conv.specs.Joined.{more_vars}
use Rattle.cfg_inline.specs.Inlined.{Plan, inlined}
use Rattle.cfg_inline.specs.Charged.{BlocksCharged}
use Rattle.cfg_inline.specs.Keeps.{SameOrBack, ExitsKept}
use Rattle.cfg_inline.proofs.Placing.{spots_count}
use Rattle.call_gen.specs.Keeps.{NoSend}
use Rattle.call_gen.specs.Sizes.{KeepsSizes}
use Rattle.call_gen.proofs.Ruling.Arms.{shaped_alone}
use Rattle.wave_build.specs.Charges.{charge, base, pay}
use Rattle.wave_build.specs.Passed.{CallsFew, LastGraphs}
use Rattle.wave_build.specs.Prepared.{Begun}
use Rattle.wave_build.specs.Small.{lowered_sizes, joined_sizes, sizes_with}
use Rattle.wave_build.specs.Opened.{Opened, Optimized}
use Rattle.wave_build.proofs.CompilingRuns.{next_shows}
use Rattle.wave_build.proofs.Inlining.{inlined_weighs}
use Rattle.wave_build.proofs.Paying.{joined_costs}
use Rattle.wave_build.proofs.Sizing.{joined_within}
use Rattle.wave_build.proofs.Widening.{inlined_within}

pub joined_opened : (parts : List Part) (g : Graph) → Begun parts g
    → Opened parts (more_vars (most_variables parts)) g
joined_opened parts g B = record {
  costs = joined_costs parts B.lowered g B.lowering B.joining;
  arms = B.joining.arms (shaped_alone B.lowered B.lowering.shape);
  no_send = B.no_send;
  ops = (joined_sizes (lowered_sizes parts)).ops;
  nodes = (joined_sizes (lowered_sizes parts)).nodes;
  sizes = joined_within parts B.lowered g B.lowering B.joining;
  shows = B.shows;
}

still_few : (v : ℕ) (x y : Exit) → SameOrBack x y → CallsFew v x → CallsFew v y
still_few v x y (inl e) few = subst (CallsFew v) (sym e) few
still_few v x y (inr r) few = subst (CallsFew v) (sym r.5) tt

still_none : (x y : Exit) → SameOrBack x y → NoSend x → NoSend y
still_none x y (inl e) none = subst NoSend (sym e) none
still_none x y (inr r) none = subst NoSend (sym r.5) tt

-- what `inline_calls` says of the graph that it makes
module _ (parts : List Part) (plan : Plan) (g h : Graph) (is : h ≡ inlined plan g) (rules : IsGraph h)
    (exits : ExitsKept g h) (arms : ArmsAlone g → ArmsAlone h) (live : NoMoreLive g h)
    (charged : BlocksCharged plan g h) (walks : SameWalks g h) (arrays : SameArrays g h) where
  abbrev V : ℕ
  V = most_variables parts

  as_many : length (spots h) ≡ length (spots g)
  as_many = ap (λ (x : Graph). length (spots x)) is ∙ spots_count plan g

  pub inlined_opened : (vars : ℕ) → 6 * plan.room ≤ 43 * most_variables parts + 174 → Opened parts vars g
      → Opened parts (vars + plan.room) h
  inlined_opened vars few O = record {
    costs = record {
      rules = rules;
      low = λ b x lt l. O.costs.low b x (omega (arith, lt, as_many)) (live b x l);
      calls = λ b. still_few V (block_at g b).exit (block_at h b).exit (exits.exits b) (O.costs.calls b);
      paid = subst (λ (x : Graph). WalksWeigh x (charge V x) (base V) (pay V (widest parts))) (sym is)
          (inlined_weighs V g plan O.costs.rules few (subst (BlocksCharged plan g) is charged) (base V)
          (pay V (widest parts)) O.costs.paid);
    };
    arms = arms O.arms;
    no_send = λ b. still_none (block_at g b).exit (block_at h b).exit (exits.exits b) (O.no_send b);
    ops = ops_in (inlined plan g);
    nodes = nodes_in (inlined plan g);
    sizes = subst (KeepsSizes (sizes_with (vars + plan.room) (ops_in (inlined plan g))
        (nodes_in (inlined plan g)))) (sym is) (inlined_within plan g vars O.ops O.nodes O.sizes);
    shows = next_shows parts g h O.shows walks arrays;
  }

pub last_graphs : (parts : List Part) (g : Graph) (p : Optimized parts g) (live : List (List ℕ)) (cut : Cut)
    → AreLive g live → IsCut g cut → AreWaves g cut → LastGraphs p.given p.kept g p.needed live cut
last_graphs parts g p live cut l c w = record {
  keeping = p.keeping;
  needing = p.needing;
  spelling = p.spelling;
  living = l;
  cutting = c;
  waving = w;
}
