-- Edges of plans of a draft lead ahead where they don't lead to the first block of a wave.
use Rattle.std.proofs.Common.{ℕ, zero, suc, ◌<◌, ◌≤◌, List, ◌∷◌, length, sym, ◌∙◌, inl, inr, arith}
use Rattle.std.proofs.lemmas.Bool.{cases_lt, false≢true}
use Rattle.wave_gen.specs.Plans.{HowLeft, Plan, no_plan, plan_at}
use Rattle.wave_gen.specs.Kept.{Ahead, LeadsAhead}
use Rattle.wave_gen.proofs.Planning.Planned.{Outer, EdgesAre, PlansAre}
use Rattle.ws_words.specs.Items.{nth, or_else}

outer_ahead : (ps : List Plan) (b c : ℕ) → Outer ps c → Ahead ps b c
outer_ahead ps b c o e = absurd (false≢true (sym e ∙ o.first))

edges_ahead : (ps : List Plan) (b : ℕ) (x : HowLeft) → EdgesAre ps b x → LeadsAhead ps b x
edges_ahead ps b x e = grind (arith, outer_ahead)

none_ahead : (ps qs : List Plan) (b k : ℕ) → length qs ≤ k → LeadsAhead ps b (or_else (nth qs k) no_plan).exit
unfolding no_plan
none_ahead ps (q ∷ qs) b (suc k) le = none_ahead ps qs b k (omega arith)
none_ahead ps qs b k le = grind arith

past_ahead : (ps : List Plan) (b : ℕ) → length ps < b → LeadsAhead ps b (plan_at ps b).exit
unfolding plan_at
past_ahead ps zero lt = absurd (omega arith)
past_ahead ps (suc b) lt = none_ahead ps ps (suc b) b (omega arith)

zero_ahead : (ps : List Plan) → LeadsAhead ps 0 (plan_at ps 0).exit
unfolding plan_at no_plan
zero_ahead ps = tt

pub plans_lead_ahead : (ps : List Plan) (width : ℕ) (Live : ℕ → ℕ → Type 0) → PlansAre ps width Live → (b : ℕ)
    → LeadsAhead ps b (plan_at ps b).exit
plans_lead_ahead ps width Live are zero = zero_ahead ps
plans_lead_ahead ps width Live are (suc b) = elim (cases_lt b (length ps)) [
  | inl lt ↦ edges_ahead ps (suc b) (plan_at ps (suc b)).exit
      (are.each (suc b) (omega arith, omega arith)).edges
  | inr ge ↦ past_ahead ps (suc b) (omega arith)
]
