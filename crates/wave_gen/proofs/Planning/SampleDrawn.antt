-- The sample's plans make a draft, and are drawn from its graph.
use Rattle.std.proofs.Common.{ℕ, zero, suc, ◌≡◌, ◌≤◌, ◌<◌, true, false, [], ◌∷◌, refl, arith}
use Rattle.std.proofs.lemmas.Bool.{both_ways}
use Rattle.cfg_core.specs.Graph.{spot_at}
use Rattle.wave_gen.specs.Plans.{plan_at, pulse}
use Rattle.wave_gen.proofs.Planning.Planned.{PlanIs, Inner}
use Rattle.wave_gen.proofs.Planning.DrawnPlans.{BlockDrawn, Keeps, here}
use Rattle.wave_gen.proofs.Planning.Samples.{asks, asks_plans, asks_live, asks_place, asks_zeroed}
use Rattle.ws_words.specs.Items.{In}

live_pulse : (b x : ℕ) → x ≡ 0 → asks_live b x ≡ true
live_pulse b x e = rw e refl

live_a : (b x : ℕ) → x ≡ 2 → asks_live (suc (suc b)) x ≡ true
live_a b x e = rw e refl

few : (b x : ℕ) → asks_live b x ≡ true → x < 3
few b x e = grind (arith, both_ways)

-- before the branch, but for a
before : (b x : ℕ) → (x ≡ 2 → ⊥) → asks_live b x ≡ true → asks_live 1 x ≡ true
before b x n e = grind arith

alike : (b c x : ℕ) → asks_live (suc (suc b)) x ≡ true → asks_live (suc (suc c)) x ≡ true
alike b c x e = grind arith

only : (x y : ℕ) → In x (y ∷ []) → x ≡ y
only x y h = grind arith

first_entry : (x : ℕ) → asks_live 1 x ≡ true → In x (pulse ∷ [])
first_entry x e = grind (arith, both_ways)

inner : (b c : ℕ) → b < c → c ≤ 4 → (plan_at asks_plans c).first ≡ false
    → (plan_at asks_plans c).wave ≡ (plan_at asks_plans b).wave → Inner asks_plans b c
inner b c l u f w = record { later = l; there = u; not_first = f; wave = w }

each : (b : ℕ) → (1 ≤ b) × (b ≤ 4) → PlanIs asks_plans 3 (λ b x. asks_live b x ≡ true) b
unfolding plan_at
each b h = grind (arith, inner, live_pulse, only, before, few, first_entry, alike, both_ways, live_a)

not_first : (b : ℕ) → suc (suc b) ≤ 4 → (plan_at asks_plans (suc (suc b))).first ≡ true → ⊥
unfolding plan_at
not_first b l e = grind (arith, both_ways)

one_wave : (b : ℕ) → suc (suc b) ≤ 4 → (plan_at asks_plans (suc (suc b))).wave
    ≡ (plan_at asks_plans (suc b)).wave
unfolding plan_at
one_wave b l = grind arith

keeps : (n c : ℕ) → n ≡ suc c → Keeps asks_plans asks_place asks_zeroed n c
keeps n c e = record { leads = here e; none = refl }

blocks : (b : ℕ) → b < 4 → BlockDrawn asks asks_plans 3 asks_place asks_zeroed b
unfolding plan_at spot_at
blocks zero l = grind (arith, keeps)
blocks (suc zero) l = grind (arith, keeps)
blocks (suc (suc zero)) l = grind (arith, keeps)
blocks (suc (suc (suc zero))) l = grind arith
blocks (suc (suc (suc (suc b)))) l = absurd (omega arith)
