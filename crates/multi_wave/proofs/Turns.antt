-- Threads over a phase, and how many phases there have been.
use Rattle.std.proofs.Common.{ℕ, ◌≡◌, ◌+◌, ◌-◌, ◌*◌, ◌<◌, ◌≤◌, ◌⊎◌, ◌∙◌, List, Option, Some, None}
use Rattle.std.proofs.Common.{true, inl, inr, length, sym, subst, arith}
use Rattle.ws_words.specs.Outside.{World}
use Rattle.ws_isa.specs.Image.{Image, Token}
use Rattle.match_table.specs.Growth.{AllGrow}
use Rattle.match_table.specs.Tables.{TableContent}
use Rattle.match_table.specs.Together.{AllServe, part_of, together}
use Rattle.match_table.proofs.Growth.{all_grow_on}
use Rattle.fire_crew.proofs.Phases.{Steady, steady_next, steady_start}
use Rattle.multi_wave.specs.Fours.{EachIs, EachTo, Fourfold}
use Rattle.multi_wave.specs.Parts.{Alone, CostsAtMost, image_in, world_in}
use Rattle.multi_wave.specs.Stands.{EndTold}
use Rattle.multi_wave.specs.Stands.{ApartSo, CameHome, HasCome, Housed, IsApart, IsJoined}
use Rattle.multi_wave.specs.Stands.{IsJudged, IsJudgedOf, IsOver, JoinedSo, MovesTo, On, Off, Stand, StaysAs}
use Rattle.multi_wave.specs.Stands.{Taker}

pub some_may_fire : (left fired budget : ℕ) → left ≡ fired → 0 < budget - left → fired < budget
some_may_fire left fired budget e lt = omega (arith, e, lt)

-- a thread taken apart and put together, whose tables have grown meanwhile
moved_by : (old new : Stand) (was now : List TableContent) (taker : Option Taker) (end : Option EndTold)
    → ApartSo old was taker end → AllGrow was now → JoinedSo now taker end new → MovesTo old new
moved_by (On g) (On h) was now (Some t) end a grow j = record {
  grow = all_grow_on g.tables now h.tables
      (subst (λ (ts : List TableContent). AllGrow ts now) a.0 grow) j.grow;
  budget_is = sym a.2 ∙ j.budget_is;
  come = λ lt. subst (λ (t : Option Token). HasCome t h.tables) a.1 (j.come lt);
}
moved_by (On g) (Off e) was now (Some t) end a grow j = tt
moved_by (On g) new was now None end a grow j = subst (λ (s : Stand). MovesTo (On g) s) j tt
moved_by (Off e) new was now taker end a grow j =
    subst (λ (x : Option Taker × Option EndTold). JoinedSo now x.0 x.1 new) (λ i. (a.0 i, a.1 i)) j

pub moved : (old new : Stand) (was now : Housed) (end : Option EndTold) → IsApart old was end
    → CameHome was now → IsJoined now end new → MovesTo old new
moved old new was now end a c j = moved_by old new was.tables now.tables was.taker end a c.grow
    (subst (λ (t : Option Taker). JoinedSo now.tables t end new) c.taker j)

-- of a thread that goes on, where there have been so many phases
abbrev pub InStep : ℕ → Stand → Type 0
InStep phases (On g) = AllServe g.tables → length (part_of g.tables).fired ≤ g.budget
    → (old : List TableContent) × Steady old g.tables g.budget phases
InStep phases (Off end) = Unit {0}

pub in_step_start : (lane : Stand) → InStep 0 lane
in_step_start (On g) = λ serve within. (g.tables, steady_start g.tables g.budget serve within)
in_step_start (Off end) = tt

in_step_stays : (phases : ℕ) (lane new : Stand) → StaysAs lane new → InStep phases lane → InStep phases new
in_step_stays phases (On g) (On h) s f = subst
    (λ (x : List TableContent × ℕ). AllServe x.0 → length (part_of x.0).fired ≤ x.1
    → (old : List TableContent) × Steady old x.0 x.1 phases) (λ i. (s.0 i, s.1 i)) f
in_step_stays phases (On g) (Off end) s f = tt
in_step_stays phases (Off end) new s f = subst (λ (x : Stand). InStep phases x) s tt

in_step_more : (image : Image) (world : World) (phases : ℕ) (lane new : Stand) → IsJudged image world lane
    → MovesTo lane new → InStep phases lane → InStep (phases + 1) new
in_step_more image world phases (On g) (On h) n m f = λ serve within.
    let room = n.room in
    let r = f n.serve (omega (arith, room)) in (
      r.0,
      steady_next r.0 g.tables h.tables h.budget phases true
          (subst (λ (x : ℕ). Steady r.0 g.tables x phases) m.budget_is r.1) m.grow serve within
          (λ _. (let e = m.budget_is in omega (arith, e, room)))
          (λ _ lt. (
            n.token.wave,
            n.token.instr,
            n.token.port,
            n.missing,
            subst (λ (t : Option Token). HasCome t h.tables) n.named (m.come lt),
          )),
    )
in_step_more image world phases (On g) (Off end) n m f = tt
in_step_more image world phases (Off end) new n m f = subst (λ (x : Stand). InStep (phases + 1) x) m tt

-- in a thread that goes on no more phases have been than tokens have come
going_few : (phases cost : ℕ) (part : Option Alone) (lane : Stand) → IsJudgedOf part lane
    → CostsAtMost cost part → InStep phases lane → IsOver lane ⊎ (phases ≤ 3 * cost)
going_few phases cost part (On g) n most f =
    let room = n.room in
    let r = f n.serve (omega (arith, room)) in
    let few = r.1.room room in
    let many = n.few (together r.0).held r.1.count cost r.1.came most in
    inr (omega (arith, few, many))
going_few phases cost part (Off end) n most f = inl tt

-- one of four goes on
one_of_four : {A B C D : Type 0} (n m : ℕ) → A ⊎ (n ≤ m) → B ⊎ (n ≤ m) → C ⊎ (n ≤ m) → D ⊎ (n ≤ m)
    → (A × B × C × D → ⊥) → n ≤ m
one_of_four n m (inr x) b c d h = x
one_of_four n m (inl x) (inr y) c d h = y
one_of_four n m (inl x) (inl y) (inr z) d h = z
one_of_four n m (inl x) (inl y) (inl z) (inr w) h = w
one_of_four n m (inl x) (inl y) (inl z) (inl w) h = absurd (h (x, y, z, w))

-- of four threads
module _ (phases : ℕ) (parts : Fourfold (Option Alone)) (lanes : Fourfold Stand)
    (settled : EachTo IsJudgedOf parts lanes) (step : EachIs (InStep phases) lanes) where
  pub all_more : (new : Fourfold Stand) → EachTo MovesTo lanes new → EachIs (InStep (phases + 1)) new
  all_more new m = (
    more parts.first lanes.first new.first settled.0 m.0 step.0,
    more parts.second lanes.second new.second settled.1 m.1 step.1,
    more parts.third lanes.third new.third settled.2 m.2 step.2,
    more parts.fourth lanes.fourth new.fourth settled.3 m.3 step.3,
  )
    where
      more : (part : Option Alone) (lane new : Stand) → IsJudgedOf part lane → MovesTo lane new
          → InStep phases lane → InStep (phases + 1) new
      more part = in_step_more (image_in part) (world_in part) phases

  pub all_few : (cost : ℕ) → EachIs (CostsAtMost cost) parts → (EachIs IsOver lanes → ⊥) → phases ≤ 3 * cost
  all_few cost most goes = one_of_four phases (3 * cost)
      (going_few phases cost parts.first lanes.first settled.0 most.0 step.0)
      (going_few phases cost parts.second lanes.second settled.1 most.1 step.1)
      (going_few phases cost parts.third lanes.third settled.2 most.2 step.2)
      (going_few phases cost parts.fourth lanes.fourth settled.3 most.3 step.3) goes

pub all_stay : (phases : ℕ) (lanes new : Fourfold Stand) → EachTo StaysAs lanes new
    → EachIs (InStep phases) lanes → EachIs (InStep phases) new
all_stay phases lanes new s step = (
  in_step_stays phases lanes.first new.first s.0 step.0,
  in_step_stays phases lanes.second new.second s.1 step.1,
  in_step_stays phases lanes.third new.third s.2 step.2,
  in_step_stays phases lanes.fourth new.fourth s.3 step.3,
)
