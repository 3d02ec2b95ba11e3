-- How many phases there have been.
use Rattle.std.proofs.Common.{◌≡◌, ◌+◌, ◌<◌, ◌≤◌, ℕ, suc, Bool, true, false, cond, List, ◌∷◌, inl}
use Rattle.std.proofs.Common.{inr, length, length-append, refl, arith}
use Rattle.std.proofs.lemmas.Bool.{cases_lt}
use Rattle.match_table.specs.Growth.{AllGrow}
use Rattle.match_table.proofs.Growth.{all_grow_same, all_grow_on}
use Rattle.match_table.specs.Together.{ServeFrom, all_fired, together}
use Rattle.match_table.specs.Coming.{Came}
use Rattle.match_table.proofs.Coming.{came_keep, came_more, came_none, grow_keep}
use Rattle.fire_crew.specs.Verdicts.{BroughtOne, MovedOn}
use Rattle.match_table.specs.Tables.{TableContent}

-- what is so between two phases, where there have been so many
pub record Steady (old new : List TableContent) (budget phases : ℕ) : Type 0 where
  pub serve : ServeFrom 0 new
  pub within : length (all_fired new) ≤ budget
  pub grow : AllGrow old new
  pub count : ℕ
  pub few : phases ≤ suc count
  pub room : length (all_fired new) < budget → phases ≤ count
  pub came : Came (together old).held (together new).held count

pub steady_start : (cs : List TableContent) (budget : ℕ) → ServeFrom 0 cs → length (all_fired cs) ≤ budget
    → Steady cs cs budget 0
steady_start cs budget s w = grind (arith, all_grow_same, came_none)

-- as many have fired as before, and more
fired_more : (xs ys : List TableContent) → AllGrow xs ys → length (all_fired xs) ≤ length (all_fired ys)
fired_more (x ∷ xs) (y ∷ ys) g = grind (arith, length-append, fired_more xs ys g.1)
fired_more v0 v1 v2 = grind arith

-- tables grow in no phase
pub steady_on : (old mid new : List TableContent) (budget phases : ℕ) → Steady old mid budget phases
    → AllGrow mid new → ServeFrom 0 new → length (all_fired new) ≤ budget → Steady old new budget phases
steady_on old mid new budget phases s grow serve within = grind (
  arith,
  all_grow_on old mid new s.grow grow,
  fired_more mid new grow,
  came_keep (together old).held (together mid).held (together new).held s.count
      s.came (grow_keep mid new grow),
)

-- where tables have grown in no phase
pub steady_left : (old mid new : List TableContent) (budget phases : ℕ) → Steady old mid budget phases
    → AllGrow mid new → MovedOn (together old).held (together new).held phases
steady_left old mid new budget phases s grow = grind (
  arith,
  came_keep (together old).held (together
      mid).held (together new).held s.count s.came (grow_keep mid new grow),
)

-- there has been a phase, or none, and the run has ended
pub steady_end : (old mid new : List TableContent) (budget phases : ℕ) (is_phase : Bool)
    → Steady old mid budget phases → AllGrow mid new
    → (is_phase ≡ true → length (all_fired mid) < budget)
    → MovedOn (together old).held (together new).held (cond is_phase (phases + 1) phases)
steady_end old mid new budget phases true s grow some = grind (
  arith,
  came_keep (together old).held (together
      mid).held (together new).held s.count s.came (grow_keep mid new grow),
)
steady_end old mid new budget phases false s grow some = steady_left old mid new budget phases s grow

-- and it goes on
pub steady_next : (old mid new : List TableContent) (budget phases : ℕ) (is_phase : Bool)
    → Steady old mid budget phases → AllGrow mid new → ServeFrom 0 new → length (all_fired new) ≤ budget
    → (is_phase ≡ true → length (all_fired mid) < budget)
    → (is_phase ≡ true → length (all_fired new) < budget
    → BroughtOne (together mid).held (together new).held)
    → Steady old new budget (cond is_phase (phases + 1) phases)
steady_next old mid new budget phases false s grow serve within some moved = grind (arith, steady_on)
steady_next old mid new budget phases true s grow serve within some moved =
    let n = s.room (some refl) in
    elim (cases_lt (length (all_fired new)) budget) [
      | inl x ↦ (let b = moved refl x in record {
        serve = serve;
        within = within;
        grow = all_grow_on _ _ _ s.grow grow;
        count = suc s.count;
        few = omega (arith, n);
        room = λ r. omega (arith, n);
        came = came_more _ _ _ _ (grow_keep _ _ s.grow) s.came (grow_keep _ _ grow) _ _ _ b.3 b.4;
      })
      | inr x ↦ record {
        serve = serve;
        within = within;
        grow = all_grow_on _ _ _ s.grow grow;
        count = s.count;
        few = omega (arith, n);
        room = λ r. absurd (omega (arith, r, x));
        came = came_keep _ _ _ _ s.came (grow_keep _ _ grow);
      }
    ]

pub counted_most : (b : Bool) (phases round : ℕ) → phases ≤ round → cond b (phases + 1) phases ≤ round + 1
counted_most v0 v1 v2 v3 = grind arith
