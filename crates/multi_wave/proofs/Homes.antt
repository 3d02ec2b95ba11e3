-- Threads whose tables are behind locks, and at home again.
use Rattle.std.proofs.Common.{ℕ, ◌≡◌, ◌+◌, ◌<◌, ◌≤◌, List, length, refl, sym, ap, ◌∙◌, subst, arith}
use Rattle.match_table.specs.Rows.{Fits, RestOf}
use Rattle.match_table.proofs.Growth.{all_grow_same}
use Rattle.match_table.proofs.Phased.{rest_all, rest_home}
use Rattle.multi_wave.specs.Fours.{EachIs, EachTo, Fourfold}
use Rattle.multi_wave.specs.Stands.{CameHome, HasTables, Housed, IsFit, IsOut}

out_start : (was now : Housed) → now ≡ was → IsFit now → IsOut 0 was now
out_start was now e fits = record {
  rest = rest_all was.tables was.limits now.tables (ap (λ (h : Housed). h.tables) e)
      (subst (λ (most : List ℕ). Fits now.tables most) (ap (λ (h : Housed). h.limits) e) fits);
  limits = ap (λ (h : Housed). h.limits) e;
  taker = ap (λ (h : Housed). h.taker) e;
  there = omega arith;
}

pub all_out : (was now : Fourfold Housed) → now ≡ was → EachIs IsFit now → EachTo (IsOut 0) was now
all_out was now e fits = (
  out_start was.first now.first (ap (λ (h : Fourfold Housed). h.first) e) fits.0,
  out_start was.second now.second (ap (λ (h : Fourfold Housed). h.second) e) fits.1,
  out_start was.third now.third (ap (λ (h : Fourfold Housed). h.third) e) fits.2,
  out_start was.fourth now.fourth (ap (λ (h : Fourfold Housed). h.fourth) e) fits.3,
)

-- the next table goes out
pub out_next : (n : ℕ) (was old now : Housed) → IsOut n was old → n < length was.tables
    → RestOf was.tables was.limits (n + 1) now.tables → now.limits ≡ old.limits → now.taker ≡ old.taker
    → IsOut (n + 1) was now
out_next n was old now out lt rest limits taker = record {
  rest = rest;
  limits = limits ∙ out.limits;
  taker = taker ∙ out.taker;
  there = omega (arith, lt);
}

-- the last comes back
pub out_back : (n : ℕ) (was old now : Housed) → IsOut (n + 1) was old
    → RestOf was.tables was.limits n now.tables → now.limits ≡ old.limits → now.taker ≡ old.taker
    → IsOut n was now
out_back n was old now out rest limits taker = record {
  rest = rest;
  limits = limits ∙ out.limits;
  taker = taker ∙ out.taker;
  there = (let lt = out.there in omega (arith, lt));
}

-- the same by another name of the number
pub out_at : (n m : ℕ) (was now : Fourfold Housed) → m ≡ n → EachTo (IsOut n) was now
    → EachTo (IsOut m) was now
out_at n m was now e out = subst (λ (k : ℕ). EachTo (IsOut k) was now) (sym e) out

-- who has so many tables has fewer
pub enough : (n m : ℕ) (was : Fourfold Housed) → m ≤ n → EachIs (HasTables n) was → EachIs (HasTables m) was
enough n m was le h =
    let first = h.0 in
    let second = h.1 in
    let third = h.2 in
    let fourth = h.3 in
    (omega (arith, le, first), omega (arith, le, second), omega (arith, le, third), omega (arith, le, fourth))

came_home : (n : ℕ) (was now : Housed) → n ≡ 0 → IsOut n was now → CameHome was now
came_home n was now none out =
    let home = rest_home was.tables was.limits n now.tables none out.rest in
    record {
      fits = subst (λ (most : List ℕ). Fits now.tables most) (sym out.limits) home.0;
      grow = home.1;
      taker = out.taker;
    }

pub all_home : (n : ℕ) (was now : Fourfold Housed) → n ≡ 0 → EachTo (IsOut n) was now
    → EachTo CameHome was now
all_home n was now none out = (
  came_home n was.first now.first none out.0,
  came_home n was.second now.second none out.1,
  came_home n was.third now.third none out.2,
  came_home n was.fourth now.fourth none out.3,
)

stays_home : (was : Housed) → IsFit was → CameHome was was
stays_home was fits = record { fits = fits; grow = all_grow_same was.tables; taker = refl }

-- they have never gone out
pub all_stay_home : (was now : Fourfold Housed) → now ≡ was → EachIs IsFit was → EachTo CameHome was now
all_stay_home was now e fits = subst (λ (h : Fourfold Housed). EachTo CameHome was h) (sym e) (
  stays_home was.first fits.0,
  stays_home was.second fits.1,
  stays_home was.third fits.2,
  stays_home was.fourth fits.3,
)
