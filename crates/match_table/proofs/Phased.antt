-- Tables that leave their list by number, and come back by number.
use Rattle.std.proofs.Common.{◌≡◌, ◌+◌, ◌<◌, ◌≤◌, ℕ, zero, suc, List, [], ◌∷◌, ◌++◌, length}
use Rattle.std.proofs.Common.{None, slice_index, slice_index_or, slice_set, ap, subst, arith}
use Rattle.std.proofs.lemmas.Bool.{cases_lt}
use Rattle.std.proofs.lemmas.List.{length-set, get_or_read, get_or-set_same, get_or-set_other}
use Rattle.match_table.specs.Tables.{held, TableContent}
use Rattle.match_table.specs.Limits.{Serves}
use Rattle.match_table.specs.Growth.{AllGrow, content_at}
use Rattle.match_table.specs.Rows.{FitFrom, InPhase, RestOf}
use Rattle.match_table.proofs.Growth.{grows_same}
use Rattle.match_table.proofs.Served.{fresh_serves}

-- tables that no token has come to
abbrev pub Fresh : List TableContent → Type 0
Fresh [] = Unit {0}
Fresh (c ∷ cs) = ((w i p : ℕ) → held c w i p ≡ None) × (c.fired ≡ []) × Fresh cs

pub fresh_more : (cs : List TableContent) (c : TableContent) → Fresh cs → ((w i p : ℕ) → held c w i p ≡ None)
    → c.fired ≡ [] → Fresh (cs ++ c ∷ [])
fresh_more [] c f none e = (none, e, tt)
fresh_more (d ∷ cs) c f none e = (f.0, f.1, fresh_more cs c f.2 none e)

pub fresh_fit : (k : ℕ) (cs : List TableContent) → Fresh cs → (most : List ℕ) → FitFrom k cs most
fresh_fit k [] f most = tt
fresh_fit k (c ∷ cs) f most = grind (arith, fresh_serves, fresh_fit (suc k) cs f.2 most)

-- none of them holds anything
pub fresh_empty : (cs : List TableContent) → Fresh cs → (k w i p : ℕ) → k < length cs
    → held (content_at cs k) w i p ≡ None
fresh_empty [] f k w i p lt = absurd (omega (arith, lt))
fresh_empty (c ∷ cs) f zero w i p lt = f.0 w i p
fresh_empty (c ∷ cs) f (suc k) w i p lt = fresh_empty cs f.2 k w i p (omega (arith, lt))

fit_at : (n : ℕ) (cs : List TableContent) (most : List ℕ) (k : ℕ) → FitFrom n cs most → k < length cs
    → Serves (n + k) (content_at cs k) × (length (content_at cs k).fired ≤ slice_index most (n + k))
fit_at n (c ∷ cs) most (suc k) f lt =
    grind (arith, slice_index, fit_at (suc n) cs most k f.2 (omega (arith, lt)))
fit_at n cs most k f lt = grind (arith, slice_index)

home_from : (most : List ℕ) (n : ℕ) (olds cs : List TableContent) → length cs ≡ length olds
    → ((k : ℕ) → k < length cs → InPhase most (n + k) (content_at olds k) (content_at cs k))
    → FitFrom n cs most × AllGrow olds cs
home_from most n [] [] e each = (tt, tt)
home_from most n [] (c ∷ cs) e each = absurd (omega (arith, e))
home_from most n (o ∷ olds) [] e each = absurd (omega (arith, e))
home_from most n (o ∷ olds) (c ∷ cs) e each =
    let h : InPhase most n o c = rw (← let e : n + 0 ≡ n = omega arith in e) (each 0 (omega arith)) in
    let r = home_from most (suc n) olds cs (omega (arith, e)) (λ k lt.
    rw (← let e : n + suc k ≡ suc n + k = omega arith in e) (each (suc k) (omega (arith, lt)))) in
    ((h.0, h.1, r.0), (h.2, r.1))

module _ (began : List TableContent) (most : List ℕ) where
  pub rest_all : (cs : List TableContent) → cs ≡ began → FitFrom 0 cs most → RestOf began most 0 cs
  rest_all cs e f = record {
    count = ap length e;
    each = λ k le lt. (let h = fit_at 0 cs most k f lt in
        rw (← ap (λ (xs : List TableContent). content_at xs k) e)
        (subst (λ (m : ℕ). InPhase most m (content_at cs k) (content_at cs k))
        (let z : 0 + k ≡ k = omega arith in z) (h.0, h.1, grows_same (content_at cs k))));
  }

  -- the next of them, read where it stands
  pub rest_next : (n : ℕ) (old cs : List TableContent) (c now : TableContent) → RestOf began most n old
      → cs ≡ old → n < length began → now ≡ slice_index_or cs n now → c ≡ now
      → InPhase most n (content_at began n) c
  rest_next n old cs c now s same lt read is = grind (arith, get_or_read, s.each)

  pub rest_out : (n : ℕ) (cs new : List TableContent) (c : TableContent) → RestOf began most n cs
      → new ≡ slice_set cs n c → RestOf began most (n + 1) new
  rest_out n cs new c s e = grind (arith, length-set, get_or-set_other, s.each)

  pub rest_back : (n : ℕ) (cs new : List TableContent) (c : TableContent) → RestOf began most (n + 1) cs
      → InPhase most n (content_at began n) c → new ≡ slice_set cs n c → RestOf began most n new
  rest_back n cs new c s h e =
      grind (arith, length-set, cases_lt, get_or-set_other, s.each, slice_set, get_or-set_same)

  pub rest_home : (n : ℕ) (cs : List TableContent) → n ≡ 0 → RestOf began most n cs
      → FitFrom 0 cs most × AllGrow began cs
  rest_home n cs none s = home_from most 0 began cs s.count (grind (arith, s.each))
