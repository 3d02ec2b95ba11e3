-- What the trees of pages say of a name, also where they grow.
use Rattle.std.proofs.Common.{◌≡◌, ◌≢◌, ◌+◌, ◌/◌, ◌⊎◌, ⊎_elim, inl, inr, ℕ, zero, suc, true, false}
use Rattle.std.proofs.Common.{List, Option, Some, None, sym, refl, ap, ◌∙◌, subst, arith}
use Rattle.std.proofs.lemmas.Bool.{cases_eq}
use Rattle.match_table.specs.declared.entry.PageName.{PageName}
use Rattle.match_table.specs.Pages.{IsNamed, Leads, PageContent, Stays, answer_at, has_name}
use Rattle.match_table.specs.Pages.{next_in, next_of, under, walk}
use Rattle.match_table.proofs.Arrivals.{key_cases, some_none}

-- a page has the name, or another
pub named_cases : (p : PageContent) (name : PageName) → ((p.name ≡ name) × (has_name p name ≡ true))
    ⊎ ((p.name ≡ name → ⊥) × (has_name p name ≡ false))
named_cases p name = grind (arith, ⊎_elim, key_cases)

-- one step of a search: there is no page, it has the name, or it has another
pub at_none : (slots : List (Option PageContent)) (n at path : ℕ) (name : PageName) → under slots at ≡ None
    → walk slots (suc n) at path name ≡ Some None
at_none slots n at path name none =
    ap (λ o. answer_at o at name (walk slots n (next_in o path) (path / 2) name)) none

pub at_own : (slots : List (Option PageContent)) (n at path : ℕ) (name : PageName) (p : PageContent)
    → under slots at ≡ Some p → p.name ≡ name → walk slots (suc n) at path name ≡ Some (Some at)
at_own slots n at path name p there own = grind (arith, ⊎_elim, named_cases)

pub at_other : (slots : List (Option PageContent)) (n at path : ℕ) (name : PageName) (p : PageContent)
    → under slots at ≡ Some p → (p.name ≡ name → ⊥)
    → walk slots (suc n) at path name ≡ walk slots n (next_of p path) (path / 2) name
at_other slots n at path name p there other = grind (arith, ⊎_elim, named_cases)

-- what is found is there
pub record FoundAt (slots : List (Option PageContent)) (at : ℕ) : Type 0 where
  pub page : PageContent
  pub there : under slots at ≡ Some page

pub there_or_none : (slots : List (Option PageContent)) (at : ℕ) → (under slots at ≡ None) ⊎ FoundAt slots at
there_or_none slots at = by_case (under slots at) refl
  where
    by_case : (o : Option PageContent) → under slots at ≡ o → (under slots at ≡ None) ⊎ FoundAt slots at
    by_case None e = inl e
    by_case (Some p) e = inr (record { page = p; there = e })

pub begins : (slots : List (Option PageContent)) (n at path k : ℕ) (name : PageName)
    → walk slots n at path name ≡ Some (Some k) → FoundAt slots at
begins slots zero at path k name e = absurd (some_none (Some k) (sym e))
begins slots (suc n) at path k name e = grind (arith, ⊎_elim, there_or_none, at_none)

-- with more steps the answer is the same
pub one_more : (slots : List (Option PageContent)) (n at path : ℕ) (name : PageName) (r : Option ℕ)
    → walk slots n at path name ≡ Some r → walk slots (suc n) at path name ≡ Some r
one_more slots zero at path name r e = absurd (some_none r (sym e))
one_more slots (suc n) at path name r e = ⊎_elim
    (λ (none : under slots at ≡ None).
    at_none slots (suc n) at path name none ∙ sym (at_none slots n at path name none) ∙ e)
    (λ (b : FoundAt slots at). ⊎_elim
    (λ (own : (b.page.name ≡ name) × (has_name b.page name ≡ true)).
    at_own slots (suc n) at path name b.page b.there own.0
    ∙ sym (at_own slots n at path name b.page b.there own.0) ∙ e)
    (λ (other : (b.page.name ≡ name → ⊥) × (has_name b.page name ≡ false)).
    at_other slots (suc n) at path name b.page b.there other.0
    ∙ one_more slots n (next_of b.page path) (path / 2) name r
    (sym (at_other slots n at path name b.page b.there other.0) ∙ e))
    (named_cases b.page name))
    (there_or_none slots at)

-- one step further, where the page has another name and one stands behind it
pub leads_on : (slots : List (Option PageContent)) (root left at path : ℕ) (name : PageName)
    (p r : PageContent)
    → Leads slots root name (suc left) at path → under slots at ≡ Some p → (p.name ≡ name → ⊥)
    → under slots (next_of p path) ≡ Some r → Leads slots root name left (next_of p path) (path / 2)
leads_on slots root left at path name p r so there other behind new more stays =
    let q = stays.page at p there in
    so new more stays
    ∙ ap (λ k. walk new (suc k) at path name)
    (let e : suc left + more ≡ suc (left + more) = omega arith in e)
    ∙ at_other new (suc (left + more)) at path name q.page q.at (λ e. other (sym q.is ∙ e))
    ∙ ap (λ k. walk new (suc (left + more)) k (path / 2) name)
    (stays.behind at path p q.page r there q.at behind)

-- what is found stays found
module _ (old new : List (Option PageContent)) (stays : Stays old new) where
  pub still_found : (n at path k : ℕ) (name : PageName) → walk old n at path name ≡ Some (Some k)
      → walk new n at path name ≡ Some (Some k)
  still_found zero at path k name e = absurd (some_none (Some k) (sym e))
  still_found (suc n) at path k name e =
      let b = begins old (suc n) at path k name e in let q = stays.page at b.page b.there in ⊎_elim
      (λ (own : (b.page.name ≡ name) × (has_name b.page name ≡ true)).
      at_own new n at path name q.page q.at (q.is ∙ own.0)
      ∙ sym (at_own old n at path name b.page b.there own.0) ∙ e)
      (λ (other : (b.page.name ≡ name → ⊥) × (has_name b.page name ≡ false)).
      let f : walk old n (next_of b.page path) (path / 2) name ≡ Some (Some k) =
      sym (at_other old n at path name b.page b.there other.0) ∙ e in
      let r = begins old n (next_of b.page path) (path / 2) k name f in
      at_other new n at path name q.page q.at (λ e'. other.0 (sym q.is ∙ e'))
      ∙ ap (λ j. walk new n j (path / 2) name)
      (stays.behind at path b.page q.page r.page b.there q.at r.there)
      ∙ still_found n (next_of b.page path) (path / 2) k name f)
      (named_cases b.page name)

-- A page is new, with none behind it; what stood behind the others still does, or there was none and it is
-- the new one.
pub record Grown (old new : List (Option PageContent)) (key : ℕ) (v : PageContent) : Type 0 where
  pub fresh : under old key ≡ None
  pub at : under new key ≡ Some v
  pub last : (path : ℕ) → under new (next_of v path) ≡ None
  pub others : (k : ℕ) → k ≢ key → under old k ≡ None → under new k ≡ None
  pub page : (k : ℕ) (p : PageContent) → under old k ≡ Some p → IsNamed new k p.name
  pub behind : (k path : ℕ) (p q : PageContent) → under old k ≡ Some p → under new k ≡ Some q →
      (next_of q path ≡ next_of p path) ⊎ ((under old (next_of p path) ≡ None) × (next_of q path ≡ key))

module _ (old new : List (Option PageContent)) (key : ℕ) (v : PageContent) (g : Grown old new key v) where
  pub grown_stays : Stays old new
  grown_stays = record {
    page = g.page;
    behind = λ k path p q r a b c. ⊎_elim (λ (e : next_of q path ≡ next_of p path). e)
        (λ (none : (under old (next_of p path) ≡ None) × (next_of q path ≡ key)).
        absurd (some_none r (sym c ∙ none.0))) (g.behind k path p q a b);
  }

  -- a search that comes to the new page ends there, or behind it
  pub at_new : (n path : ℕ) (name : PageName)
      → (r : Option ℕ) × (walk new (suc (suc n)) key path name ≡ Some r)
  at_new n path name = ⊎_elim
      (λ (own : (v.name ≡ name) × (has_name v name ≡ true)).
      (Some key, at_own new (suc n) key path name v g.at own.0))
      (λ (other : (v.name ≡ name → ⊥) × (has_name v name ≡ false)). (
        None,
        at_other new (suc n) key path name v g.at other.0
            ∙ at_none new n (next_of v path) (path / 2) name (g.last path),
      ))
      (named_cases v name)

  -- one that ended where there is none still ends
  pub still_ends : (n at path : ℕ) (name : PageName) → walk old n at path name ≡ Some None
      → (r : Option ℕ) × (walk new (suc n) at path name ≡ Some r)
  still_ends zero at path name e = absurd (some_none None (sym e))
  still_ends (suc n) at path name e = ⊎_elim
      (λ (none : under old at ≡ None). ⊎_elim
      (λ (same : at ≡ key).
      subst (λ k. (r : Option ℕ) × (walk new (suc (suc n)) k path name ≡ Some r)) (sym same)
      (at_new n path name))
      (λ (apart : at ≡ key → ⊥). (None, at_none new (suc n) at path name (g.others at apart none)))
      (key_same at))
      (λ (b : FoundAt old at). let q = g.page at b.page b.there in ⊎_elim
      (λ (own : (b.page.name ≡ name) × (has_name b.page name ≡ true)).
      (Some at, at_own new (suc n) at path name q.page q.at (q.is ∙ own.0)))
      (λ (other : (b.page.name ≡ name → ⊥) × (has_name b.page name ≡ false)).
      let f : walk old n (next_of b.page path) (path / 2) name ≡ Some None =
      sym (at_other old n at path name b.page b.there other.0) ∙ e in
      let step : walk new (suc (suc n)) at path name
      ≡ walk new (suc n) (next_of q.page path) (path / 2) name =
      at_other new (suc n) at path name q.page q.at (λ e'. other.0 (sym q.is ∙ e')) in
      behind_it n path (next_of b.page path) (next_of q.page path) name
      (still_ends n (next_of b.page path) (path / 2) name) f
      (g.behind at path b.page q.page b.there q.at) (walk new (suc (suc n)) at path name) step)
      (named_cases b.page name))
      (there_or_none old at)
    where
      key_same : (k : ℕ) → (k ≡ key) ⊎ (k ≡ key → ⊥)
      key_same k = grind (arith, ⊎_elim, cases_eq)

      behind_it : (n path was now : ℕ) (name : PageName)
          → (walk old n was (path / 2) name ≡ Some None
          → (r : Option ℕ) × (walk new (suc n) was (path / 2) name ≡ Some r))
          → walk old n was (path / 2) name ≡ Some None
          → (now ≡ was) ⊎ ((under old was ≡ None) × (now ≡ key)) → (o : Option (Option ℕ))
          → o ≡ walk new (suc n) now (path / 2) name → (r : Option ℕ) × (o ≡ Some r)
      behind_it zero path was now name on f c o step = absurd (some_none None (sym f))
      behind_it (suc n) path was now name on f (inl same) o step =
          let r = on f in (r.0, step ∙ ap (λ k. walk new (suc (suc n)) k (path / 2) name) same ∙ r.1)
      behind_it (suc n) path was now name on f (inr none) o step =
          let r = at_new n (path / 2) name in
          (r.0, step ∙ ap (λ k. walk new (suc (suc n)) k (path / 2) name) none.1 ∙ r.1)
