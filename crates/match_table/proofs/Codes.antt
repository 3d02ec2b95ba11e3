-- Codes of values, and the values that they stand for.
use Rattle.std.proofs.Common.{◌-◌, ◌≡◌, ◌+◌, ◌<◌, ◌≤◌, ◌++◌, nat_lt, ℕ, Bool, true, false, cond, List, ◌∷◌}
use Rattle.std.proofs.Common.{[], Option, Some, None, length, refl, ap, sym, ◌∙◌, subst, ⊎_elim, arith}
use Rattle.std.specs.Prelude.{slice_index}
use Rattle.std.proofs.Math.ListN.{get_or-append}
use Rattle.std.proofs.Math.Seq.{get_or-append_seam}
use Rattle.std.proofs.lemmas.Bool.{cases_lt}
use Rattle.df_core.specs.Core.{same_key}
use Rattle.match_table.specs.declared.entry.Half.{Half}
use Rattle.match_table.specs.Pages.{AllCoded, IsCoded, PageContent, all_values, narrow, seen_in, value_of}
use Rattle.match_table.specs.Pages.{values_of}
use Rattle.match_table.specs.Ports.{with_half}
use Rattle.ws_words.proofs.Options.{some_same}

-- a narrow value is its own code
pub own_value : (wide : List ℕ) (v : ℕ) → v < narrow → value_of wide v ≡ v
own_value wide v lt = grind arith

-- a wide value that is listed last
pub last_value : (wide : List ℕ) (v : ℕ) → value_of (wide ++ v ∷ []) (narrow + length wide) ≡ v
last_value wide v = ap (λ b. cond b (narrow + length wide)
    (slice_index (wide ++ v ∷ []) (narrow + length wide - narrow))) (high (length wide))
    ∙ ap (slice_index (wide ++ v ∷ [])) (back (length wide)) ∙ get_or-append_seam wide v [] 0
  where
    high : (n : ℕ) → nat_lt (narrow + n) narrow ≡ false
    high n = grind arith

    back : (n : ℕ) → narrow + n - narrow ≡ n
    back n = omega arith

-- a list that goes on gives the same values
still_value : (wide more : List ℕ) (code : ℕ) → code < narrow + length wide
    → value_of (wide ++ more) code ≡ value_of wide code
still_value wide more code lt = ⊎_elim
    (λ (low : code < narrow). own_value (wide ++ more) code low ∙ sym (own_value wide code low))
    (λ (high : narrow ≤ code). ap (λ x. cond (nat_lt code narrow) code x)
    (get_or-append wide more 0 (code - narrow) (omega (arith, lt, high))))
    (cases_lt code narrow)

pub still_values : (wide more : List ℕ) (o : Option Half) → ((h : Half) → o ≡ Some h → IsCoded wide h)
    → all_values (wide ++ more) o ≡ all_values wide o
still_values wide more None within = refl
still_values wide more (Some h) within = let w = within h refl in
    λ j. Some (record {
      had = h.had;
      first = still_value wide more h.first w.0 j;
      second = still_value wide more h.second w.1 j;
    })

-- the values of a half with one more
values_with : (wide : List ℕ) (o : Option Half) (p code : ℕ)
    → values_of wide (with_half o p code) ≡ with_half (all_values wide o) p (value_of wide code)
values_with wide o p code = grind arith

-- of a port behind the second there is none
pub no_value : (o : Option Half) (p v w : ℕ) → 1 < p → with_half o p v ≡ with_half o p w
no_value o p v w lt = grind arith

-- what has come, by values, where one code has come more
pub more_values : (was wide : List ℕ) (slots new : List (Option PageContent)) (w h p code v : ℕ)
    → ((a b : ℕ) → all_values wide (seen_in slots a b) ≡ all_values was (seen_in slots a b))
    → ((o : Option Half) → with_half o p (value_of wide code) ≡ with_half o p v)
    → ((a b : ℕ) → seen_in new a b ≡ cond (same_key w h a b) (Some (with_half (seen_in slots w h) p code))
    (seen_in slots a b)) →
    (a b : ℕ) → all_values wide (seen_in new a b) ≡ cond (same_key w h a b)
    (Some (with_half (all_values was (seen_in slots w h)) p v)) (all_values was (seen_in slots a b))
more_values was wide slots new w h p code v still same is a b =
    ap (all_values wide) (is a b) ∙ go (same_key w h a b)
  where
    go : (t : Bool)
        → all_values wide (cond t (Some (with_half (seen_in slots w h) p code)) (seen_in slots a b))
        ≡ cond t (Some (with_half (all_values was (seen_in slots w h)) p v))
        (all_values was (seen_in slots a b))
    go true = ap Some (values_with wide (seen_in slots w h) p code
        ∙ same (all_values wide (seen_in slots w h))
        ∙ ap (λ o. with_half o p v) (still w h))
    go false = still a b

-- each code stays one of a list
with_within : (wide : List ℕ) (o : Option Half) (p code : ℕ) → ((h : Half) → o ≡ Some h → IsCoded wide h)
    → code < narrow + length wide → IsCoded wide (with_half o p code)
with_within wide None p code within lt = grind arith
with_within wide (Some h) p code within lt = let w = within h refl in grind (arith, w.0, w.1)

pub more_within : (wide : List ℕ) (slots new : List (Option PageContent)) (w h p code : ℕ)
    → AllCoded wide slots → code < narrow + length wide
    → ((a b : ℕ) → seen_in new a b ≡ cond (same_key w h a b) (Some (with_half (seen_in slots w h) p code))
    (seen_in slots a b)) → AllCoded wide new
more_within wide slots new w h p code within lt is a b half there =
    go (same_key w h a b) (sym (is a b) ∙ there)
  where
    go : (t : Bool) → cond t (Some (with_half (seen_in slots w h) p code)) (seen_in slots a b) ≡ Some half
        → IsCoded wide half
    go true e = subst (IsCoded wide) (some_same e)
        (with_within wide (seen_in slots w h) p code (within w h) lt)
    go false e = within a b half e

-- the same halves have come
pub same_within : (wide : List ℕ) (slots new : List (Option PageContent)) → AllCoded wide slots
    → ((a b : ℕ) → seen_in new a b ≡ seen_in slots a b) → AllCoded wide new
same_within wide slots new within same a b half there = within a b half (sym (same a b) ∙ there)
