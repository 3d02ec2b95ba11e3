-- Which options words give, and what is found of their budget.
use Rattle.std.proofs.Common.{arith, ◌≡◌, ℕ, true, false, Bool, IsTrue, List, [], ◌∷◌, Option, Some, None}
use Rattle.std.proofs.Common.{option_map, refl, sym, ap, ◌∙◌, subst}
use Rattle.std.specs.Prelude.{◌-◌, ◌^◌, is_some, unwrap_or}
use Rattle.ws_words.specs.Digits.{is_number, value_of}
use Rattle.clap.specs.Matches.{first_value}
use Rattle.clap.specs.declared.parser.matches.Found.{Found}
use Rattle.wsc_words.specs.declared.key.Key.{Key}
use Rattle.wsc_words.specs.declared.key.Key.TheVariants.{Number, Budget, Memory, Stats}
use Rattle.wsc_words.specs.Lines.{Given, Gives, end, flag, apart, behind, alone, IsKeyOf, name_of, is_flag}
use Rattle.wsc_words.specs.Lines.{is_same, text_of, with_given}
use Rattle.wsc_words.specs.Parsers.{AreDigits, Tells}
use Rattle.wsc_words.proofs.Keys.{by_bool, by_option, same_is}
use Rattle.stream_run.specs.declared.options.Options.{Options}
use Rattle.stream_top.specs.Lines.{keys, options_of, IsBudget, HasBudget, BudgetIs, NoBudget}

-- an option that has a text is one of these
abbrev IsKnown : List Key → Key → List Given → Type 0
IsKnown all k given = (text : List ℕ) → text_of k given ≡ Some text → IsKeyOf k all

known_more : (all : List Key) (k j : Key) (given : List Given) (more : List ℕ) → IsKeyOf j all
    → IsKnown all k given → IsKnown all k (with_given given j more)
known_more all k j [] more h p text e = by_bool (is_same j k)
    (λ s. subst (λ (i : Key). IsKeyOf i all) (same_is j k s) h)
    (λ s. absurd (cc (rw s at e)))
known_more all k j (g ∷ given) more h p text e = by_bool (is_same g.key k)
    (λ s. p text (rw s (rw s at e)))
    (λ s. known_more all k j given more h (λ found is. p found (rw s is)) text (rw s at e))

all_known : (all : List Key) (k : Key) {given found : List Given} {words : List (List ℕ)}
    → Gives all given words found → IsKnown all k given → IsKnown all k found
all_known all k end p = p
all_known all k (flag j f n r) p = all_known all k r (known_more all k j _ _ n.known p)
all_known all k (apart j t f m n r) p = all_known all k r (known_more all k j _ _ n.known p)
all_known all k (behind j t f m n r) p = all_known all k r (known_more all k j _ _ n.known p)
all_known all k (alone t n r) p = all_known all k r (known_more all k Number _ _ n.known p)

alone_numbered : (k : Key) → is_flag k ≡ false → IsKeyOf k keys → k ≡ Budget
alone_numbered k f h = grind arith

-- where the budget is a word, all that is given is in digits
pub in_digits : (words : List (List ℕ)) (given : List Given) → Gives keys [] words given → HasBudget given
    → AreDigits given
in_digits words given g h k text f e =
    let known = all_known keys k g (λ t n. absurd (cc)) text e in
    (h text (subst (λ (i : Key). text_of i given ≡ Some text) (alone_numbered k f known) e)).0

budget_is : (o : Option (List ℕ)) (n : ℕ) → BudgetIs o n
    → n ≡ unwrap_or (option_map value_of o) (2 ^ 64 - 1)
budget_is o n h = grind arith

a_budget : (o : Option (List ℕ)) (n : ℕ) (text : List ℕ) → BudgetIs o n → o ≡ Some text → IsBudget text
a_budget o n text h e = grind arith

module _ (found : Found) (given : List Given) (tells : Tells found given) where
  told : (n : ℕ) → BudgetIs (first_value found (name_of Budget)) n → BudgetIs (text_of Budget given) n
  told n h = subst (λ (o : Option (List ℕ)). BudgetIs o n) (tells.texts Budget refl) h

  pub has_budget : (n : ℕ) → BudgetIs (first_value found (name_of Budget)) n → HasBudget given
  has_budget n h text e = a_budget (text_of Budget given) n text (told n h) e

  pub options_are : (n : ℕ) (m s : Bool) → BudgetIs (first_value found (name_of Budget)) n
      → m ≡ is_some (text_of Memory given) → s ≡ is_some (text_of Stats given)
      → ◌≡◌ {A = Options} (record { budget = n; memory = m; stats = s }) (options_of given)
  options_are n m s h hm hs = rw (budget_is (text_of Budget given) n (told n h), hm, hs) refl

  pub no_budget : NoBudget (first_value found (name_of Budget)) → HasBudget given → ⊥
  no_budget h has =
      let n = subst (λ (o : Option (List ℕ)). NoBudget o) (tells.texts Budget refl) h in
      by_option (text_of Budget given) (λ e. rw e at n) (λ t e. (rw e at n) (has t e))
