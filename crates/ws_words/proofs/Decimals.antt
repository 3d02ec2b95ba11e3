-- The digits that a number is written with.
use Rattle.std.proofs.Common.{ℕ, ◌+◌, ◌%◌, ◌^◌, ◌≡◌, ◌<◌, true, false, List, [], ◌∷◌, ◌++◌, decimal, refl}
use Rattle.std.proofs.Common.{sym, ◌∙◌, arith}
use Rattle.std.specs.List.{list_all}
use Rattle.std.proofs.lemmas.Bool.{and_from, true≢false}
use Rattle.std.proofs.lemmas.Bool.Decides.{nat_tests}
use Rattle.std.proofs.lemmas.List.Folds.{list_all-append}
use Rattle.std.proofs.lemmas.Fmt.{decimal_by_steps}
use Rattle.ws_words.specs.Digits.{is_digit, is_number, value_of}
use Rattle.ws_words.specs.Letters.{is_letter, is_word_byte}
use Rattle.ws_words.proofs.Bools.{and_parts, or_left}
use Rattle.ws_words.proofs.Lists.{value_from-append}
use Rattle.ws_words.proofs.Numbers.{is_digit_of}

pub more_digits : (ds : List ℕ) (n : ℕ) → n < 10 → is_number ds ≡ true → is_number (ds ++ (48 + n) ∷ [])
    ≡ true
more_digits [] n h k = absurd (true≢false (sym k))
more_digits (b ∷ bytes) n h k =
    let parts = and_parts (is_digit b) (list_all is_digit bytes) k in
    let all = list_all-append is_digit bytes ((48 + n) ∷ []) in
    and_from (is_digit b) (list_all is_digit (bytes ++ (48 + n) ∷ [])) parts.0
    (all ∙ and_from (list_all is_digit bytes) (list_all is_digit ((48 + n) ∷ [])) parts.1
    (and_from (is_digit (48 + n)) true (is_digit_of n h) refl))

pub record Digits (n : ℕ) (ds : List ℕ) : Type 0 where
  pub digits : is_number ds ≡ true
  pub value : n ≡ value_of ds

pub decimal_digits : (n : ℕ) → n < 2 ^ 64 → Digits n (decimal n)
decimal_digits =
    decimal_by_steps Digits
    (λ n h. record { digits = and_from (is_digit (48 + n)) true (is_digit_of n h) refl; value = omega arith })
    (λ n ds h d. record {
      digits = more_digits ds (n % 10) (omega arith) d.digits;
      value = omega (arith, d.value, value_from-append 0 ds ((48 + n % 10) ∷ []));
    })

pub letter_byte : (b : ℕ) → is_letter b ≡ true → is_word_byte b ≡ true
letter_byte b h = or_left (is_letter b) (is_digit b) h

pub no_letter : (b : ℕ) → is_digit b ≡ true → is_letter b ≡ false
no_letter b h = grind (arith, nat_tests)
