-- The longest run of bytes that pass a test; digits.
use Rattle.std.specs.Prelude.{◌≡◌, ℕ, ◌<◌, length, true, List}
use Rattle.std.specs.List.{list_all}
use Rattle.std.proofs.Common.{arith}
use Rattle.ws_words.specs.Digits.{is_digit, is_number}

-- digits, one at least, are a number
pub number_from : (xs : List ℕ) → 0 < length xs → list_all is_digit xs ≡ true → is_number xs ≡ true
number_from xs h k = grind arith

-- the bytes of a number are digits
pub number_all : (xs : List ℕ) → is_number xs ≡ true → list_all is_digit xs ≡ true
number_all xs h = grind arith
