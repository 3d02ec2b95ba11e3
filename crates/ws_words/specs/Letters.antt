-- Words of a text: bytes that are letters, digits and _.
use Rattle.std.specs.Prelude.{ℕ, Bool, true, false, not, nat_le, ◌==◌, ◌&&◌, ◌||◌, List, [], ◌∷◌}
use Rattle.std.specs.List.{list_all}
use Rattle.ws_words.specs.Digits.{is_digit}

-- an ASCII letter or `_`
abbrev pub is_letter : ℕ → Bool
is_letter b = (nat_le 65 b && nat_le b 90) || (nat_le 97 b && nat_le b 122) || (b == 95)

abbrev pub is_word_byte : ℕ → Bool
is_word_byte b = is_letter b || is_digit b

-- a letter, then letters and digits
abbrev pub is_word : List ℕ → Bool
is_word [] = false
is_word (b ∷ bytes) = is_letter b && list_all is_word_byte bytes

-- a byte that ends no line
abbrev pub not_feed : ℕ → Bool
not_feed b = not (b == 10)

-- the first byte, if there is one, is none of these
abbrev pub starts_without : (ℕ → Bool) → List ℕ → Bool
starts_without p [] = true
starts_without p (b ∷ bytes) = not (p b)
