-- Which lexemes can be printed, and the lines that are printed of them.
use Rattle.std.specs.Prelude.{◌≡◌, ℕ, ◌^◌, ◌<◌, true, List, [], ◌∷◌}
use Rattle.asm_text.specs.declared.lexeme.Lexeme.{Lexeme}
use Rattle.asm_text.specs.declared.lexeme.Lexeme.TheVariants.{Word, Number, Mark}
use Rattle.asm_text.specs.Printed.{start, text_of}
use Rattle.ws_words.specs.Letters.{is_word}

-- a word is one, and a number fits
abbrev pub IsLexeme : Lexeme → Type 0
IsLexeme (Word w) = is_word w ≡ true
IsLexeme (Number n) = n < 2 ^ 64
IsLexeme (Mark m) = Unit {0}

abbrev pub AreLexemes : List Lexeme → Type 0
AreLexemes [] = Unit {0}
AreLexemes (l ∷ ls) = IsLexeme l × AreLexemes ls

abbrev pub AllLexemes : List (List Lexeme) → Type 0
AllLexemes [] = Unit {0}
AllLexemes (l ∷ lines) = AreLexemes l × AllLexemes lines

-- the lines of these lexemes, and the empty one behind the last line feed
abbrev pub texts : List (List Lexeme) → List (List ℕ)
texts [] = [] ∷ []
texts (l ∷ lines) = text_of start l ∷ texts lines
