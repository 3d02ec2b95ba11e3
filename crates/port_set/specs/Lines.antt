-- Ports that write lines.
use Rattle.std.specs.Prelude.{ℕ, List, [], ◌∷◌, ◌++◌, decimal}

-- the decimal digits of a word, and a line feed
abbrev pub line_of : ℕ → List ℕ
line_of word = decimal word ++ 10 ∷ []
