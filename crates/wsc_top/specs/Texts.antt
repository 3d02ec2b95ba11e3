-- The texts of answers.
use Rattle.std.specs.Prelude.{ℕ, zero, suc, ◌-◌, List, [], ◌∷◌, ◌++◌, codes, decimal, flat_map, map}
use Rattle.src_ast.specs.Syntax.{Part}
use Rattle.src_ast.specs.Meaning.{arrays_of}
use Rattle.run_text.specs.Texts.{word_line}

-- a text and behind it an input section: these words, a line each
abbrev pub with_input : List ℕ → List ℕ → List ℕ
with_input text words = text ++ codes "%input\n" ++ flat_map word_line words

abbrev pub usage_text : List ℕ
usage_text = codes "usage: wsc run|plain|format|compile|check|exec|list|trace|replay|gen|bench|multi|decouple|grid [--workers N] [--budget N] [--turns N] [--elements N] [--waves N] [--memory] [--stats] [NUMBER]\n"

-- the answer where an assembly is sound
abbrev pub sound_text : List ℕ
sound_text = codes "sound\n"

-- the names of a program's arrays, in order of declaration
abbrev pub names_of : List Part → List (List ℕ)
names_of parts = map (λ name. name.text) (arrays_of parts)

-- a line for the turns of a run
abbrev pub turns_line : ℕ → List ℕ
turns_line n = codes "turns " ++ decimal n ++ codes "\n"

-- the name that stands at a place, counted from 0
abbrev pub name_at : List (List ℕ) → ℕ → List ℕ
name_at [] k = []
name_at (n ∷ ns) zero = n
name_at (n ∷ ns) (suc k) = name_at ns k

-- the name of an array of a program by its number from 1; none where there is no such array
abbrev pub array_name : List (List ℕ) → ℕ → List ℕ
array_name names array = name_at names (array - 1)

-- the answer of a sequential run that needs more turns
abbrev pub going_text : List ℕ → List ℕ
going_text words = flat_map word_line words ++ codes "turns\n"
