-- Texts of the small images.
use Rattle.std.specs.Prelude.{ℕ, List, [], ◌∷◌, ◌++◌, codes}
use Rattle.std.specs.List.{flat_map}

abbrev pub text_of_lines : List (List ℕ) → List ℕ
text_of_lines lines = flat_map (λ line. line ++ 10 ∷ []) lines

-- prints 7
abbrev pub text_a : List ℕ
text_a = text_of_lines (
    codes "wavescalar 1"
    ∷ codes "wave 1"
    ∷ codes "block 1"
    ∷ codes "pad 0 1.0"
    ∷ codes "1: advance -> 2.0 4.0"
    ∷ codes "2: const 7 -> 3.0"
    ∷ codes "3: out <., 1, 2>.1"
    ∷ codes "4: halt <1, 2, .>.2"
    ∷ codes "stop"
    ∷ codes "end"
    ∷ [])

-- reads a word, stores 5 into cell 0 if the word isn't 0, and prints cells 0 and 1
abbrev pub text_b : List ℕ
text_b = text_of_lines (
    codes "wavescalar 1"
    ∷ codes "array a 2"
    ∷ codes "wave 1"
    ∷ codes "block 1"
    ∷ codes "pad 0 1.0"
    ∷ codes "1: advance -> 2.0 3.0"
    ∷ codes "2: in <., 1, ?>.1 -> 3.1"
    ∷ codes "3: steer -> 4.0 5.0 8.0 | 7.0 8.0"
    ∷ codes "if 2 2 3"
    ∷ codes "block 2"
    ∷ codes "4: const 0 -> 6.0"
    ∷ codes "5: const 5 -> 6.1"
    ∷ codes "6: store 1 <1, 2, 4>.2"
    ∷ codes "go 4"
    ∷ codes "block 3"
    ∷ codes "7: nop <1, 3, 4>.1"
    ∷ codes "go 4"
    ∷ codes "block 4"
    ∷ codes "8: merge -> 9.0 10.0 15.0"
    ∷ codes "9: const 0 -> 11.0"
    ∷ codes "10: const 1 -> 12.0"
    ∷ codes "11: load 1 <?, 4, 5>.2 -> 13.0"
    ∷ codes "12: load 1 <4, 5, 6>.2 -> 14.0"
    ∷ codes "13: out <5, 6, 7>.6"
    ∷ codes "14: out <6, 7, 8>.7"
    ∷ codes "15: halt <7, 8, .>.8"
    ∷ codes "stop"
    ∷ codes "end"
    ∷ [])

-- the first one, with names
abbrev pub text_named : List ℕ
text_named = text_of_lines (
    codes "wavescalar 2"
    ∷ codes "wave 1"
    ∷ codes "block start"
    ∷ codes "pad 0 in.0"
    ∷ codes "in: advance -> seven.0 end.0"
    ∷ codes "seven: const 7 -> show.0"
    ∷ codes "show: out <., 1, 2>.1"
    ∷ codes "end: halt <1, 2, .>.2"
    ∷ codes "stop"
    ∷ codes "end"
    ∷ [])
