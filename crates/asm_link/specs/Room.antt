-- Whether what is added to a draft stays within the limits.
use Rattle.std.specs.Prelude.{ℕ, suc, ◌+◌, Bool, cond, ◌&&◌, List, [], ◌∷◌, length, Option, Some, None, ltb}
use Rattle.ws_isa.specs.Image.{Instr, Block}
use Rattle.ws_words.specs.Items.{nth, first_some}

-- 8 are the most destinations of a list
abbrev pub is_short : Instr → Bool
is_short i = ltb (length i.dests) 9 && ltb (length i.others) 9

-- the first of these with a longer list; they are numbered from k on
abbrev pub full_among : ℕ → List Instr → Option ℕ
full_among k [] = None
full_among k (i ∷ is) = cond (is_short i) (full_among (k + 1) is) (Some k)

abbrev pub size_of : Option Block → ℕ
size_of None = 0
size_of (Some b) = length b.instrs

-- the number in the draft of the first instruction whose list has got too long: `cs` are the blocks with
-- what was added, from block n on, and `bs` all those of the draft; instruction k is the first of block n
abbrev pub full_in : ℕ → ℕ → List Block → List Block → Option ℕ
full_in k n bs [] = None
full_in k n bs (c ∷ cs) =
    first_some (full_among k c.instrs) (full_in (k + size_of (nth bs n)) (suc n) bs cs)

-- how many instructions there are
abbrev pub count_from : ℕ → List Block → ℕ
count_from n [] = n
count_from n (b ∷ bs) = count_from (n + length b.instrs) bs

abbrev pub count_in : List Block → ℕ
count_in bs = count_from 0 bs
