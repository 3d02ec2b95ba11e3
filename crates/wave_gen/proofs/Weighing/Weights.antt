-- What items weigh, in quarters of an instruction.
use Rattle.std.specs.Prelude.{ℕ, zero, suc, ◌+◌, ◌*◌, ◌<◌, cond, List, [], ◌∷◌, length}
use Rattle.ws_isa.specs.Image.{is_memory_op}
use Rattle.wave_gen.specs.Wire.{Wants, Made, Item, Make, Act, Same}
use Rattle.wave_gen.proofs.Planning.Planned.{AllBelow}

-- how many spots wait for the first n names
abbrev pub total : Wants → ℕ → ℕ
total w zero = 0
total w (suc n) = length (w n) + total w n

-- the instructions so far, and what is wanted: a merge that takes at least 5 spots doesn't raise it
abbrev pub charge : ℕ → Made → ℕ
charge n s = 4 * length s.code + total s.wants n

-- An instruction weighs 4, and 1 more for each operand; one that is there only because its value is wanted
-- weighs 1 less. A copy weighs at most 5, where lists are too long to be joined.
abbrev pub weight : Item → ℕ
weight (Make x op from) = cond (is_memory_op op) (4 + length from) (3 + length from)
weight (Act op from) = 4 + length from
weight (Same x y) = 5

abbrev pub weights : List Item → ℕ
weights [] = 0
weights (i ∷ is) = weight i + weights is

-- the names of items are below n, and an instruction has at most three operands
abbrev pub ItemBelow : ℕ → Item → Type 0
ItemBelow n (Make x op from) = (x < n) × AllBelow n from × (length from < 4)
ItemBelow n (Act op from) = AllBelow n from × (length from < 4)
ItemBelow n (Same x y) = (x < n) × (y < n)

abbrev pub ItemsBelow : ℕ → List Item → Type 0
ItemsBelow n [] = Unit {0}
ItemsBelow n (i ∷ is) = ItemBelow n i × ItemsBelow n is
