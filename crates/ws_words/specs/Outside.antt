-- What a run has outside its variables, and its acts. The source and every form that it is compiled
-- to share these.
use Rattle.std.specs.Prelude.{ℕ, zero, suc, ◌-◌, ◌^◌, ◌<◌, List, [], ◌∷◌, ◌++◌, slice_set}
use Rattle.std.specs.List.{AllByRecursion}

-- What a run does outside its variables. Arrays are by number from 1, hidden ones too; ports are
-- from 1 to 7.
pub data Act : Type 0 where
  loads : (array index : ℕ) → Act
  stores : (array index word : ℕ) → Act
  reads : Act
  prints : (word : ℕ) → Act
  gives : (port : ℕ) → Act
  takes : (port word : ℕ) → Act

-- arrays in order, the input words left, the words that ports have left, and the acts so far
pub record Outside : Type 0 where
  pub cells : List (List ℕ)
  pub input : List ℕ
  pub left : List (List ℕ)
  pub acts : List Act

-- what a run is given: input words, and for each port from 1 on the words that it has left
pub record World : Type 0 where
  pub input : List ℕ
  pub left : List (List ℕ)

-- this input, and no ports
abbrev pub with_input : List ℕ → World
with_input input = record { input = input; left = [] }

-- a word of the machine has 64 bits
abbrev pub IsMachineWord : ℕ → Type 0
IsMachineWord n = n < 2 ^ 64

-- every word of the input and of the ports is one
abbrev pub WorldOfWords : World → Type 0
WorldOfWords w =
    AllByRecursion IsMachineWord w.input × AllByRecursion (AllByRecursion IsMachineWord) w.left

-- the values of the procedure's variables, in order of declaration, and what is outside
pub record ProcState : Type 0 where
  pub vars : List ℕ
  pub out : Outside

-- the item at a place; out of bounds, the empty row
abbrev pub row : List (List ℕ) → ℕ → List ℕ
row [] k = []
row (x ∷ xs) zero = x
row (x ∷ xs) (suc k) = row xs k

abbrev pub with_row : List (List ℕ) → ℕ → List ℕ → List (List ℕ)
with_row [] k r = []
with_row (x ∷ xs) zero r = r ∷ xs
with_row (x ∷ xs) (suc k) r = x ∷ with_row xs k r

-- the first word, or 0 where none is left
abbrev pub head_or_zero : List ℕ → ℕ
head_or_zero [] = 0
head_or_zero (x ∷ xs) = x

abbrev pub rest_of : List ℕ → List ℕ
rest_of [] = []
rest_of (x ∷ xs) = xs

abbrev pub write : ProcState → ℕ → ℕ → ProcState
write s x v = record { vars = slice_set s.vars x v; out = s.out }

abbrev pub with_out : ProcState → Outside → ProcState
with_out s o = record { vars = s.vars; out = o }

abbrev pub with_act : Outside → Act → Outside
with_act o a = record { cells = o.cells; input = o.input; left = o.left; acts = o.acts ++ a ∷ [] }

-- array number a stands at place a - 1
abbrev pub array_of : Outside → ℕ → List ℕ
array_of o a = row o.cells (a - 1)

abbrev pub with_acts : ProcState → List Act → ProcState
with_acts s acts = with_out s (record {
  cells = s.out.cells;
  input = s.out.input;
  left = s.out.left;
  acts = s.out.acts ++ acts;
})

-- an out-of-bounds store changes no cell
abbrev pub stored : ProcState → ℕ → ℕ → ℕ → ProcState
stored s a i v = with_out s (record {
  cells = with_row s.out.cells (a - 1) (slice_set (array_of s.out a) i v);
  input = s.out.input;
  left = s.out.left;
  acts = s.out.acts ++ stores a i v ∷ [];
})

abbrev pub printed : ProcState → ℕ → ProcState
printed s v = with_out s (with_act s.out (prints v))

abbrev pub taken : ProcState → ℕ → ℕ → ProcState
taken s p v = with_out s (with_act s.out (takes p v))

abbrev pub has_read : ProcState → ℕ → ProcState
has_read s x = record {
  vars = slice_set s.vars x (head_or_zero s.out.input);
  out = record {
    cells = s.out.cells;
    input = rest_of s.out.input;
    left = s.out.left;
    acts = s.out.acts ++ reads ∷ [];
  };
}

abbrev pub given : ProcState → ℕ → ℕ → ProcState
given s p x = record {
  vars = slice_set s.vars x (head_or_zero (row s.out.left (p - 1)));
  out = record {
    cells = s.out.cells;
    input = s.out.input;
    left = with_row s.out.left (p - 1) (rest_of (row s.out.left (p - 1)));
    acts = s.out.acts ++ gives p ∷ [];
  };
}

-- so many variables or cells at the start
abbrev pub zeros : ℕ → List ℕ
zeros zero = []
zeros (suc n) = 0 ∷ zeros n

-- before the first turn, with these cells
abbrev pub opening_out : List (List ℕ) → World → Outside
opening_out cells world =
    record { cells = cells; input = world.input; left = world.left; acts = [] }

-- the words that the acts print, in order
abbrev pub printed_words : List Act → List ℕ
printed_words [] = []
printed_words (prints w ∷ acts) = w ∷ printed_words acts
printed_words (_ ∷ acts) = printed_words acts
