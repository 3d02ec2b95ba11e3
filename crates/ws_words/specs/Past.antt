-- Out-of-bounds loads and stores, and what a list of acts leaves.
use Rattle.std.specs.Prelude.{◌≡◌, ℕ, ◌-◌, ◌<◌, ◌≤◌, List, [], ◌∷◌, ◌++◌, slice_index}
use Rattle.std.specs.List.{AllByRecursion}
use Rattle.ws_words.specs.Outside.{Act, loads, stores, reads, prints, gives, takes}
use Rattle.ws_words.specs.Outside.{Outside, ProcState, with_act, stored, has_read, given}

-- the length of an array by its number from 1; one that isn't there has length 0
abbrev pub length_of : List ℕ → ℕ → ℕ
length_of lengths array = slice_index lengths (array - 1)

-- a load or store whose index isn't less than the length of this array, which is its own
abbrev pub IsPast : List ℕ → ℕ → Act → Type 0
IsPast lengths array (loads a i) = (a ≡ array) × (length_of lengths a ≤ i)
IsPast lengths array (stores a i w) = (a ≡ array) × (length_of lengths a ≤ i)
IsPast lengths array _ = ⊥

-- any other act
abbrev pub IsWithin : List ℕ → Act → Type 0
IsWithin lengths (loads a i) = i < length_of lengths a
IsWithin lengths (stores a i w) = i < length_of lengths a
IsWithin lengths _ = Unit {0}

-- no act is out of bounds
abbrev pub AreWithin : List ℕ → List Act → Type 0
AreWithin lengths acts = AllByRecursion (IsWithin lengths) acts

-- the first out-of-bounds act is on this array, after these acts
pub record FirstPast (lengths : List ℕ) (acts before : List Act) (array : ℕ) : Type 0 where
  pub within : AreWithin lengths before
  pub act : Act
  pub past : IsPast lengths array act
  pub after : List Act
  pub split : acts ≡ before ++ act ∷ after

-- acts that begin with these
abbrev pub ActsBegin : List Act → List Act → Type 0
ActsBegin front acts = (more : List Act) × (acts ≡ front ++ more)

-- a state without variables
abbrev pub bare : Outside → ProcState
bare o = record { vars = []; out = o }

-- what is outside after an act
abbrev pub after_act : Outside → Act → Outside
after_act o (loads a i) = with_act o (loads a i)
after_act o (stores a i w) = (stored (bare o) a i w).out
after_act o reads = (has_read (bare o) 0).out
after_act o (prints w) = with_act o (prints w)
after_act o (gives p) = (given (bare o) p 0).out
after_act o (takes p w) = with_act o (takes p w)

-- what is outside after acts, in order
abbrev pub after_acts : Outside → List Act → Outside
after_acts o [] = o
after_acts o (a ∷ acts) = after_acts (after_act o a) acts
