-- How a run takes turns: a part of it ends with turns left, or needs a turn where none is left.
use Rattle.std.specs.Prelude.{ℕ, zero, suc, ◌==◌, List, Option, Some, None, slice_set, if◌then◌else◌}
use Rattle.ws_words.specs.Outside.{Outside, ProcState}

-- a part ended with turns left, or needed a turn where none was left
pub data PartEnd : Type 0 where
  Ended : (s : ProcState) (left : ℕ) → PartEnd
  Out : (o : Outside) → PartEnd

-- goes on with the turns that are left
abbrev pub and_then : PartEnd → (ProcState → ℕ → PartEnd) → PartEnd
and_then (Ended s k) go = go s k
and_then (Out o) go = Out o

-- takes one turn
abbrev pub turn : ℕ → ProcState → (ℕ → PartEnd) → PartEnd
turn zero s go = Out s.out
turn (suc k) s go = go k

-- a call gave its result with turns left, or needed a turn where none was left
pub data CallEnd : Type 0 where
  Returned : (v : ℕ) (o : Outside) (left : ℕ) → CallEnd
  Stopped : (o : Outside) → CallEnd

-- after a call in this state the caller goes on with its variables, one of which has the result
abbrev pub with_result : Option ℕ → ℕ → List ℕ → List ℕ
with_result None v vars = vars
with_result (Some x) v vars = slice_set vars x v

-- back in the caller
abbrev pub back_in : List ℕ → Option ℕ → CallEnd → PartEnd
back_in vars x (Returned v o k) = Ended (record { vars = with_result x v vars; out = o }) k
back_in vars x (Stopped o) = Out o

-- a part that ended gives the result of its call
abbrev pub ending : PartEnd → (ProcState → ℕ → CallEnd) → CallEnd
ending (Ended s k) go = go s k
ending (Out o) go = Stopped o

-- at most `fuel` tests of a loop; each takes a turn, so one more than the turns left is fuel enough
abbrev pub loop : ℕ → (ProcState → ℕ × ProcState) → (ProcState → ℕ → PartEnd) → ProcState → ℕ → PartEnd
loop zero test body s k = Out s.out
loop (suc fuel) test body s k =
    turn k s (λ j. let v = test s in if v.0 == 0 then Ended v.1 j
    else and_then (body v.1 j) (loop fuel test body))
