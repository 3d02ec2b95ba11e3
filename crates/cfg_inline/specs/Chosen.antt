-- Which procedures are chosen, and what room they want.
use Rattle.std.specs.Prelude.{ℕ, suc, ◌+◌, max, nat_lt, Bool, true, false, not, ◌&&◌, List, [], ◌∷◌, length}
use Rattle.std.specs.Prelude.{Option, Some, None, if◌then◌else◌}
use Rattle.std.specs.Option.{is_some}
use Rattle.cfg_core.specs.Graph.{Exit, Goto, Return, Block, GraphProc}

abbrev pub goes_straight : Exit → Bool
goes_straight (Goto b) = true
goes_straight (Return t) = true
goes_straight _ = false

-- no block branches, calls, sends or stops
abbrev pub all_straight : List Block → Bool
all_straight [] = true
all_straight (b ∷ bs) = goes_straight b.exit && all_straight bs

abbrev pub ops_of : List Block → ℕ
ops_of [] = 0
ops_of (b ∷ bs) = length b.ops + ops_of bs

-- a chosen procedure has at most so many operations
abbrev pub most_ops : ℕ
most_ops = 64

abbrev pub is_short : List Block → Bool
is_short bs = all_straight bs && not (nat_lt most_ops (ops_of bs))

-- the room that a procedure wants, if it is chosen where there may be so much: one variable more than it has,
-- for a result that no variable takes
abbrev pub wanted : ℕ → GraphProc → Option ℕ
wanted most p = if nat_lt p.vars most && is_short p.blocks then Some (suc p.vars) else None

abbrev pub is_chosen : ℕ → GraphProc → Bool
is_chosen most p = is_some (wanted most p)

abbrev pub larger : ℕ → Option ℕ → ℕ
larger n None = n
larger n (Some m) = max n m

-- as much room as the chosen ones want, and no less than n
abbrev pub room : ℕ → ℕ → List GraphProc → ℕ
room most n [] = n
room most n (p ∷ ps) = room most (larger n (wanted most p)) ps
