-- The walk of a graph: whole blocks, one after another. Calls wait in frames.
use Rattle.std.specs.Prelude.{◌≡◌, ℕ, zero, suc, ◌-◌, ◌^◌, ◌==◌, List, [], ◌∷◌, ◌++◌, length, min, Option}
use Rattle.std.specs.Prelude.{Some, None, if◌then◌else◌, slice_index, slice_set}
use Rattle.ws_words.specs.declared.alu.Alu.TheVariants.{Sub}
use Rattle.ws_words.specs.Operators.{applied, flag}
use Rattle.ws_words.specs.Outside.{Act, loads, Outside, ProcState, World}
use Rattle.ws_words.specs.Outside.{row, write, with_acts, stored, printed}
use Rattle.ws_words.specs.Outside.{taken, has_read, given, zeros, opening_out}
use Rattle.cfg_core.specs.Graph.{Term, Number, Var, Cell, Flip, Not, Neg, Binary, Op, Assign, Store, Print}
use Rattle.cfg_core.specs.Graph.{Read, Give, Take, Choose, Tick, TickBy, Exit, Goto, Branch, Call, Return}
use Rattle.cfg_core.specs.Graph.{Send, Stop, GraphProc, GraphArray, Graph, spot_at, block_at, proc_at}
use Rattle.cfg_core.specs.Graph.{entry_of}

-- the value of a term on these variables and arrays
abbrev pub value : Term → List ℕ → List (List ℕ) → ℕ
value (Number n) vars cells = n
value (Var x) vars cells = slice_index vars x
value (Cell a t) vars cells = slice_index (row cells (a - 1)) (value t vars cells)
value (Flip t) vars cells = 2 ^ 64 - 1 - value t vars cells
value (Not t) vars cells = flag (value t vars cells == 0)
value (Neg t) vars cells = applied Sub 0 (value t vars cells)
value (Binary op a b) vars cells = applied op (value a vars cells) (value b vars cells)

-- its loads, from left to right
abbrev pub loads_of : Term → List ℕ → List (List ℕ) → List Act
loads_of (Number n) vars cells = []
loads_of (Var x) vars cells = []
loads_of (Cell a t) vars cells = loads_of t vars cells ++ loads a (value t vars cells) ∷ []
loads_of (Flip t) vars cells = loads_of t vars cells
loads_of (Not t) vars cells = loads_of t vars cells
loads_of (Neg t) vars cells = loads_of t vars cells
loads_of (Binary op a b) vars cells = loads_of a vars cells ++ loads_of b vars cells

-- the values of terms, from left to right, and their loads
abbrev pub values : List Term → List ℕ → List (List ℕ) → List ℕ
values [] vars cells = []
values (t ∷ ts) vars cells = value t vars cells ∷ values ts vars cells

abbrev pub all_loads : List Term → List ℕ → List (List ℕ) → List Act
all_loads [] vars cells = []
all_loads (t ∷ ts) vars cells = loads_of t vars cells ++ all_loads ts vars cells

-- the value, and the state with the loads
abbrev pub value_of : Term → ProcState → ℕ × ProcState
value_of t s = (value t s.vars s.out.cells, with_acts s (loads_of t s.vars s.out.cells))

abbrev pub values_of : List Term → ProcState → List ℕ × ProcState
values_of ts s = (values ts s.vars s.out.cells, with_acts s (all_loads ts s.vars s.out.cells))

-- operations are done, with turns left, or need a turn where none is left
pub data OpsOutcome : Type 0 where
  Done : (s : ProcState) (left : ℕ) → OpsOutcome
  Out : (o : Outside) → OpsOutcome

abbrev pub and_then : OpsOutcome → (ProcState → ℕ → OpsOutcome) → OpsOutcome
and_then (Done s k) go = go s k
and_then (Out o) go = Out o

-- takes n turns
abbrev pub spend : ℕ → ProcState → ℕ → OpsOutcome
spend zero s k = Done s k
spend (suc n) s zero = Out s.out
spend (suc n) s (suc k) = spend n s k

abbrev pub run_op : Op → ProcState → ℕ → OpsOutcome
run_op (Assign x t) s k = let v = value_of t s in Done (write v.1 x v.0) k
run_op (Store a t u) s k =
    let i = value_of t s in let v = value_of u i.1 in Done (stored v.1 a i.0 v.0) k
run_op (Print t) s k = let v = value_of t s in Done (printed v.1 v.0) k
run_op (Read x) s k = Done (has_read s x) k
run_op (Give p x) s k = Done (given s p x) k
run_op (Take p t) s k = let v = value_of t s in Done (taken v.1 p v.0) k
run_op (Choose x t a b) s k =
    let v = value_of t s in
    if v.0 == 0 then (let w = value_of b v.1 in Done (write w.1 x w.0) k)
    else (let w = value_of a v.1 in Done (write w.1 x w.0) k)
run_op (Tick n) s k = spend n s k
run_op (TickBy t n m) s k =
    let v = value_of t s in if v.0 == 0 then spend m v.1 k else spend n v.1 k

abbrev pub run_ops : List Op → ProcState → ℕ → OpsOutcome
run_ops [] s k = Done s k
run_ops (op ∷ ops) s k = and_then (run_op op s k) (run_ops ops)

-- a call that waits: where it goes on, on which variables, and which of them takes the result
pub record Frame : Type 0 where
  pub result : Option ℕ
  pub back : ℕ
  pub vars : List ℕ

-- at the start of a block with turns left, ended with turns left, or going and out of turns
pub data Config : Type 0 where
  At : (b : ℕ) (s : ProcState) (frames : List Frame) (left : ℕ) → Config
  Over : (o : Outside) (left : ℕ) → Config
  Going : (o : Outside) → Config

-- the values in the variables that a block names, in order
abbrev pub landed : List ℕ → List ℕ → List ℕ → List ℕ
landed [] vs vars = vars
landed (x ∷ xs) [] vars = vars
landed (x ∷ xs) (v ∷ vs) vars = landed xs vs (slice_set vars x v)

-- the landing that an address chooses: the one at that place, or the last one
abbrev pub landing : ℕ → List ℕ → ℕ
landing address landings = slice_index landings (min address (length landings - 1))

-- the variable that a call names takes its result
abbrev pub with_result : Option ℕ → ℕ → List ℕ → List ℕ
with_result None v vars = vars
with_result (Some x) v vars = slice_set vars x v

abbrev pub returned : ℕ → Outside → List Frame → ℕ → Config
returned v o [] k = Over o k
returned v o (f ∷ frames) k =
    At f.back (record { vars = with_result f.result v f.vars; out = o }) frames k

-- a procedure's variables at its entry
abbrev pub entered : GraphProc → List ℕ → List ℕ
entered p vs = vs ++ zeros (p.vars - p.params)

abbrev pub leave : Graph → Exit → ProcState → List Frame → ℕ → Config
leave g (Goto b) s frames k = At b s frames k
leave g (Branch t a b) s frames k =
    let v = value_of t s in if v.0 == 0 then At b v.1 frames k else At a v.1 frames k
leave g (Call x f ts back) s frames k =
    let vs = values_of ts s in
    let inside : ProcState = record { vars = entered (proc_at g f) vs.0; out = vs.1.out } in
    At (entry_of g f) inside (record { result = x; back = back; vars = vs.1.vars } ∷ frames) k
leave g (Return t) s frames k = let v = value_of t s in returned v.0 v.1.out frames k
leave g (Send t ts ls) s frames k =
    let a = value_of t s in let vs = values_of ts a.1 in
    let b = landing a.0 ls in
    let vars = landed (block_at g b).named vs.0 (zeros (spot_at g b).vars) in
    At b (record { vars = vars; out = vs.1.out }) frames k
leave g Stop s frames k = Over s.out k

-- the exit, after the operations
abbrev pub passed : Graph → OpsOutcome → Exit → List Frame → Config
passed g (Done s k) exit frames = leave g exit s frames k
passed g (Out o) exit frames = Going o

-- one block
abbrev pub step : Graph → Config → Config
step g (At b s frames k) = passed g (run_ops (block_at g b).ops s k) (block_at g b).exit frames
step g (Over o k) = Over o k
step g (Going o) = Going o

-- n blocks of the walk
abbrev pub walk : Graph → ℕ → Config → Config
walk g zero c = c
walk g (suc n) c = walk g n (step g c)

abbrev pub cells_of : List GraphArray → List (List ℕ)
cells_of [] = []
cells_of (a ∷ arrays) = zeros a.length ∷ cells_of arrays

-- in the first block of the last procedure, on zeros, with k turns
abbrev pub opening : Graph → World → ℕ → Config
opening g world k =
    let main = length g.procs - 1 in
    let vars = zeros (proc_at g main).vars in
    At (entry_of g main) (record { vars = vars; out = opening_out (cells_of g.arrays) world }) [] k

-- with n turns the walk ends, no turn is left, and this is outside
abbrev pub Ends : Graph → World → ℕ → Outside → Type 0
Ends g world n o = (m : ℕ) × (walk g m (opening g world n) ≡ Over o 0)

-- with n turns the walk ends, these turns are left, and this is outside
abbrev pub EndsWith : Graph → World → ℕ → Outside → ℕ → Type 0
EndsWith g world n o left = (m : ℕ) × (walk g m (opening g world n) ≡ Over o left)

-- with n turns the walk is going, at this
abbrev pub Goes : Graph → World → ℕ → Outside → Type 0
Goes g world n o = (m : ℕ) × (walk g m (opening g world n) ≡ Going o)

-- the walk has an answer
abbrev pub IsOver : Config → Type 0
IsOver (At b s frames k) = ⊥
IsOver (Over o k) = Unit {0}
IsOver (Going o) = Unit {0}

-- the walk at the start of a block
abbrev pub starts : ℕ → ProcState → List Frame → ℕ → Config
starts b s frames k = At b s frames k
