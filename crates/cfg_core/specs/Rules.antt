-- What every graph keeps.
use Rattle.std.specs.Prelude.{◌≡◌, ℕ, suc, ◌⊎◌, ◌<◌, ◌≤◌, Bool, true, false, ◌||◌, List, [], ◌∷◌, length}
use Rattle.std.specs.Prelude.{Option, Some, None}
use Rattle.std.specs.List.{AllByRecursion}
use Rattle.cfg_core.specs.Graph.{Term, Number, Var, Cell, Flip, Not, Neg, Binary, Op, Assign, Store, Print}
use Rattle.cfg_core.specs.Graph.{Read, Give, Take, Choose, Tick, TickBy, Exit, Goto, Branch, Call, Return}
use Rattle.cfg_core.specs.Graph.{Send, Stop, GraphProc, Graph, Spot, spots, spot_at, block_at, proc_at}
use Rattle.ws_words.specs.Items.{In, Distinct}

-- Rule 1: each number names something that exists.

-- one of this many arrays, by its number from 1
abbrev pub IsArray : ℕ → ℕ → Type 0
IsArray arrays a = (1 ≤ a) × (a ≤ arrays)

-- a port, by its number from 1
abbrev pub IsPort : ℕ → Type 0
IsPort p = (1 ≤ p) × (p ≤ 7)

-- a term over this many arrays and variables
abbrev pub TermIn : ℕ → ℕ → Term → Type 0
TermIn arrays vars (Number n) = Unit {0}
TermIn arrays vars (Var x) = x < vars
TermIn arrays vars (Cell a t) = IsArray arrays a × TermIn arrays vars t
TermIn arrays vars (Flip t) = TermIn arrays vars t
TermIn arrays vars (Not t) = TermIn arrays vars t
TermIn arrays vars (Neg t) = TermIn arrays vars t
TermIn arrays vars (Binary op a b) = TermIn arrays vars a × TermIn arrays vars b

-- so is an operation
abbrev pub OpIn : ℕ → ℕ → Op → Type 0
OpIn arrays vars (Assign x t) = (x < vars) × TermIn arrays vars t
OpIn arrays vars (Store a t u) = IsArray arrays a × TermIn arrays vars t × TermIn arrays vars u
OpIn arrays vars (Print t) = TermIn arrays vars t
OpIn arrays vars (Read x) = x < vars
OpIn arrays vars (Give p x) = IsPort p × (x < vars)
OpIn arrays vars (Take p t) = IsPort p × TermIn arrays vars t
OpIn arrays vars (Choose x t a b) =
    (x < vars) × TermIn arrays vars t × TermIn arrays vars a × TermIn arrays vars b
OpIn arrays vars (Tick n) = Unit {0}
OpIn arrays vars (TickBy t n m) = TermIn arrays vars t

-- a block of this procedure
abbrev pub StaysIn : Graph → ℕ → ℕ → Type 0
StaysIn g home b = (b < length (spots g)) × ((spot_at g b).home ≡ home)

-- the variable that takes a result, if one does
abbrev pub TargetIn : ℕ → Option ℕ → Type 0
TargetIn vars None = Unit {0}
TargetIn vars (Some x) = x < vars

-- of a block of the procedure with this number and this many variables
abbrev pub ExitIn : Graph → ℕ → ℕ → Exit → Type 0
ExitIn g home vars (Goto b) = StaysIn g home b
ExitIn g home vars (Branch t a b) = TermIn (length g.arrays) vars t × StaysIn g home a × StaysIn g home b
ExitIn g home vars (Call x f ts back) =
    TargetIn vars x × (f < length g.procs) × (length ts ≡ (proc_at g f).params) ×
    AllByRecursion (TermIn (length g.arrays) vars) ts × StaysIn g home back
ExitIn g home vars (Return t) = TermIn (length g.arrays) vars t
ExitIn g home vars (Send t ts ls) =
    TermIn (length g.arrays) vars t × AllByRecursion (TermIn (length g.arrays) vars) ts ×
    AllByRecursion (λ l. l < length (spots g)) ls
ExitIn g home vars Stop = Unit {0}

pub record BlockNumbers (g : Graph) (spot : Spot) : Type 0 where
  pub ops : AllByRecursion (OpIn (length g.arrays) spot.vars) spot.block.ops
  pub exit : ExitIn g spot.home spot.vars spot.block.exit
  pub named : AllByRecursion (λ x. x < spot.vars) spot.block.named
  pub once : Distinct spot.block.named

pub record ProcNumbers (p : GraphProc) : Type 0 where
  pub some_block : 1 ≤ length p.blocks
  pub params : p.params ≤ p.vars

pub record GraphNumbers (g : Graph) : Type 0 where
  pub some_proc : 1 ≤ length g.procs
  pub procs : AllByRecursion ProcNumbers g.procs
  pub blocks : AllByRecursion (BlockNumbers g) (spots g)

-- Rule 2: a Send has a landing, and as many values as each of its landings names variables.

abbrev pub Lands : Graph → Exit → Type 0
Lands g (Send t ts ls) =
    (1 ≤ length ls) × AllByRecursion (λ l. length (block_at g l).named ≡ length ts) ls
Lands g _ = Unit {0}

-- Rule 3: a Call names an earlier procedure.

abbrev pub CallsEarlier : ℕ → Exit → Type 0
CallsEarlier home (Call x f ts back) = f < home
CallsEarlier home _ = Unit {0}

-- Rule 4: a block with the exit Call holds a Tick of at least 1.

abbrev pub calls : Exit → Bool
calls (Call x f ts back) = true
calls _ = false

abbrev pub is_tick : Op → Bool
is_tick (Tick (suc n)) = true
is_tick _ = false

abbrev pub has_tick : List Op → Bool
has_tick [] = false
has_tick (op ∷ ops) = is_tick op || has_tick ops

-- Rule 5: a cycle of exits takes a turn.

-- takes a turn, whatever its test is
abbrev pub takes_turn : Op → Bool
takes_turn (Tick (suc n)) = true
takes_turn (TickBy t (suc n) (suc m)) = true
takes_turn _ = false

abbrev pub has_turn : List Op → Bool
has_turn [] = false
has_turn (op ∷ ops) = takes_turn op || has_turn ops

-- an edge from a block of this exit to block c: a Call leads to its return block, a Send to each
-- landing
abbrev pub Leads : Exit → ℕ → Type 0
Leads (Goto b) c = c ≡ b
Leads (Branch t a b) c = (c ≡ a) ⊎ (c ≡ b)
Leads (Call x f ts back) c = c ≡ back
Leads (Return t) c = ⊥
Leads (Send t ts ls) c = In c ls
Leads Stop c = ⊥

-- a path of edges out of blocks that may take no turn
pub data Quiet (g : Graph) : ℕ → ℕ → Type 0 where
  one : (b c : ℕ) → has_turn (block_at g b).ops ≡ false → Leads (block_at g b).exit c → Quiet g b c
  more : (b c d : ℕ) → Quiet g b c → has_turn (block_at g c).ops ≡ false →
      Leads (block_at g c).exit d → Quiet g b d

-- Rule 6: the terms of a Choose and of a TickBy hold no Cell.

abbrev pub NoCell : Term → Type 0
NoCell (Cell a t) = ⊥
NoCell (Flip t) = NoCell t
NoCell (Not t) = NoCell t
NoCell (Neg t) = NoCell t
NoCell (Binary op a b) = NoCell a × NoCell b
NoCell _ = Unit {0}

abbrev pub ChoosesBare : Op → Type 0
ChoosesBare (Choose x t a b) = NoCell t × NoCell a × NoCell b
ChoosesBare (TickBy t n m) = NoCell t
ChoosesBare _ = Unit {0}

pub record IsGraph (g : Graph) : Type 0 where
  pub numbers : GraphNumbers g
  pub landings : AllByRecursion (λ s. Lands g s.block.exit) (spots g)
  pub earlier : AllByRecursion (λ s. CallsEarlier s.home s.block.exit) (spots g)
  pub call_ticks :
      AllByRecursion (λ s. calls s.block.exit ≡ true → has_tick s.block.ops ≡ true) (spots g)
  pub cycles : (b : ℕ) → Quiet g b b → ⊥
  pub bare : AllByRecursion (λ s. AllByRecursion ChoosesBare s.block.ops) (spots g)
