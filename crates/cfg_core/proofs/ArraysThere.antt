-- The acts of a walk name arrays that are there, and as many arrays are left as the graph has.
use Rattle.std.proofs.Common.{arith, ℕ, zero, suc, ◌-◌, ◌≡◌, ◌==◌, Bool, List, [], ◌∷◌, ◌++◌, length}
use Rattle.std.proofs.Common.{if◌then◌else◌, refl, ap}
use Rattle.std.specs.List.{AllByRecursion}
use Rattle.ws_words.specs.Outside.{Act, loads, stores, reads, prints, gives, takes, Outside, ProcState, World}
use Rattle.ws_words.specs.Outside.{with_row}
use Rattle.cfg_core.specs.Graph.{Term, Cell, Flip, Not, Neg, Binary, Op, Assign, Store, Print}
use Rattle.cfg_core.specs.Graph.{Read, Give, Take, Choose, Tick, TickBy, Exit, Goto, Branch, Call, Return}
use Rattle.cfg_core.specs.Graph.{Send, Stop, GraphArray, Graph, no_spot, spots, spot_at, block_at}
use Rattle.cfg_core.specs.Walk.{loads_of, all_loads, value_of, values_of, OpsOutcome, Done, Out, and_then}
use Rattle.cfg_core.specs.Walk.{spend, run_op, run_ops, Frame, Config, At, Over, Going, returned, leave}
use Rattle.cfg_core.specs.Walk.{passed, step, walk, cells_of, opening, Ends, Goes}
use Rattle.cfg_core.specs.Rules.{IsArray, TermIn, OpIn, ExitIn, BlockNumbers, GraphNumbers}
use Rattle.cfg_core.proofs.Spots.{each_at}

-- an act on an array of the graph, or on none
abbrev pub ActIn : Graph → Act → Type 0
ActIn g (loads a i) = IsArray (length g.arrays) a
ActIn g (stores a i w) = IsArray (length g.arrays) a
ActIn g reads = Unit {0}
ActIn g (prints w) = Unit {0}
ActIn g (gives p) = Unit {0}
ActIn g (takes p w) = Unit {0}

-- such acts
abbrev pub ActsIn : Graph → List Act → Type 0
ActsIn g acts = AllByRecursion (ActIn g) acts

pub record OutIn (g : Graph) (o : Outside) : Type 0 where
  pub acts : ActsIn g o.acts
  pub cells : length o.cells ≡ length g.arrays

-- what is outside after operations has the arrays of the graph, and acts on them alone
abbrev pub OutcomeIn : Graph → OpsOutcome → Type 0
OutcomeIn g (Done s k) = OutIn g s.out
OutcomeIn g (Out o) = OutIn g o

-- the same of a place of the walk
abbrev pub ConfigIn : Graph → Config → Type 0
ConfigIn g (At b s frames k) = OutIn g s.out
ConfigIn g (Over o k) = OutIn g o
ConfigIn g (Going o) = OutIn g o

pub length_with_row : (rows : List (List ℕ)) (k : ℕ) (r : List ℕ) → length (with_row rows k r) ≡ length rows
length_with_row (x ∷ rows) (suc k) r = ap suc (length_with_row rows k r)
length_with_row rows k r = grind arith

length_cells_of : (arrays : List GraphArray) → length (cells_of arrays) ≡ length arrays
length_cells_of [] = refl
length_cells_of (a ∷ arrays) = ap suc (length_cells_of arrays)

module _ (g : Graph) where
  both_in : (xs ys : List Act) → ActsIn g xs → ActsIn g ys → ActsIn g (xs ++ ys)
  both_in [] ys h i = i
  both_in (x ∷ xs) ys h i = (h.0, both_in xs ys h.1 i)

  loads_in : (n : ℕ) (t : Term) → TermIn (length g.arrays) n t → (vars : List ℕ) (cells : List (List ℕ))
      → ActsIn g (loads_of t vars cells)
  loads_in n (Cell a t) h vars cells = grind (arith, both_in, loads_in n t h.1 vars cells)
  loads_in n (Flip t) h vars cells = loads_in n t h vars cells
  loads_in n (Not t) h vars cells = loads_in n t h vars cells
  loads_in n (Neg t) h vars cells = loads_in n t h vars cells
  loads_in n (Binary op a b) h vars cells =
      grind (arith, both_in, loads_in n a h.0 vars cells, loads_in n b h.1 vars cells)
  loads_in n t h vars cells = grind arith

  all_loads_in : (n : ℕ) (ts : List Term) → AllByRecursion (TermIn (length g.arrays) n) ts
      → (vars : List ℕ) (cells : List (List ℕ)) → ActsIn g (all_loads ts vars cells)
  all_loads_in n [] h vars cells = tt
  all_loads_in n (t ∷ ts) h vars cells = grind (arith, both_in, loads_in, all_loads_in n ts h.1 vars cells)

  -- more acts
  more_in : (o p : Outside) (acts : List Act) → p.acts ≡ o.acts ++ acts → length p.cells ≡ length o.cells
      → ActsIn g acts → OutIn g o → OutIn g p
  more_in o p acts e c h i = grind (arith, both_in, o.acts, i.acts)

  loaded_in : (n : ℕ) (t : Term) → TermIn (length g.arrays) n t → (s : ProcState) → OutIn g s.out
      → OutIn g (value_of t s).1.out
  loaded_in n t h s i = more_in s.out _ (loads_of t s.vars s.out.cells) refl refl
      (loads_in n t h s.vars s.out.cells) i

  all_loaded_in : (n : ℕ) (ts : List Term) → AllByRecursion (TermIn (length g.arrays) n) ts → (s : ProcState)
      → OutIn g s.out → OutIn g (values_of ts s).1.out
  all_loaded_in n ts h s i = more_in s.out _ (all_loads ts s.vars s.out.cells) refl refl
      (all_loads_in n ts h s.vars s.out.cells) i

  -- one act more
  acted_in : (o p : Outside) (act : Act) → p.acts ≡ o.acts ++ act ∷ [] → length p.cells ≡ length o.cells
      → ActIn g act → OutIn g o → OutIn g p
  acted_in o p act e c h i = more_in o p (act ∷ []) e c (h, tt) i

  if_outcome : (b : Bool) (o p : OpsOutcome) → OutcomeIn g o → OutcomeIn g p
      → OutcomeIn g (if b then o else p)
  if_outcome b o p h i = grind arith

  if_config : (b : Bool) (c d : Config) → ConfigIn g c → ConfigIn g d → ConfigIn g (if b then c else d)
  if_config b c d h i = grind arith

  spend_in : (n : ℕ) (s : ProcState) (k : ℕ) → OutIn g s.out → OutcomeIn g (spend n s k)
  spend_in (suc n) s (suc k) h = spend_in n s k h
  spend_in n s k h = grind arith

  op_in : (n : ℕ) (op : Op) → OpIn (length g.arrays) n op → (s : ProcState) (k : ℕ) → OutIn g s.out
      → OutcomeIn g (run_op op s k)
  op_in n (Assign x t) h s k i = loaded_in n t h.1 s i
  op_in n (Store a t u) h s k i =
      let v = (value_of t s).1 in let w = value_of u v in
      acted_in w.1.out _ (stores a (value_of t s).0 w.0) refl (length_with_row w.1.out.cells (a - 1) _) h.0
      (loaded_in n u h.2 v (loaded_in n t h.1 s i))
  op_in n (Print t) h s k i = let v = value_of t s in acted_in v.1.out _ (prints v.0) refl refl tt
      (loaded_in n t h s i)
  op_in n (Read x) h s k i = acted_in s.out _ reads refl refl tt i
  op_in n (Give p x) h s k i = acted_in s.out _ (gives p) refl refl tt i
  op_in n (Take p t) h s k i = let v = value_of t s in acted_in v.1.out _ (takes p v.0) refl refl tt
      (loaded_in n t h.1 s i)
  op_in n (Choose x t a b) h s k i =
      let j = loaded_in n t h.1 s i in
      if_outcome ((value_of t s).0 == 0) _ _ (loaded_in n b h.3 (value_of t s).1 j)
      (loaded_in n a h.2 (value_of t s).1 j)
  op_in n (Tick m) h s k i = spend_in m s k i
  op_in n (TickBy t m l) h s k i = grind (arith, loaded_in, if_outcome, value_of, spend_in)

  then_in : (o : OpsOutcome) (go : ProcState → ℕ → OpsOutcome) → OutcomeIn g o
      → ((s : ProcState) (k : ℕ) → OutIn g s.out → OutcomeIn g (go s k)) → OutcomeIn g (and_then o go)
  then_in o go h f = grind arith

  ops_in : (n : ℕ) (ops : List Op) → AllByRecursion (OpIn (length g.arrays) n) ops → (s : ProcState) (k : ℕ)
      → OutIn g s.out → OutcomeIn g (run_ops ops s k)
  ops_in n [] h s k i = i
  ops_in n (op ∷ ops) h s k i = grind (arith, then_in, op_in, ops_in n ops h.1)

  returned_in : (v : ℕ) (o : Outside) (frames : List Frame) (k : ℕ) → OutIn g o
      → ConfigIn g (returned v o frames k)
  returned_in v o frames k h = grind arith

  leave_in : (home n : ℕ) (exit : Exit) → ExitIn g home n exit → (s : ProcState) (frames : List Frame) (k : ℕ)
      → OutIn g s.out → ConfigIn g (leave g exit s frames k)
  leave_in home n (Goto b) h s frames k i = i
  leave_in home n (Branch t a b) h s frames k i = grind (arith, loaded_in, if_config, value_of)
  leave_in home n (Call x f ts back) h s frames k i = all_loaded_in n ts h.3 s i
  leave_in home n (Return t) h s frames k i = grind (arith, returned_in, value_of, loaded_in)
  leave_in home n (Send t ts ls) h s frames k i = all_loaded_in n ts h.1 (value_of t s).1
      (loaded_in n t h.0 s i)
  leave_in home n Stop h s frames k i = i

  passed_in : (home n : ℕ) (o : OpsOutcome) (exit : Exit) → ExitIn g home n exit → (frames : List Frame)
      → OutcomeIn g o → ConfigIn g (passed g o exit frames)
  passed_in home n o exit h frames i = grind (arith, leave_in)

  module _ (numbers : GraphNumbers g) where
    block_numbers : (b : ℕ) → BlockNumbers g (spot_at g b)
    unfolding spot_at no_spot
    block_numbers b = each_at (BlockNumbers g) (spots g) no_spot numbers.blocks
        (record { ops = tt; exit = tt; named = tt; once = tt }) b

    step_in : (c : Config) → ConfigIn g c → ConfigIn g (step g c)
    step_in (At b s frames k) h =
        let r = block_numbers b in
        passed_in (spot_at g b).home (spot_at g b).vars (run_ops (block_at g b).ops s k) (block_at g b).exit
        r.exit frames (ops_in (spot_at g b).vars (block_at g b).ops r.ops s k h)
    step_in (Over o k) h = h
    step_in (Going o) h = h

    walk_in : (n : ℕ) (c : Config) → ConfigIn g c → ConfigIn g (walk g n c)
    walk_in zero c h = h
    walk_in (suc n) c h = walk_in n (step g c) (step_in c h)

    answer_in : (world : World) (turns n : ℕ) (c : Config) → walk g n (opening g world turns) ≡ c
        → ConfigIn g c
    answer_in world turns n c e = grind (arith, walk_in, length_cells_of)

    -- the same at the end of a walk
    pub ended_in : (world : World) (turns : ℕ) (o : Outside) → Ends g world turns o → OutIn g o
    ended_in world turns o e = answer_in world turns e.0 (Over o 0) e.1

    -- and where a walk is going
    pub going_in : (world : World) (turns : ℕ) (o : Outside) → Goes g world turns o → OutIn g o
    going_in world turns o e = answer_in world turns e.0 (Going o) e.1
