-- The control graph as plain data, without boxes and buffers.
use Rattle.std.specs.Prelude.{ℕ, zero, suc, ◌+◌, List, [], ◌∷◌, ◌++◌, length, Option}
use Rattle.ws_words.specs.declared.alu.Alu.{Alu}
use Rattle.ws_words.specs.Items.{nth, or_else}

pub data Term : Type 0 where
  Number : (n : ℕ) → Term
  Var : (x : ℕ) → Term
  Cell : (a : ℕ) (index : Term) → Term
  Flip : (t : Term) → Term
  Not : (t : Term) → Term
  Neg : (t : Term) → Term
  Binary : (op : Alu) (a b : Term) → Term
  deriving IsSet as Term-set

pub data Op : Type 0 where
  Assign : (x : ℕ) (t : Term) → Op
  Store : (a : ℕ) (index value : Term) → Op
  Print : (t : Term) → Op
  Read : (x : ℕ) → Op
  Give : (port x : ℕ) → Op
  Take : (port : ℕ) (t : Term) → Op
  Choose : (x : ℕ) (test a b : Term) → Op
  Tick : (n : ℕ) → Op
  TickBy : (test : Term) (n m : ℕ) → Op
  deriving IsSet as Op-set

pub data Exit : Type 0 where
  Goto : (b : ℕ) → Exit
  Branch : (test : Term) (a b : ℕ) → Exit
  Call : (result : Option ℕ) (callee : ℕ) (values : List Term) (back : ℕ) → Exit
  Return : (t : Term) → Exit
  Send : (address : Term) (values : List Term) (landings : List ℕ) → Exit
  Stop : Exit
  deriving IsSet as Exit-set

-- `named` are the variables that a Send into this block fills
pub record Block : Type 0 where
  pub named : List ℕ
  pub ops : List Op
  pub exit : Exit

pub record GraphProc : Type 0 where
  pub params : ℕ
  pub vars : ℕ
  pub blocks : List Block

-- one without a name is hidden
pub record GraphArray : Type 0 where
  pub name : Option (List ℕ)
  pub length : ℕ

pub record Graph : Type 0 where
  pub arrays : List GraphArray
  pub procs : List GraphProc

-- a block, with the number of its procedure and how many variables that one has
pub record Spot : Type 0 where
  pub home : ℕ
  pub vars : ℕ
  pub block : Block

abbrev pub spots_in : ℕ → ℕ → List Block → List Spot
spots_in home vars [] = []
spots_in home vars (b ∷ blocks) =
    record { home = home; vars = vars; block = b } ∷ spots_in home vars blocks

-- the blocks of procedures, of which the first has this number
abbrev pub spots_from : ℕ → List GraphProc → List Spot
spots_from home [] = []
spots_from home (p ∷ procs) = spots_in home p.vars p.blocks ++ spots_from (suc home) procs

-- all blocks, numbered from 0, procedure after procedure
abbrev pub spots : Graph → List Spot
spots g = spots_from 0 g.procs

-- the block and the procedure at an out-of-bounds number
unfoldable pub no_spot : Spot
no_spot = record { home = 0; vars = 0; block = record { named = []; ops = []; exit = Stop } }

unfoldable pub no_proc : GraphProc
no_proc = record { params = 0; vars = 0; blocks = [] }

unfoldable pub spot_at : Graph → ℕ → Spot
spot_at g b = or_else (nth (spots g) b) no_spot

abbrev pub block_at : Graph → ℕ → Block
block_at g b = (spot_at g b).block

unfoldable pub proc_at : Graph → ℕ → GraphProc
proc_at g f = or_else (nth g.procs f) no_proc

-- the number of the first block of a procedure, where the first procedure begins at this block
abbrev pub entry_from : ℕ → List GraphProc → ℕ → ℕ
entry_from first [] f = 0
entry_from first (p ∷ procs) zero = first
entry_from first (p ∷ procs) (suc f) = entry_from (first + length p.blocks) procs f

unfoldable pub entry_of : Graph → ℕ → ℕ
entry_of g f = entry_from 0 g.procs f
