-- What a graph has of the program that it was made from.
use Rattle.std.specs.Prelude.{◌≡◌, ℕ, ◌+◌, List, [], ◌∷◌, length, Some}
use Rattle.std.specs.List.{AllByRecursion}
use Rattle.ws_words.specs.Outside.{Outside, World}
use Rattle.src_ast.specs.Syntax.{Procedure, Part, Array, Proc}
use Rattle.src_ast.specs.Meaning.{Passes, Flows}
use Rattle.cfg_core.specs.Graph.{Op, Choose, Tick, TickBy, Exit, Send, GraphArray, GraphProc, Graph, spots}
use Rattle.cfg_core.specs.Walk as walks
use Rattle.cfg_core.specs.Walk.{Ends}
use Rattle.cfg_core.specs.Shown.{ShowsAll}

-- In each world and after each number of turns the walk has ended exactly if the unchecked run has
-- (`Passes`), or is going exactly if that run is (`Flows`), with the same cells, input words and
-- words of ports left, and the same acts.
pub record KeepsRun (parts : List Part) (g : Graph) : Type 0 where
  pub ends : (world : World) (turns : ℕ) (o : Outside) → Passes parts world turns o →
      Ends g world turns o
  pub ends_only : (world : World) (turns : ℕ) (o : Outside) → Ends g world turns o →
      Passes parts world turns o
  pub goes : (world : World) (turns : ℕ) (o : Outside) → Flows parts world turns o →
      walks.Goes g world turns o
  pub goes_only : (world : World) (turns : ℕ) (o : Outside) → walks.Goes g world turns o →
      Flows parts world turns o

-- Wherever the walk ends or is going, its shown acts and shown cells are all its acts and cells.
pub record ShowsRun (g : Graph) : Type 0 where
  pub ends : (world : World) (turns : ℕ) (o : Outside) → Ends g world turns o → ShowsAll g o
  pub goes : (world : World) (turns : ℕ) (o : Outside) → walks.Goes g world turns o → ShowsAll g o

-- the arrays of a program in order of declaration, all shown, under their names and with their
-- lengths
abbrev pub arrays_of : List Part → List GraphArray
arrays_of [] = []
arrays_of (Array name size at ∷ parts) =
    record { name = Some name.text; length = size } ∷ arrays_of parts
arrays_of (Proc p ∷ parts) = arrays_of parts

-- how many parameters a procedure has, and how many variables with them
pub record Room : Type 0 where
  pub params : ℕ
  pub vars : ℕ

-- of the procedures of a program
abbrev pub rooms_of : List Procedure → List Room
rooms_of [] = []
rooms_of (p ∷ ps) =
    record { params = length p.params; vars = length p.params + length p.vars } ∷ rooms_of ps

-- the same of the procedures of a graph
abbrev pub rooms_in : List GraphProc → List Room
rooms_in [] = []
rooms_in (p ∷ ps) = record { params = p.params; vars = p.vars } ∷ rooms_in ps

-- any operation but a choice and turns by a test; a Tick takes one turn
abbrev pub IsFirstOp : Op → Type 0
IsFirstOp (Choose x t a b) = ⊥
IsFirstOp (Tick n) = n ≡ 1
IsFirstOp (TickBy t n m) = ⊥
IsFirstOp _ = Unit {0}

-- any exit but Send
abbrev pub IsFirstExit : Exit → Type 0
IsFirstExit (Send t ts ls) = ⊥
IsFirstExit _ = Unit {0}

-- What later passes bring is not there yet: each operation and each exit is of the first form, and
-- no block names variables that a Send fills.
pub record IsFirstForm (g : Graph) : Type 0 where
  pub ops : AllByRecursion (λ s. AllByRecursion IsFirstOp s.block.ops) (spots g)
  pub exits : AllByRecursion (λ s. IsFirstExit s.block.exit) (spots g)
  pub named : AllByRecursion (λ s. s.block.named ≡ []) (spots g)
