-- Programs that are written, but for the rows of variables.
use Rattle.std.proofs.Common.{arith, ◌+◌, List, ◌∷◌, []}
use Rattle.src_ast.specs.Syntax.{Procedure, Part, Array, Proc}
use Rattle.src_ast.specs.Written.{IsWrittenName, AreWrittenNames, IsWrittenNumber, names_width, FitsRow}
use Rattle.src_ast.specs.Written.{AreWrittenStatements, IsWrittenEnding, IsWrittenProcedure, IsWritten}

-- a procedure is written, but for the row of its variables
pub record IsNearlyProcedure (p : Procedure) : Type 0 where
  pub name : IsWrittenName p.name.text
  pub params : AreWrittenNames p.params
  pub params_row : FitsRow (names_width p.params + 4)
  pub vars : AreWrittenNames p.vars
  pub body : AreWrittenStatements 1 p.body
  pub ending : IsWrittenEnding p.ending

-- an array that is written, or such a procedure
abbrev pub IsNearlyPart : Part → Type 0
IsNearlyPart (Array x n at) = IsWrittenName x.text × IsWrittenNumber n
IsNearlyPart (Proc p) = IsNearlyProcedure p

-- all of them
abbrev pub AreNearlyWritten : List Part → Type 0
AreNearlyWritten [] = Unit {0}
AreNearlyWritten (p ∷ parts) = IsNearlyPart p × AreNearlyWritten parts

-- the variables of each procedure fit a row
abbrev pub HaveRows : List Part → Type 0
HaveRows [] = Unit {0}
HaveRows (Array x n at ∷ parts) = HaveRows parts
HaveRows (Proc p ∷ parts) = FitsRow (names_width p.vars + 1) × HaveRows parts

nearly_procedure : (p : Procedure) → IsWrittenProcedure p → IsNearlyProcedure p
nearly_procedure p h = grind arith

-- what is written is nearly written
pub nearly : (all : List Part) → IsWritten all → AreNearlyWritten all
nearly [] h = tt
nearly (Array x n at ∷ all) h = (h.0, nearly all h.1)
nearly (Proc p ∷ all) h = (nearly_procedure p h.0, nearly all h.1)

whole_procedure : (p : Procedure) → IsNearlyProcedure p → FitsRow (names_width p.vars + 1)
    → IsWrittenProcedure p
whole_procedure p h row = grind arith

-- what is nearly written and has rows is written
pub whole : (all : List Part) → AreNearlyWritten all → HaveRows all → IsWritten all
whole [] h rows = tt
whole (Array x n at ∷ all) h rows = (h.0, whole all h.1 rows)
whole (Proc p ∷ all) h rows = (whole_procedure p h.0 rows.0, whole all h.1 rows.1)
