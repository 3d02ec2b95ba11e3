-- The tree of a program, with the places of its names and statements, and without boxes and
-- buffers.
use Rattle.std.specs.Prelude.{ℕ, List, Option}
use Rattle.ws_words.specs.declared.alu.Alu.{Alu}
use Rattle.src_ast.specs.declared.lexeme.Place.{Place}
use Rattle.src_ast.specs.declared.lexeme.Name.{Name}
use Rattle.src_ast.specs.declared.tree.Unary.{Unary}

pub data Expression : Type 0 where
  Number : (n : ℕ) → Expression
  Variable : (x : Name) → Expression
  Cell : (a : Name) (index : Expression) → Expression
  Signed : (s : Unary) (e : Expression) → Expression
  Binary : (op : Alu) (a b : Expression) → Expression

mutual
  pub data Statement : Type 0 where
    Assign : (at : Place) (x : Name) (e : Expression) → Statement
    Store : (at : Place) (a : Name) (index value : Expression) → Statement
    Print : (at : Place) (e : Expression) → Statement
    Read : (at : Place) (x : Name) → Statement
    Give : (at : Place) (port : ℕ) (port_at : Place) (x : Name) → Statement
    Take : (at : Place) (port : ℕ) (port_at : Place) (e : Expression) → Statement
    Call : (at : Place) (x : Option Name) (f : Name) (args : List Expression) → Statement
    If : (at : Place) (test : Expression) (first second : Statements) → Statement
    While : (at : Place) (test : Expression) (body : Statements) → Statement

  pub data Statements : Type 0 where
    Nothing : Statements
    Then : (s : Statement) (rest : Statements) → Statements

-- the `return` that ends a procedure
pub record Last : Type 0 where
  pub place : Place
  pub value : Expression

pub record Procedure : Type 0 where
  pub name : Name
  pub params : List Name
  pub vars : List Name
  pub body : Statements
  pub ending : Option Last

pub data Part : Type 0 where
  Array : (name : Name) (size : ℕ) (size_at : Place) → Part
  Proc : (p : Procedure) → Part
