-- What the checker knows after some arrays and procedures of a program.
use Rattle.std.specs.Prelude.{◌≡◌, List}
use Rattle.src_ast.specs.Syntax.{Part}
use Rattle.src_ast.specs.Rules.{declared_by, arrays_in, procs_in, cells_in, statements_in, has_main}
use Rattle.src_check.specs.Names.{found, StandsFor}
use Rattle.src_check.specs.declared.checker.Checker.{Checker}

pub record IsAfter (checker : Checker) (before : List Part) : Type 0 where
  pub names : StandsFor (found checker.names.outer) (declared_by before)
  pub arrays : checker.arrays ≡ arrays_in before
  pub procedures : checker.procedures ≡ procs_in before
  pub cells : checker.cells ≡ cells_in before
  pub statements : checker.statements ≡ statements_in before
  pub main : checker.has_main ≡ has_main before
