-- What is so of each generated job.
use Rattle.std.specs.Prelude.{◌≡◌, ℕ, ◌≤◌, length}
use Rattle.src_ast.specs.declared.lexeme.Place.{Place}
use Rattle.src_ast.specs.Bound.{bound}
use Rattle.src_ast.specs.Rules.{IsAccepted}
use Rattle.src_ast.specs.Written.{IsWritten}
use Rattle.work_gen.specs.Program.{product}
use Rattle.work_gen.specs.Job.{size, job_text}

-- The printed form of its program can be read; the program keeps the rules, wherever its text ends,
-- and is allowed so many firings for a turn; and the text is short.
pub record IsGenerated (number : ℕ) : Type 0 where
  pub written : IsWritten (product (size number))
  pub accepted : (finish : Place) → IsAccepted (product (size number)) finish
  pub bounded : bound (product (size number)) ≡ 222
  pub short : length (job_text number) ≤ 1800
