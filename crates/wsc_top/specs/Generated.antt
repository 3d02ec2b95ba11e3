-- Generated jobs.
use Rattle.std.specs.Prelude.{◌≡◌, ℕ, ◌≤◌, List, length}
use Rattle.src_ast.specs.Syntax.{Part}
use Rattle.src_ast.specs.Bound.{bound}
use Rattle.src_ast.specs.Same.{Same}
use Rattle.work_gen.specs.Program.{product}
use Rattle.work_gen.specs.Job.{size, words_of, job_text}
use Rattle.job_read.specs.Job.{job_limit, IsJob}

-- The text of the job with this number is this program and the words of the number. The program is
-- the product of two matrices, places aside, and is allowed 222 firings for a turn.
pub record IsGeneratedJob (number : ℕ) (parts : List Part) : Type 0 where
  pub job : IsJob (job_text number) parts (words_of number)
  pub same : Same (product (size number)) parts
  pub bounded : bound parts ≡ 222
  pub short : length (job_text number) ≤ job_limit
