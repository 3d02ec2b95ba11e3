-- Runs on a clocked grid: the numbers that a line gives it, and how it ends.
use Rattle.std.proofs.Common.{◌≡◌, ℕ, ◌≤◌, false, List, Option, Some, None, refl, sym, ap, ◌∙◌, subst, arith}
use Rattle.ws_words.specs.Outside.{World}
use Rattle.ws_isa.specs.Image.{Image}
use Rattle.df_core.specs.declared.answer.Done.{Done as Left}
use Rattle.df_core.specs.declared.drive.Finish.{Finish}
use Rattle.df_core.specs.declared.drive.Finish.TheVariants as finish
use Rattle.df_core.specs.Answer.{RunSo}
use Rattle.df_core.specs.Told.{run_from}
use Rattle.wsc_words.specs.declared.command.Command.{Command}
use Rattle.wsc_words.specs.declared.command.Command.TheVariants as command
use Rattle.wsc_words.specs.declared.key.Key.{Key}
use Rattle.wsc_words.specs.declared.key.Key.TheVariants.{Elements, Waves, Budget as Firings}
use Rattle.wsc_words.specs.Lines.{Given, AreIn, is_flag, least, most, usual, text_of, number_of, line_of}
use Rattle.wsc_top.specs.declared.task.Task.TheVariants.{Assembly}
use Rattle.wsc_top.specs.declared.task.AssemblyTask.{AssemblyTask}
use Rattle.wsc_top.specs.declared.task.AssemblyTask.TheVariants as task
use Rattle.run_text.specs.declared.report.Report.TheVariants.{Full}
use Rattle.wsc_top.specs.Tasks.{AsksFor, task_of, task_by, options_of, decoupled_options, grid_options}
use Rattle.wsc_top.specs.Executions.{EndsRun}
use Rattle.wsc_top.specs.Clocked.{InRange, TaskInRange, clocked_status}
use Rattle.df_core.proofs.Telling.Saying.{no_fault_at}

by_text : {P : Type 0} (o : Option (List ℕ)) → (o ≡ None → P) → ((text : List ℕ) → o ≡ Some text → P) → P
by_text o f g = grind arith

-- each number of a line is in its range
module _ (c : Command) (given : List Given) (ranges : AreIn c given) (k : Key)
    (number : is_flag k ≡ false) where
  at_least : least k ≤ usual c k → least k ≤ number_of c k given
  at_least h = by_text (text_of k given)
      (λ e. rw e h)
      (λ text e. rw e (ranges k text number e).least)

  at_most : usual c k ≤ most c k → number_of c k given ≤ most c k
  at_most h = by_text (text_of k given)
      (λ e. rw e h)
      (λ text e. rw e (ranges k text number e).most)

-- so are those of a grid
given_in_range : (given : List Given) → AreIn command.Grid given
    → InRange (grid_options (line_of command.Grid given))
given_in_range given ranges = (
  at_least command.Grid given ranges Elements refl (omega arith),
  at_most command.Grid given ranges Elements refl (omega arith),
  at_least command.Grid given ranges Waves refl (omega arith),
  at_most command.Grid given ranges Firings refl (omega arith),
)

task_in_range : (c : Command) (given : List Given) → AreIn c given → (t : AssemblyTask)
    → task_by c (line_of c given) ≡ Assembly t → TaskInRange t
task_in_range command.Check given ranges t e = let same : task.Check ≡ t = cc in subst TaskInRange same tt
task_in_range command.Exec given ranges t e =
    let same : task.Exec
    (options_of (line_of command.Exec given) (Full (line_of command.Exec given).memory
    (line_of command.Exec given).stats)) ≡ t = cc in subst TaskInRange same tt
task_in_range command.List given ranges t e = let same : task.List ≡ t = cc in subst TaskInRange same tt
task_in_range command.Trace given ranges t e = let same : task.Trace (line_of command.Trace given).budget
    ≡ t = cc in subst TaskInRange same tt
task_in_range command.Replay given ranges t e = let same : task.Replay ≡ t = cc in subst TaskInRange same tt
task_in_range command.Decouple given ranges t e =
    let same : task.Exec (decoupled_options (line_of command.Decouple given)) ≡ t = cc in
    subst TaskInRange same tt
task_in_range command.Grid given ranges t e = let same : task.Grid (grid_options (line_of command.Grid given))
    ≡ t = cc in subst TaskInRange same (given_in_range given ranges)
task_in_range c given ranges t e = absurd cc

-- a line asks for no other grid
pub line_in_range : (words : List (List ℕ)) (t : AssemblyTask) → AsksFor words (Assembly t) → TaskInRange t
line_in_range words t (line, l, e) = task_in_range l.command l.given l.ranges t (ap task_of (sym l.is) ∙ e)

-- a run on a grid ends as a run of the core does
module _ (image : Image) (world : World) (budget : ℕ) (left : Left) where
  pub ends_clocked : (how : Finish) → RunSo image world budget (run_from how left)
      → EndsRun image world budget (clocked_status how)
  ends_clocked finish.Rest r = grind (arith, no_fault_at)
  ends_clocked finish.Budget r = grind arith
  ends_clocked (finish.Fault array) r = grind (arith, no_fault_at)
