-- What the program does for a line of the command line.
use Rattle.std.specs.Prelude.{◌≡◌, ℕ, true, false, List}
use Rattle.wsc_words.specs.Lines as lines
use Rattle.wsc_words.specs.declared.line.Invocation.{Invocation}
use Rattle.wsc_words.specs.declared.command.Command.{Command}
use Rattle.wsc_words.specs.declared.command.Command.TheVariants as command
use Rattle.wsc_top.specs.declared.task.Task.{Task}
use Rattle.wsc_top.specs.declared.task.Task.TheVariants.{Job, Assembly, Generate, Bench, Multi}
use Rattle.run_text.specs.declared.report.Report.{Report}
use Rattle.run_text.specs.declared.report.Report.TheVariants.{Full, Brief}
use Rattle.wsc_top.specs.declared.task.RunOptions.{RunOptions}
use Rattle.wsc_top.specs.declared.task.GridOptions.{GridOptions}
use Rattle.wsc_top.specs.declared.task.JobTask.TheVariants.{Run, Format, Compile, Plain}
use Rattle.wsc_top.specs.declared.task.AssemblyTask.TheVariants as assembly

-- how a line asks for a run of which this is reported
abbrev pub options_of : Invocation → Report → RunOptions
options_of line report = record {
  workers = line.workers;
  decoupled = false;
  budget = line.budget;
  report = report;
}

-- how a line asks for a run with decoupled stores
abbrev pub decoupled_options : Invocation → RunOptions
decoupled_options line = record {
  workers = 1;
  decoupled = true;
  budget = line.budget;
  report = Full line.memory line.stats;
}

-- how a line asks for a run on a grid
abbrev pub grid_options : Invocation → GridOptions
grid_options line = record {
  elements = line.elements;
  waves = line.waves;
  budget = line.budget;
  memory = line.memory;
  stats = line.stats;
}

abbrev pub task_by : Command → Invocation → Task
task_by command.Run line = Job (Run (options_of line (Full line.memory line.stats)))
task_by command.Plain line = Job (Plain (record {
  turns = line.turns;
  memory = line.memory;
  stats = line.stats;
}))
task_by command.Format line = Job Format
task_by command.Compile line = Job Compile
task_by command.Check line = Assembly assembly.Check
task_by command.Exec line =
    Assembly (assembly.Exec (options_of line (Full line.memory line.stats)))
task_by command.List line = Assembly assembly.List
task_by command.Trace line = Assembly (assembly.Trace line.budget)
task_by command.Replay line = Assembly assembly.Replay
task_by command.Grid line = Assembly (assembly.Grid (grid_options line))
task_by command.Gen line = Generate line.number
task_by command.Bench line =
    Bench (record { number = line.number; run = options_of line Brief })
task_by command.Multi line = Multi (options_of line (Full line.memory line.stats))
task_by command.Decouple line = Assembly (assembly.Exec (decoupled_options line))

-- what a line asks for
abbrev pub task_of : Invocation → Task
task_of line = task_by line.command line

-- these words are a line that asks for this
abbrev pub AsksFor : List (List ℕ) → Task → Type 0
AsksFor words task = (line : Invocation) × lines.IsLine words line × (task_of line ≡ task)

-- these words are no line
abbrev pub IsNoLine : List (List ℕ) → Type 0
IsNoLine words = (task : Task) → AsksFor words task → ⊥
