-- What comes of `grid`.
use Rattle.std.specs.Prelude.{◌≡◌, ℕ, ◌≤◌, Bool, List, [], ◌++◌, codes, decimal, if◌then◌else◌}
use Rattle.ws_isa.specs.Image.{Image, Array}
use Rattle.ws_isa.specs.Shown.{shown_cells}
use Rattle.df_core.specs.declared.drive.Finish.{Finish}
use Rattle.df_core.specs.declared.drive.Finish.TheVariants as finish
use Rattle.grid_clock.specs.declared.run.Clocked.{Clocked}
use Rattle.grid_clock.specs.Schedule.{Grid}
use Rattle.grid_clock.specs.Clocks.{Clocks}
use Rattle.wsc_top.specs.declared.status.Status.{Status}
use Rattle.wsc_top.specs.declared.status.Status.TheVariants.{Done, Budget, Fault}
use Rattle.run_text.specs.declared.report.Report.{Report}
use Rattle.run_text.specs.declared.report.Report.TheVariants.{Full}
use Rattle.wsc_top.specs.declared.task.GridOptions.{GridOptions}
use Rattle.wsc_top.specs.declared.task.AssemblyTask.{AssemblyTask}
use Rattle.wsc_top.specs.declared.task.AssemblyTask.TheVariants as task
use Rattle.asm_read.specs.Reads.{world_of}
use Rattle.run_text.specs.Texts.{shown_names, called}
use Rattle.run_text.specs.Reports.{end_report, spent_report, fault_report}

-- the numbers of a grid are those that it may have
abbrev pub InRange : GridOptions → Type 0
InRange options = (1 ≤ options.elements) × (options.elements ≤ 64) × (1 ≤ options.waves)
    × (options.budget ≤ 100000)

-- so are those of a task, where it is one of a grid
abbrev pub TaskInRange : AssemblyTask → Type 0
TaskInRange (task.Grid options) = InRange options
TaskInRange _ = Unit {0}

-- the grid that is asked for
abbrev pub grid_of : GridOptions → Image → Grid
grid_of options image = record {
  image = image;
  elements = options.elements;
  waves = options.waves;
  budget = options.budget;
}

-- what is reported of a run on it, as of any run
abbrev pub report_of : GridOptions → Report
report_of options = Full options.memory options.stats

-- a line for the cycles of a run
abbrev pub cycles_line : ℕ → List ℕ
cycles_line n = codes "cycles " ++ decimal n ++ codes "\n"

-- the same where it is asked for
abbrev pub maybe_cycles : Bool → ℕ → List ℕ
maybe_cycles stats n = if stats then cycles_line n else []

-- the status by how the run ended
abbrev pub clocked_status : Finish → Status
clocked_status finish.Rest = Done
clocked_status finish.Budget = Budget
clocked_status (finish.Fault array) = Fault

-- what is reported of a run on a grid that ended so: what is reported of any run, and its cycles behind its
-- firings
abbrev pub finish_text : GridOptions → List Array → Clocked → Finish → List ℕ
finish_text options arrays c finish.Rest =
    end_report (report_of options) (shown_names arrays) c.printed (shown_cells arrays c.cells) c.fired
    ++ maybe_cycles options.stats c.cycles
finish_text options arrays c finish.Budget =
    spent_report (report_of options) c.printed options.budget ++ maybe_cycles options.stats c.cycles
finish_text options arrays c (finish.Fault array) =
    fault_report (report_of options) (called arrays array) (shown_names arrays) c.printed
    (shown_cells arrays c.cells)

abbrev pub clocked_text : GridOptions → List Array → Clocked → List ℕ
clocked_text options arrays c = finish_text options arrays c c.finish

-- `grid` runs the image on the grid that is asked for, with nothing left in any port
pub record IsClocked (options : GridOptions) (image : Image) (input : List ℕ) (status : Status)
    (out : List ℕ) : Type 0 where
  pub run : Clocked
  pub clocks : Clocks (grid_of options image) (world_of input) run
  pub status_is : status ≡ clocked_status run.finish
  pub text_is : out ≡ clocked_text options image.arrays run
