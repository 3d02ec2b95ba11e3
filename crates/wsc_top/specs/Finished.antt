-- The status and the text by how the run of a crew ended.
use Rattle.std.specs.Prelude.{◌≡◌, ℕ, List}
use Rattle.ws_isa.specs.Image.{Array}
use Rattle.ws_isa.specs.Shown.{shown_cells}
use Rattle.store_buf.specs.declared.finish.RunFinish.{RunFinish}
use Rattle.store_buf.specs.declared.finish.RunFinish.TheVariants as finish
use Rattle.wsc_top.specs.declared.status.Status.{Status}
use Rattle.wsc_top.specs.declared.status.Status.TheVariants.{Done, Budget, Fault, PortFault}
use Rattle.run_text.specs.declared.report.Report.{Report}
use Rattle.run_text.specs.Texts.{shown_names, called}
use Rattle.run_text.specs.Reports.{end_report, fault_report, spent_report, failed_report}

-- Want of memory alone has none.
abbrev pub ReportsSo : Report → ℕ → List Array → RunFinish → Status → List ℕ → Type 0
ReportsSo report budget arrays (finish.Done printed rows fired) status out = (status ≡ Done)
    × (out ≡ end_report report (shown_names arrays) printed (shown_cells arrays rows) fired)
ReportsSo report budget arrays (finish.Budget printed fired) status out =
    (status ≡ Budget) × (out ≡ spent_report report printed budget)
ReportsSo report budget arrays (finish.Fault array printed rows) status out = (status ≡ Fault)
    × (out ≡ fault_report report (called arrays array) (shown_names arrays) printed
    (shown_cells arrays rows))
ReportsSo report budget arrays (finish.Port port printed) status out =
    (status ≡ PortFault port) × (out ≡ failed_report report printed port)
ReportsSo report budget arrays finish.NoMemory status out = ⊥
