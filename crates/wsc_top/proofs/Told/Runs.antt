-- What comes of the run of an image, by how the run ended.
use Rattle.std.specs.Prelude.{◌≡◌, ℕ, ◌≤◌, List, Option, Result, IfOk}
use Rattle.std.proofs.Common.{arith}
use Rattle.ws_words.specs.Outside.{World}
use Rattle.ws_isa.specs.Image.{Array, Image, array_at}
use Rattle.ws_isa.specs.Shown.{shown_cells}
use Rattle.port_set.specs.Ports.{Told}
use Rattle.store_buf.specs.declared.finish.RunFinish.{RunFinish}
use Rattle.store_buf.specs.declared.finish.RunFinish.TheVariants as finish
use Rattle.store_buf.specs.Ended.{RunWhole, Spent, Tripped, PortFailed}
use Rattle.store_buf.specs.Answer.{RunTells}
use Rattle.wsc_top.specs.declared.status.Status.{Status}
use Rattle.wsc_top.specs.declared.status.Status.TheVariants.{Done, Budget, Fault, PortFault}
use Rattle.wsc_top.specs.declared.task.RunOptions.{RunOptions}
use Rattle.run_text.specs.Texts.{shown_names, called}
use Rattle.wsc_top.specs.Executions.{Executes, rested, spent, stopped, failed, HasBegun, EndsRun}
use Rattle.run_text.specs.Reports.{end_report}
use Rattle.run_text.specs.Reports.{fault_report, spent_report, failed_report}
use Rattle.wsc_top.specs.Finished.{ReportsSo}
use Rattle.df_core.proofs.Telling.Saying.{no_fault_at}

module _ (options : RunOptions) (image : Image) (world : World) (handed back : List (Option Told)) where
  so : (s status : Status) (o out : List ℕ) → status ≡ s → out ≡ o → Executes options image world handed s o
      back → Executes options image world handed status out back
  so s status o out e f x = grind arith

  -- the whole walk has been run
  rested_so : (printed : List ℕ) (rows : List (List ℕ)) (fired : ℕ) → fired ≤ options.budget
      → RunWhole image world handed printed rows fired back → (status : Status) (out : List ℕ)
      → status ≡ Done → out ≡ end_report options.report (shown_names image.arrays) printed
      (shown_cells image.arrays rows) fired → Executes options image world handed status out back
  rested_so printed rows fired le r status out e f =
      let names = shown_names image.arrays in
      let t = r.time in
      so Done status _ out e (grind arith) (rested t r.no_fault (grind arith) (grind arith) r.ports)

  -- the budget is spent
  spent_so : (printed : List ℕ) → Spent image world handed options.budget printed back
      → (status : Status) (out : List ℕ)
      → status ≡ Budget → out ≡ spent_report options.report printed options.budget
      → Executes options image world handed status out back
  spent_so printed r status out e f = so Budget status _ out e (grind arith) (spent r.time (grind arith)
      r.ports)

  -- a load or store past the end stopped it
  stopped_so : (array : ℕ) (printed : List ℕ) (rows : List (List ℕ)) → Tripped image world handed array
      printed rows back → (status : Status) (out : List ℕ)
      → status ≡ Fault → out ≡ fault_report options.report (called image.arrays array)
      (shown_names image.arrays) printed (shown_cells image.arrays rows)
      → Executes options image world handed status out back
  stopped_so array printed rows r status out e f =
      let names = shown_names image.arrays in
      let t = r.time in
      let at : ℕ = array_at image r.fault.inst.instr in
      so Fault status _ out e (grind arith) (stopped t r.fault r.ports)

  -- a port failed
  failed_so : (port : ℕ) (printed : List ℕ) → PortFailed image world handed port printed back
      → (status : Status) (out : List ℕ)
      → status ≡ PortFault port → out ≡ failed_report options.report printed port
      → Executes options image world handed status out back
  failed_so port printed r status out e f = so (PortFault port) status _ out e (grind arith) (failed r.time
      port r.inst r.fires r.port_is r.within r.rose r.ports)

  pub run_executes : (finish : RunFinish) (status : Status) (out : List ℕ)
      → RunTells image world handed options.budget finish back
      → ReportsSo options.report options.budget image.arrays finish status out
      → Executes options image world handed status out back
  run_executes (finish.Done printed rows fired) status out h r = rested_so printed rows fired h.0 h.1 status
      out r.0 r.1
  run_executes (finish.Budget printed fired) status out h r = spent_so printed h.1 status out r.0 r.1
  run_executes (finish.Fault array printed rows) status out h r = stopped_so array printed rows h status out
      r.0 r.1
  run_executes (finish.Port port printed) status out h r = failed_so port printed h status out r.0 r.1
  run_executes finish.NoMemory status out h r = absurd r

  -- however it ended, it had begun
  pub run_begun : (budget : ℕ) (finish : RunFinish) → RunTells image world handed budget finish back
      → HasBegun image world handed back
  run_begun budget finish h = grind arith

  -- its status
  pub run_ends : (status : Status) (out : List ℕ) → Executes options image world handed status out back
      → EndsRun image world options.budget status
  run_ends status out (rested t none cost le ports) = grind (arith, no_fault_at)
  run_ends status out (spent t s ports) = grind arith
  run_ends status out (stopped t f ports) = grind (arith, no_fault_at)
  run_ends status out (failed t port x fires on within rose ports) = grind arith

-- the answer of a run that told this
pub executed_so : {E : Type 0} (options : RunOptions) (image : Image) (world : World)
    (handed back : List (Option Told)) (finish : RunFinish) (arrays : List Array)
    (answer : Result (Status × List ℕ) E)
    → RunTells image world handed options.budget finish back → arrays ≡ image.arrays
    → IfOk answer (λ y. ReportsSo options.report options.budget arrays finish y.0 y.1)
    → IfOk answer (λ y. Executes options image world handed y.0 y.1 back)
executed_so options image world handed back finish arrays answer tells is h = grind (arith, run_executes)
