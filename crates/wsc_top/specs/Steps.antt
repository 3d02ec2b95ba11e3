-- What is to be done for the words of a call, at each stage of reading them.
use Rattle.std.specs.Prelude.{◌≡◌, ℕ, List, [], Option, None}
use Rattle.src_ast.specs.Syntax.{Part}
use Rattle.ws_isa.specs.Image.{Image}
use Rattle.port_set.specs.Ports.{Told}
use Rattle.wsc_top.specs.declared.status.Status.TheVariants.{Refused}
use Rattle.wsc_top.specs.declared.batch.JobsRefusal.{JobsRefusal}
use Rattle.wsc_top.specs.declared.task.RunOptions.{RunOptions}
use Rattle.wsc_top.specs.declared.step.CallStep.{CallStep}
use Rattle.wsc_top.specs.declared.step.CallStep.TheVariants.{Ready, Run as Due, Threads as Many}
use Rattle.wsc_top.specs.declared.task.JobTask.{JobTask}
use Rattle.wsc_top.specs.declared.task.JobTask.TheVariants.{Run, Compile}
use Rattle.wsc_top.specs.declared.task.AssemblyTask.{AssemblyTask}
use Rattle.wsc_top.specs.declared.task.AssemblyTask.TheVariants.{Exec}
use Rattle.job_read.specs.Job.{IsJob}
use Rattle.asm_read.specs.Assembly.{IsAssembly}
use Rattle.wsc_top.specs.Answers.{Yields, Answered, AssemblyYields, AssemblyAnswered, IsDue}
use Rattle.wave_build.specs.Compiled.{IsCompiled}
use Rattle.wsc_top.specs.Answers.{RunsClosed, assembly_text}
use Rattle.wsc_top.specs.Jobs.{RefusesJobs, jobs_refusal_text}
use Rattle.wsc_top.specs.Threads.{Replies, Thread, AreDue, images_of, inputs_of}
use Rattle.wsc_top.specs.Running.{AreRead}

-- of a task to a program and its input words
abbrev pub YieldStep : JobTask → List Part → List ℕ → CallStep → Type 0
YieldStep task parts input (Ready status out image) =
    (handed : List (Option Told)) → Yields task parts input handed status out image handed
YieldStep task parts input (Due options image words) =
    (task ≡ Run options) × (words ≡ input) × IsCompiled parts image
YieldStep task parts input (Many options jobs) = ⊥

-- where memory ran out: a task to a program wants this image written
abbrev pub IsBegun : JobTask → List Part → Image → Type 0
IsBegun task parts image = (task ≡ Compile) × IsCompiled parts image

-- a task to the text of a job does
abbrev pub JobBegun : JobTask → List ℕ → Image → Type 0
JobBegun task text image = (parts : List Part) × (input : List ℕ) × IsJob text parts input
    × IsBegun task parts image

-- a task to the text of an assembly wants this image run without ports
abbrev pub AssemblyBegun : AssemblyTask → List ℕ → Image → Type 0
AssemblyBegun task text image = (input : List ℕ) × IsAssembly (assembly_text task text) image input
    × RunsClosed task text

-- of a task to the text of a job
abbrev pub JobStep : JobTask → List ℕ → CallStep → Type 0
JobStep task text (Ready status out image) =
    (handed : List (Option Told)) → Answered task text handed status out image handed
JobStep task text (Due options image words) =
    (task ≡ Run options) × (parts : List Part) × IsJob text parts words × IsCompiled parts image
JobStep task text (Many options jobs) = ⊥

-- of a task to a sound image and its input words
abbrev pub AssemblyYieldStep : AssemblyTask → List ℕ → Image → List ℕ → CallStep → Type 0
AssemblyYieldStep task text image input (Ready status out again) = (handed : List (Option Told))
    → AssemblyYields task text image input handed status out again handed
AssemblyYieldStep task text image input (Due options found words) =
    (task ≡ Exec options) × (found ≡ image) × (words ≡ input)
AssemblyYieldStep task text image input (Many options jobs) = ⊥

-- of a task to the text of an assembly
abbrev pub AssemblyStep : AssemblyTask → List ℕ → CallStep → Type 0
AssemblyStep task text (Ready status out image) =
    (handed : List (Option Told)) → AssemblyAnswered task text handed status out image handed
AssemblyStep task text (Due options image words) =
    (task ≡ Exec options) × IsAssembly text image words
AssemblyStep task text (Many options jobs) = ⊥

-- of the text of the jobs of several threads
abbrev pub JobsStep : RunOptions → List ℕ → CallStep → Type 0
JobsStep options text (Ready status out image) = (status ≡ Refused) × (image ≡ None)
    × (r : JobsRefusal) × RefusesJobs text r × (out ≡ jobs_refusal_text r)
JobsStep options text (Due found image words) = ⊥
JobsStep options text (Many found jobs) =
    (found ≡ options) × AreRead text jobs.images.items jobs.inputs.items

-- of the words themselves
abbrev pub StepSo : List (List ℕ) → Option (List ℕ) → Option (List ℕ) → ℕ → ℕ → CallStep → Type 0
StepSo words left after faults counted (Ready status out image) = (handed : List (Option Told))
    → Replies words left after faults counted handed status out image [] handed
StepSo words left after faults counted (Due options image input) =
    IsDue words left after options image input
StepSo words left after faults counted (Many options jobs) =
    (threads : List Thread) × AreDue words left after options threads
    × (images_of threads ≡ jobs.images.items) × (inputs_of threads ≡ jobs.inputs.items)
