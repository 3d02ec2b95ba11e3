-- What a call comes to, by how its answer was made and went out.
use Rattle.std.specs.Prelude.{◌≡◌, ℕ, ◌≤◌, List, length, take, Option, Result, Err, IsOk, Some, OnErr, refl}
use Rattle.std.proofs.Common.{inl, inr, arith}
use Rattle.ws_io.specs.Streams.{Rose, Adds, Flushes}
use Rattle.src_ast.specs.Syntax.{Part}
use Rattle.ws_isa.specs.Image.{Image}
use Rattle.port_set.specs.Ports.{Told}
use Rattle.store_buf.specs.Outdoors.{RoseAt, world_with}
use Rattle.work_gen.specs.Job.{words_of}
use Rattle.wsc_words.specs.Lines.{HasCommand}
use Rattle.wsc_top.specs.declared.status.Status.{Status}
use Rattle.wsc_top.specs.declared.status.Status.TheVariants.{Usage, ReadFault, WriteFault, PortFault}
use Rattle.wsc_top.specs.declared.status.Status.TheVariants.{NoMemory}
use Rattle.wsc_top.specs.declared.task.Task.{Task}
use Rattle.wsc_top.specs.declared.task.Task.TheVariants.{Job, Assembly, Bench, Multi}
use Rattle.wsc_top.specs.declared.task.BenchOptions.{BenchOptions}
use Rattle.wsc_top.specs.declared.task.JobTask.{JobTask}
use Rattle.wsc_top.specs.declared.task.JobTask.TheVariants.{Run}
use Rattle.wsc_top.specs.declared.task.RunOptions.{RunOptions}
use Rattle.wsc_top.specs.declared.task.AssemblyTask.{AssemblyTask}
use Rattle.wsc_top.specs.Tasks.{AsksFor, IsNoLine}
use Rattle.wsc_top.specs.Generated.{IsGeneratedJob}
use Rattle.wsc_top.specs.Answers.{TellWords, JobEndsSo, AssemblyEndsSo, BenchEndsSo, IsToldJob}
use Rattle.wsc_top.specs.Answers.{IsToldAssembly, Answers}
use Rattle.wsc_top.specs.Jobs.{ProgramAndInput}
use Rattle.wsc_top.specs.Executions.{EndsRun}
use Rattle.wsc_top.specs.Threads.{Replies, Falls, AreToldJobs, MultiEndsSo, WalksEndSo}
use Rattle.wsc_top.specs.Codes.{code_of}
use Rattle.wsc_top.specs.Calls.{CallEnds, EndsWithCode, in_first}
use Rattle.asm_read.specs.Reads.{SourceCall}
use Rattle.run_text.specs.Writes.{Writing}
use Rattle.wsc_top.proofs.Calling.Tasks.{OneLine}
use Rattle.wsc_top.proofs.Calling.Calls.{unfailed, no_line_usage, generates, told_refused, told_unassembled}
use Rattle.wsc_top.proofs.Several.ThreadAnswers.{reply_not_memory, reply_not_write_fault, reply_read_rose}
use Rattle.wsc_top.proofs.Several.ThreadAnswers.{reply_port_rose, reply_no_line, reply_other, told_unjobs}
use Rattle.wsc_top.proofs.Several.ThreadAnswers.{ends_done}

-- an answer has the status that its run decides
pub record Decided : Type 0 where
  pub job : (words : List (List ℕ)) (left after : Option (List ℕ)) (faults counted : ℕ)
      (handed back : List (Option Told)) (status : Status) (out : List ℕ) (image : Option Image)
      (task : JobTask) (parts : List Part) (input : List ℕ)
      → Answers words left after faults counted handed status out image back
      → IsToldJob words left task parts input → TellWords handed → (status ≡ ReadFault → ⊥)
      → JobEndsSo task parts input handed status
  pub assembly : (words : List (List ℕ)) (left after : Option (List ℕ)) (faults counted : ℕ)
      (handed back : List (Option Told)) (status : Status) (out : List ℕ) (again : Option Image)
      (task : AssemblyTask) (image : Image) (input : List ℕ)
      → Answers words left after faults counted handed status out again back
      → (told : IsToldAssembly words left task image input) → (status ≡ ReadFault → ⊥)
      → AssemblyEndsSo task told.text image input handed status
  pub bench : (words : List (List ℕ)) (left after : Option (List ℕ)) (faults counted : ℕ)
      (handed back : List (Option Told)) (status : Status) (out : List ℕ) (image : Option Image)
      (options : BenchOptions) (parts : List Part)
      → Answers words left after faults counted handed status out image back → AsksFor words (Bench options)
      → IsGeneratedJob options.number parts → TellWords handed → BenchEndsSo options parts handed status
  pub threads : (words : List (List ℕ)) (left after : Option (List ℕ)) (faults counted : ℕ)
      (handed back : List (Option Told)) (status : Status) (out : List ℕ) (image : Option Image)
      (images : List Image) (options : RunOptions) (jobs : List ProgramAndInput)
      → Replies words left after faults counted handed status out image images back
      → AreToldJobs words left options jobs → TellWords handed → (status ≡ ReadFault → ⊥)
      → MultiEndsSo options jobs handed status
  pub walk : (words : List (List ℕ)) (left after : Option (List ℕ)) (faults counted : ℕ)
      (handed back : List (Option Told)) (status : Status) (out : List ℕ) (image : Option Image) (ran : Image)
      (options : RunOptions) (parts : List Part) (input : List ℕ)
      → Answers words left after faults counted handed status out image back
      → IsToldJob words left (Run options) parts input → image ≡ Some ran
      → EndsRun ran (world_with input handed) options.budget status
  pub bench_walk : (words : List (List ℕ)) (left after : Option (List ℕ)) (faults counted : ℕ)
      (handed back : List (Option Told)) (status : Status) (out : List ℕ) (image : Option Image) (ran : Image)
      (options : BenchOptions)
      → Answers words left after faults counted handed status out image back
      → AsksFor words (Bench options) → image ≡ Some ran
      → EndsRun ran (world_with (words_of options.number) handed) options.run.budget status
  pub walks : (words : List (List ℕ)) (left after : Option (List ℕ)) (faults counted : ℕ)
      (handed back : List (Option Told)) (status : Status) (out : List ℕ) (image : Option Image)
      (images : List Image) (options : RunOptions) (jobs : List ProgramAndInput)
      → Replies words left after faults counted handed status out image images back
      → AreToldJobs words left options jobs → (status ≡ ReadFault → ⊥)
      → WalksEndSo options images jobs handed status

-- what an answer that there is none says
pub starved_reply : {X E Q : Type 0} (answer : Result X E) (e : E) → answer ≡ Err e → OnErr answer Q → Q
starved_reply answer e is h = grind arith

pub not_ok : {X E : Type 0} (answer : Result X E) (e : E) → answer ≡ Err e → IsOk answer → ⊥
not_ok answer e is h = grind arith

-- words whose first is no command are no line
no_command : (words : List (List ℕ)) → (HasCommand words → ⊥) → IsNoLine words
no_command words h task line = h (line.1.command, line.1.rest, line.1.begins)

module _ (words : List (List ℕ)) (reads : SourceCall) (writes : Writing) (handed : List (Option Told)) where
  -- the whole answer went out
  module _ (one : OneLine) (law : Decided) (told : TellWords handed) (status : Status) (text : List ℕ)
      (image : Option Image) (images : List Image) (back : List (Option Told))
      (r : Replies words reads.left reads.after reads.faults reads.counted handed status text image images
      back) where
    well_read : (Rose reads.faults reads.counted → ⊥) → status ≡ ReadFault → ⊥
    well_read none e = grind (arith, reply_read_rose)

    rose_at : (port : ℕ) → status ≡ PortFault port → RoseAt port handed back
    rose_at = grind (arith, reply_port_rose)

    no_line_of : IsNoLine words → status ≡ Usage
    no_line_of none = grind (arith, no_line_usage, reply_no_line)

    answer_of : (task : Task) → AsksFor words task → ((o : RunOptions) → Multi o ≡ task → ⊥)
        → Answers words reads.left reads.after reads.faults reads.counted handed status text image back
    answer_of task line other = reply_other words reads.left reads.after reads.faults reads.counted handed
        status text image images back one task line other r

    job_of : (task : JobTask) (line : AsksFor words (Job task)) → Answers words reads.left reads.after
        reads.faults reads.counted handed status text image back
    job_of task line = answer_of (Job task) line (λ o e. absurd cc)

    assembly_of : (task : AssemblyTask) (line : AsksFor words (Assembly task))
        → Answers words reads.left reads.after reads.faults reads.counted handed status text image back
    assembly_of task line = answer_of (Assembly task) line (λ o e. absurd cc)

    job_ends : (task : JobTask) (parts : List Part) (input : List ℕ) → IsToldJob words reads.left task parts
        input → (Rose reads.faults reads.counted → ⊥) → JobEndsSo task parts input handed status
    job_ends task parts input told_job source =
        law.job words reads.left reads.after reads.faults reads.counted handed back status text image task
        parts input (job_of task told_job.line) told_job told (well_read source)

    jobs_end : (options : RunOptions) (jobs : List ProgramAndInput) → AreToldJobs words reads.left options
        jobs → (Rose reads.faults reads.counted → ⊥) → MultiEndsSo options jobs handed status
    jobs_end options jobs told_jobs source = law.threads words reads.left reads.after reads.faults
        reads.counted handed back status text image images options jobs r told_jobs told (well_read source)

    pub call_answered : (sent : List ℕ) → sent ≡ text → Adds writes.held sent writes.holds
        → Flushes writes.holds writes.flushed writes.covered → CallEnds words reads writes handed status image
        images back
    call_answered sent same adds flushes = record {
      answered = grind arith;
      cut = grind (arith, reply_not_write_fault);
      memory = grind (arith, reply_not_memory);
      read_fault = grind (arith, reply_read_rose);
      write_fault = grind (arith, reply_not_write_fault);
      port_fault = rose_at;
      usage = λ none sink. inl (no_line_of none);
      unknown = λ none sink. no_line_of (no_command words none);
      generated = λ number line sink. inl (generates words reads.left reads.after reads.faults reads.counted
          handed one status text image back (grind (arith, answer_of)) number line);
      benched = λ options parts line job sink. inl (law.bench words reads.left reads.after reads.faults
          reads.counted handed back status text image options parts (grind (arith, answer_of)) line job told);
      done = λ task parts input t ends source sink ports. unfailed handed back status _ rose_at ports
          ((job_ends task parts input t source).done ends);
      fault = λ task parts input t meets source sink ports. unfailed handed back status _ rose_at ports
          ((job_ends task parts input t source).fault meets);
      budget = λ task parts input t wants source sink ports. unfailed handed back status _ rose_at ports
          ((job_ends task parts input t source).budget wants);
      refused = λ task t source sink. inl (told_refused one words reads.left reads.after reads.faults
          reads.counted handed status text image back (job_of task t.line) task t (well_read source));
      assembled = λ task i input t source sink. inl (law.assembly words reads.left reads.after reads.faults
          reads.counted handed back status text image task i input (assembly_of task t.line) t (well_read
          source));
      unassembled = λ task t source sink. inl (told_unassembled one words reads.left reads.after reads.faults
          reads.counted handed status text image back (assembly_of task t.line) task t (well_read source));
      multiplied = grind (arith, jobs_end);
      multiplied_done = λ options jobs t ends source sink ports. unfailed handed back status _ rose_at ports
          (ends_done options jobs handed status (jobs_end options jobs t source) ends);
      unmultiplied = λ options t source sink. inl (told_unjobs one words reads.left reads.after reads.faults
          reads.counted handed options t status text image images back r (well_read source));
      decided = λ options parts input ran t is source sink. inl (law.walk words reads.left reads.after
          reads.faults reads.counted handed back status text image ran options parts input (job_of (Run
          options) t.line) t is);
      bench_decided = λ options ran line is sink. inl (law.bench_walk words reads.left reads.after
          reads.faults reads.counted handed back status text image ran options (grind (arith, answer_of)) line
          is);
      multi_decided = λ options jobs t source sink. inl (law.walks words reads.left reads.after reads.faults
          reads.counted handed back status text image images options jobs r t (well_read source));
    }

  -- a front of it went out, and writing failed
  pub call_cut : (would : Status) (text : List ℕ) (n : ℕ) (image : Option Image) (images : List Image)
      (back : List (Option Told))
      → Replies words reads.left reads.after reads.faults reads.counted handed would text image images back
      → (sent : List ℕ) → sent ≡ text → n ≤ length sent → Adds writes.held (take n sent) writes.holds
      → writes.covered ≡ writes.flushed → Rose writes.faults writes.counted
      → CallEnds words reads writes handed WriteFault image images back
  call_cut would text n image images back r sent same few adds kept rose = record {
    answered = λ a b. absurd (a refl);
    cut = grind arith;
    memory = λ e. absurd cc;
    read_fault = λ e. absurd cc;
    write_fault = λ e. rose;
    port_fault = λ port e. absurd cc;
    usage = λ none sink. absurd (sink rose);
    unknown = λ none sink. absurd (sink rose);
    generated = λ number line sink. absurd (sink rose);
    benched = λ options parts line job sink. absurd (sink rose);
    done = λ task parts input t ends source sink ports. absurd (sink rose);
    fault = λ task parts input t ends source sink ports. absurd (sink rose);
    budget = λ task parts input t ends source sink ports. absurd (sink rose);
    refused = λ task t source sink. absurd (sink rose);
    assembled = λ task i input t source sink. absurd (sink rose);
    unassembled = λ task t source sink. absurd (sink rose);
    multiplied = λ options jobs t source sink. absurd (sink rose);
    multiplied_done = λ options jobs t ends source sink ports. absurd (sink rose);
    unmultiplied = λ options t source sink. absurd (sink rose);
    decided = λ options parts input ran t is source sink. absurd (sink rose);
    bench_decided = λ options ran line is sink. absurd (sink rose);
    multi_decided = λ options jobs t source sink. absurd (sink rose);
  }

  -- memory ran out
  pub call_starved : (image : Option Image) (images : List Image) (back : List (Option Told))
      → Falls words reads.left reads.after handed image images back → writes.holds ≡ writes.held
      → writes.covered ≡ writes.flushed → ((HasCommand words → ⊥) → ⊥)
      → CallEnds words reads writes handed NoMemory image images back
  call_starved image images back falls held flushed known = record {
    answered = λ a b. absurd (b refl);
    cut = λ e. absurd cc;
    memory = λ e. (falls, held, flushed);
    read_fault = λ e. absurd cc;
    write_fault = λ e. absurd cc;
    port_fault = λ port e. absurd cc;
    usage = λ none sink. inr refl;
    unknown = λ none sink. absurd (known none);
    generated = λ number line sink. inr refl;
    benched = λ options parts line job sink. inr refl;
    done = λ task parts input t ends source sink ports. inr refl;
    fault = λ task parts input t ends source sink ports. inr refl;
    budget = λ task parts input t ends source sink ports. inr refl;
    refused = λ task t source sink. inr refl;
    assembled = λ task i input t source sink. inr refl;
    unassembled = λ task t source sink. inr refl;
    multiplied = λ options jobs t source sink. inr refl;
    multiplied_done = λ options jobs t ends source sink ports. inr refl;
    unmultiplied = λ options t source sink. inr refl;
    decided = λ options parts input ran t is source sink. inr refl;
    bench_decided = λ options ran line is sink. inr refl;
    multi_decided = λ options jobs t source sink. inr refl;
  }

-- of slots of which the first alone has a port
pub ends_alone : (words others : List (List ℕ)) (reads : SourceCall) (writes : Writing)
    (handed : List (Option Told)) (port : Told) (status : Status) (image : Option Image) (images : List Image)
    (back : List (Option Told)) (code : ℕ)
    → words ≡ others → handed ≡ in_first port → CallEnds words reads writes handed status image images back
    → code ≡ code_of status → EndsWithCode others reads writes port code
ends_alone words others reads writes handed port status image images back code same alone ends is =
    grind arith
