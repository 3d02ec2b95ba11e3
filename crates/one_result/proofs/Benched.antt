-- What `bench` tells of a generated job is what its result has.
use Rattle.std.specs.Prelude.{◌≡◌, ℕ, true, false, List, [], ◌++◌, Option, Some, refl}
use Rattle.std.proofs.Common.{ap, ◌∙◌, subst, inl, append-nil, arith}
use Rattle.ws_words.specs.Digits.{value_of}
use Rattle.ws_words.specs.Outside.{Outside, World, printed_words}
use Rattle.src_ast.specs.Once.{ExactlyOne}
use Rattle.src_ast.specs.Runs.{Runs}
use Rattle.src_ast.specs.Syntax.{Part}
use Rattle.ws_isa.specs.Image.{Image}
use Rattle.work_gen.specs.Job.{words_of, job_text}
use Rattle.port_set.specs.Ports.{Told}
use Rattle.store_buf.specs.Outdoors.{lefts_of, world_with}
use Rattle.wsc_top.specs.declared.status.Status.{Status}
use Rattle.wsc_top.specs.declared.status.Status.TheVariants.{Done}
use Rattle.wsc_top.specs.declared.task.Task.{Task}
use Rattle.wsc_top.specs.declared.task.Task.TheVariants.{Job, Assembly, Generate, Bench, Multi}
use Rattle.wsc_top.specs.declared.task.JobTask.TheVariants.{Run}
use Rattle.wsc_top.specs.declared.task.BenchOptions.{BenchOptions}
use Rattle.wsc_top.specs.declared.task.RunOptions.{RunOptions}
use Rattle.run_text.specs.declared.report.Report.TheVariants.{Brief}
use Rattle.job_read.specs.Job.{IsJob, IsTextAnswer}
use Rattle.asm_read.specs.Reads.{world_of}
use Rattle.wsc_top.specs.Tasks.{AsksFor}
use Rattle.wsc_top.specs.Texts.{names_of}
use Rattle.run_text.specs.Texts.{done_text, ended_text, summary_text}
use Rattle.wsc_top.specs.Answers as answers
use Rattle.wsc_top.specs.Answers.{Answers, Benched, TellsRun, Yields}
use Rattle.wsc_top.specs.Threads as threads
use Rattle.wsc_top.specs.Threads.{Replies, no_ports}
use Rattle.wsc_top.proofs.Reading.AnswersOnce.{RunsOnce}
use Rattle.wsc_top.proofs.Told.RunsAlike.{one_job}
use Rattle.one_result.specs.OneResult.{HasWritten}
use Rattle.one_result.specs.Others.{GivesNumber, OneBench, generate_commands, bench_commands}
use Rattle.one_result.proofs.Words.{asked}
use Rattle.one_result.proofs.Written.{IsGenerate, IsBench, is_told, told_reply, generate_kind, bench_kind}
use Rattle.one_result.proofs.Jobs.{ended, told_result, told_alike, silent_world}
use Rattle.one_result.proofs.Compiled.{JobsTold}

-- what `gen` writes is the text of the job
module _ (n : ℕ) (words : List (List ℕ)) (kind : (task : Task) → AsksFor words task → IsGenerate n task)
    (text : List ℕ) (after : Option (List ℕ)) (faults counted : ℕ) (handed : List (Option Told)) where
  generated_answer : (s : Status) (out : List ℕ) (image : Option Image) (back : List (Option Told))
      → is_told s ≡ true → Answers words (Some text) after faults counted handed s out image back
      → out ≡ job_text n
  generated_answer s out image back e (answers.Answers.generated k line left) =
      ap job_text (kind (Generate k) line)
  generated_answer s out image back e (answers.Answers.benched o line left b) = absurd (kind (Bench o) line)
  generated_answer s out image back e (answers.Answers.read task whole line short takes answered) =
      absurd (kind (Job task) line)
  generated_answer s out image back e (answers.Answers.assembled task whole line short takes answered) =
      absurd (kind (Assembly task) line)
  generated_answer s out image back e x = absurd cc

  generated_reply : (s : Status) (out : List ℕ) (image : Option Image) (images : List Image)
      (back : List (Option Told)) → is_told s ≡ true
      → Replies words (Some text) after faults counted handed s out image images back → out ≡ job_text n
  generated_reply s out image images back e (threads.Replies.alone answer) = grind (arith, generated_answer)
  generated_reply s out image images back e (threads.Replies.together o whole line short takes answered) =
      absurd (kind (Multi o) line)

generated_text : (number text job : List ℕ)
    → HasWritten generate_commands (GivesNumber number) text Done job → job ≡ job_text (value_of number)
generated_text number text job h = grind (arith, told_reply, generated_reply, generate_kind, asked)

-- what `bench` tells at the end of the job of a number
record BenchTold (n : ℕ) (out : List ℕ) : Type 0 where
  parts : List Part
  job : IsJob (job_text n) parts (words_of n)
  turns : ℕ
  end : Outside
  runs : Runs parts (world_of (words_of n)) turns end
  text_is : out ≡ summary_text (printed_words end.acts)

tells_brief : (options : RunOptions) (parts : List Part) (n : ℕ) (world : World) (handed : List (Option Told))
    (s : Status) (out : List ℕ) (back : List (Option Told)) → s ≡ Done → options.report ≡ Brief
    → world ≡ world_of (words_of n) → IsJob (job_text n) parts (words_of n)
    → TellsRun options parts world handed s out back → BenchTold n out
tells_brief options parts n world handed s out back e p w job (answers.TellsRun.ended turns fired end runs few
    ports) = grind arith
tells_brief options parts n world handed s out back e p w job
    (answers.TellsRun.faulted turn array state faults ports) = absurd cc
tells_brief options parts n world handed s out back e p w job
    (answers.TellsRun.spent turns front more does ports) = absurd cc
tells_brief options parts n world handed s out back e p w job
    (answers.TellsRun.failed turns port front more act does on rose ports) = absurd cc

yields_brief : (options : RunOptions) (parts : List Part) (n : ℕ) (handed : List (Option Told)) (s : Status)
    (out : List ℕ) (image : Option Image) (back : List (Option Told)) → s ≡ Done → options.report ≡ Brief
    → lefts_of handed ≡ lefts_of no_ports → IsJob (job_text n) parts (words_of n)
    → Yields (Run options) parts (words_of n) handed s out image back → BenchTold n out
yields_brief options parts n handed s out some back e p silent job (answers.Yields.ran image is executes
    tells) = tells_brief options parts n (world_with (words_of n) handed) handed s out back e p (silent_world
    (words_of n) handed silent) job tells

module _ (n : ℕ) (words : List (List ℕ)) (kind : (task : Task) → AsksFor words task → IsBench n task)
    (text : List ℕ) (after : Option (List ℕ)) (faults counted : ℕ) (handed : List (Option Told))
    (silent : lefts_of handed ≡ lefts_of no_ports) where
  bench_told : (options : BenchOptions) (out : List ℕ) (image : Option Image) (back : List (Option Told))
      (s : Status) → s ≡ Done → IsBench n (Bench options) → Benched options handed s out image back
      → BenchTold n out
  bench_told options out image back s e k b = grind (arith, yields_brief)

  bench_answer : (s : Status) (out : List ℕ) (image : Option Image) (back : List (Option Told)) → s ≡ Done
      → Answers words (Some text) after faults counted handed s out image back → BenchTold n out
  bench_answer s out image back e (answers.Answers.generated k line left) = absurd (kind (Generate k) line)
  bench_answer s out image back e (answers.Answers.benched o line left b) =
      bench_told o out image back s e (kind (Bench o) line) b
  bench_answer s out image back e (answers.Answers.read task whole line short takes answered) =
      absurd (kind (Job task) line)
  bench_answer s out image back e (answers.Answers.assembled task whole line short takes answered) =
      absurd (kind (Assembly task) line)
  bench_answer s out image back e x = absurd cc

  bench_reply : (s : Status) (out : List ℕ) (image : Option Image) (images : List Image)
      (back : List (Option Told)) → s ≡ Done
      → Replies words (Some text) after faults counted handed s out image images back → BenchTold n out
  bench_reply s out image images back e (threads.Replies.alone answer) = grind (arith, bench_answer)
  bench_reply s out image images back e (threads.Replies.together o whole line short takes answered) =
      absurd (kind (Multi o) line)

bench_text : (number text told : List ℕ) → HasWritten bench_commands (GivesNumber number) text Done told
    → BenchTold (value_of number) told
bench_text number text told h = grind (arith, told_reply, bench_reply, bench_kind, asked)

pub one_bench : RunsOnce → ((text : List ℕ) → ExactlyOne (IsTextAnswer text)) → JobsTold → OneBench
one_bench law once told number text job again reply out s h k x e =
    let n = value_of number in
    let b = bench_text number again reply k in
    let a = told false job s out x (told_result s e) in
    let there : IsJob (job_text n) a.parts a.input = subst (λ t. IsJob t a.parts a.input) (generated_text
    number text job h) a.job in
    let one = one_job (job_text n) (once (job_text n)) a.parts b.parts a.input (words_of n) there b.job in
    let text_of_end = ended_text false false (names_of b.parts) (printed_words b.end.acts) b.end.cells [] in
    let same = told_alike law false b.parts (words_of n) s Done out text_of_end e (inl refl) (grind arith)
    (ended b.turns b.end b.runs) in
    let words = printed_words b.end.acts in
    (same.0, (words, same.1 ∙ append-nil (done_text words ++ []) ∙ append-nil (done_text words), b.text_is))
