-- Runs with ports that have words left: two of one job, or of one assembly, tell the same and leave the ports
-- alike. And runs with the count of their firings.
use Rattle.std.specs.Prelude.{◌≡◌, ℕ, Bool, true, false, List, ◌++◌, length, Option, Some, refl}
use Rattle.std.proofs.Common.{subst, inl, inr, arith}
use Rattle.ws_words.specs.Outside.{Outside, World}
use Rattle.src_ast.specs.Once.{ExactlyOne}
use Rattle.src_ast.specs.Syntax.{Part}
use Rattle.ws_isa.specs.Image.{Image}
use Rattle.ws_isa.specs.Walk.{mem, walk}
use Rattle.ws_isa.specs.Operations.{effect_of}
use Rattle.df_core.specs.Began.{Began}
use Rattle.df_core.proofs.Parts.Issuing.{took_alike}
use Rattle.port_set.specs.Ports.{Told}
use Rattle.store_buf.specs.Outdoors.{SlotIs, world_with}
use Rattle.wsc_top.specs.declared.status.Status.{Status}
use Rattle.wsc_top.specs.declared.task.Task.TheVariants.{Job, Assembly}
use Rattle.wsc_top.specs.declared.task.JobTask.{JobTask}
use Rattle.wsc_top.specs.declared.task.JobTask.TheVariants.{Run, Plain, Format, Compile}
use Rattle.wsc_top.specs.declared.task.AssemblyTask.{AssemblyTask}
use Rattle.wsc_top.specs.declared.task.AssemblyTask.TheVariants as task
use Rattle.wsc_top.specs.declared.task.RunOptions.{RunOptions}
use Rattle.run_text.specs.declared.report.Report.TheVariants.{Full}
use Rattle.job_read.specs.Job.{IsJob, IsTextAnswer}
use Rattle.asm_read.specs.Assembly.{IsAssembly}
use Rattle.wsc_top.specs.Texts.{names_of}
use Rattle.wsc_top.specs.Executions.{Executes, PortsAre}
use Rattle.run_text.specs.Reports.{end_report}
use Rattle.wsc_top.specs.Executions as executions
use Rattle.wsc_top.specs.Answers as answers
use Rattle.wsc_top.specs.Answers.{TellWords, TellsRun, Answered, AssemblyAnswered}
use Rattle.wsc_top.proofs.Reading.AnswersOnce.{RunsOnce}
use Rattle.wsc_top.proofs.Told.RunsAlike as alike
use Rattle.wsc_top.proofs.Told.RunsAlike.{one_job}
use Rattle.wsc_top.proofs.Reading.AssembliesOnce.{WalksOnce, either_way, one_walk, one_effect}
use Rattle.asm_read.proofs.Once.{one_assembly}
use Rattle.wsc_top.proofs.Reading.AssembliesOnce.{one_time, no_fault_here}
use Rattle.wsc_top.proofs.Told.PortActs.{ports_moved}
use Rattle.wsc_top.proofs.Told.Tells.{WalksEnd, input_words, run_tells, given_words}
use Rattle.one_result.specs.OneResult.{HasFlags, CalledBy, IsResult, input_section}
use Rattle.one_result.specs.Others.{IsLeftAlike, AreLeftAlike, JobHasRunWith, with_job, with_code}
use Rattle.one_result.specs.Others.{OneResultWith, OneImageResultWith, OneRunCount, run_commands}
use Rattle.one_result.specs.Others.{crew_commands}
use Rattle.one_result.proofs.Written.{RunsCrew, RunsCrewImage, is_told, TextTold, run_written, crew_written}
use Rattle.one_result.proofs.Jobs.{told_result}
use Rattle.one_result.proofs.Images.{told_by_crew, images_alike}
use Rattle.one_result.proofs.Compiled.{Code, code_of}

-- ports that are where one run leaves them are alike
slots_alike : (began : Option Began) (left took : List ℕ) (p q : Option Told) → SlotIs began left took p
    → SlotIs began left took q → IsLeftAlike p q
slots_alike began left took p q h k = grind arith

ports_alike : (handed : List (Option Told)) (o : Outside) (back after : List (Option Told))
    → PortsAre handed o back → PortsAre handed o after → AreLeftAlike back after
ports_alike handed o back after h k slot low high = grind (arith, slots_alike)

-- two that tell of one run of a program
module _ (law : RunsOnce) (memory : Bool) (parts : List Part) (world : World) (handed : List (Option Told))
    (options others : RunOptions) (p : options.report ≡ Full memory false)
    (q : others.report ≡ Full memory false) where
  report_of_both : (ws : List ℕ) (rows : List (List ℕ)) (m n : ℕ)
      → end_report options.report (names_of parts) ws rows m
      ≡ end_report others.report (names_of parts) ws rows n
  report_of_both ws rows m n = grind arith

  tell_alike : (s t : Status) (out again : List ℕ) (back after : List (Option Told)) → IsResult s → IsResult t
      → TellsRun options parts world handed s out back → TellsRun others parts world handed t again after
      → (s ≡ t) × (out ≡ again) × AreLeftAlike back after
  tell_alike s t out again back after e f (answers.TellsRun.ended n fired end r few ports)
      (answers.TellsRun.ended m other last k less more) =
      let same = law.one_end parts world n m end last r k in
      grind (arith, report_of_both, ports_alike)
  tell_alike s t out again back after e f (answers.TellsRun.ended n fired end r few ports)
      (answers.TellsRun.faulted m array state k more) =
      absurd (law.no_end_with_a_fault parts world n m array end state r k)
  tell_alike s t out again back after e f (answers.TellsRun.faulted n array state k ports)
      (answers.TellsRun.ended m fired end r few more) =
      absurd (law.no_end_with_a_fault parts world m n array end state r k)
  tell_alike s t out again back after e f (answers.TellsRun.faulted n a state k ports)
      (answers.TellsRun.faulted m b there g more) =
      let same = law.one_fault parts world n m a b state there k g in
      (refl, grind arith, ports_alike handed there back after (grind arith) more)
  tell_alike s t out again back after (inl e) f (answers.TellsRun.spent n front rest does ports) x = absurd cc
  tell_alike s t out again back after (inr e) f (answers.TellsRun.spent n front rest does ports) x = absurd cc
  tell_alike s t out again back after (inl e) f (answers.TellsRun.failed n port front rest act does on rose
      ports) x = grind arith
  tell_alike s t out again back after (inr e) f (answers.TellsRun.failed n port front rest act does on rose
      ports) x = grind arith
  tell_alike s t out again back after e (inl f) x (answers.TellsRun.spent n front rest does ports) = absurd cc
  tell_alike s t out again back after e (inr f) x (answers.TellsRun.spent n front rest does ports) = absurd cc
  tell_alike s t out again back after e (inl f) x (answers.TellsRun.failed n port front rest act does on rose
      ports) = grind arith
  tell_alike s t out again back after e (inr f) x (answers.TellsRun.failed n port front rest act does on rose
      ports) = grind arith

-- the job of a text, and what a crew tells of it with these ports
record JobWith (memory : Bool) (text : List ℕ) (handed : List (Option Told)) (status : Status) (out : List ℕ)
    (back : List (Option Told)) : Type 0 where
  parts : List Part
  input : List ℕ
  job : IsJob text parts input
  options : RunOptions
  report : options.report ≡ Full memory false
  tells : TellsRun options parts (world_with input handed) handed status out back

-- an answer of `run` with its image
pub record RunWith (memory stats : Bool) (text : List ℕ) (handed : List (Option Told)) (status : Status)
    (out : List ℕ) (found : Option Image) (back : List (Option Told)) : Type 0 where
  pub parts : List Part
  pub input : List ℕ
  pub job : IsJob text parts input
  pub options : RunOptions
  pub report : options.report ≡ Full memory stats
  pub image : Image
  pub found_is : found ≡ Some image
  pub executes : Executes options image (world_with input handed) handed status out back
  pub tells : TellsRun options parts (world_with input handed) handed status out back

run_answer : (memory stats : Bool) (job : JobTask) (text : List ℕ) (handed : List (Option Told)) (s : Status)
    (out : List ℕ) (image : Option Image) (back : List (Option Told)) → RunsCrew memory stats (Job job)
    → is_told s ≡ true → Answered job text handed s out image back
    → RunWith memory stats text handed s out image back
run_answer memory stats (Run options) text handed s out image back k e (answers.Answered.refused r why) =
    absurd cc
run_answer memory stats (Run options) text handed s out found back k e (answers.Answered.done parts input job
    (answers.Yields.ran image is executes tells)) = grind arith
run_answer memory stats (Plain options) text handed s out image back k e a = absurd k
run_answer memory stats Format text handed s out image back k e a = absurd k
run_answer memory stats Compile text handed s out image back k e a = absurd k

run_told : (memory stats : Bool) (text : List ℕ) (handed : List (Option Told)) (s : Status) (out : List ℕ)
    (image : Option Image) (back : List (Option Told)) → is_told s ≡ true
    → TextTold (RunsCrew memory stats) text handed s out image back
    → RunWith memory stats text handed s out image back
run_told memory stats text handed s out image back e x = grind (arith, run_answer)

called_run : (memory stats : Bool) (text : List ℕ) (handed : List (Option Told)) (s : Status) (out : List ℕ)
    (image : Option Image) (back : List (Option Told))
    → CalledBy run_commands (HasFlags memory stats) text handed s out image back → is_told s ≡ true
    → RunWith memory stats text handed s out image back
called_run memory stats text handed s out image back c e = run_told memory stats text handed s out image back
    e (run_written text handed s out image back e memory stats c)

-- an answer of `exec` or `decouple`
record CrewWith (memory stats : Bool) (text : List ℕ) (handed : List (Option Told)) (status : Status)
    (out : List ℕ) (back : List (Option Told)) : Type 0 where
  image : Image
  input : List ℕ
  assembly : IsAssembly text image input
  options : RunOptions
  report : options.report ≡ Full memory stats
  executes : Executes options image (world_with input handed) handed status out back

crew_answer : (memory stats : Bool) (job : AssemblyTask) (text : List ℕ) (handed : List (Option Told))
    (s : Status) (out : List ℕ) (image : Option Image) (back : List (Option Told))
    → RunsCrewImage memory stats (Assembly job) → is_told s ≡ true
    → AssemblyAnswered job text handed s out image back → CrewWith memory stats text handed s out back
crew_answer memory stats (task.Exec options) text handed s out image back k e
    (answers.AssemblyAnswered.refused r why) = absurd cc
crew_answer memory stats (task.Exec options) text handed s out again back k e (answers.AssemblyAnswered.done
    image input is (answers.AssemblyYields.executed x)) = grind arith
crew_answer memory stats (task.Grid options) text handed s out image back k e a = absurd k
crew_answer memory stats task.Check text handed s out image back k e a = absurd k
crew_answer memory stats task.List text handed s out image back k e a = absurd k
crew_answer memory stats (task.Trace budget) text handed s out image back k e a = absurd k
crew_answer memory stats task.Replay text handed s out image back k e a = absurd k

crew_told : (memory stats : Bool) (text : List ℕ) (handed : List (Option Told)) (s : Status) (out : List ℕ)
    (image : Option Image) (back : List (Option Told)) → is_told s ≡ true
    → TextTold (RunsCrewImage memory stats) text handed s out image back
    → CrewWith memory stats text handed s out back
crew_told memory stats text handed s out image back e x = grind (arith, crew_answer)

called_crew : (memory stats : Bool) (text : List ℕ) (handed : List (Option Told)) (s : Status) (out : List ℕ)
    (image : Option Image) (back : List (Option Told))
    → CalledBy crew_commands (HasFlags memory stats) text handed s out image back → is_told s ≡ true
    → CrewWith memory stats text handed s out back
called_crew memory stats text handed s out image back c e = crew_told memory stats text handed s out image
    back e (crew_written text handed s out image back e memory stats c)

-- an assembly of the code of a text
abbrev pub CodesRead : Type 0
CodesRead = (text code : List ℕ) (a : Code text code)
    → IsAssembly (code ++ input_section text) a.image a.input

module _ (law : RunsOnce) (once : (text : List ℕ) → ExactlyOne (IsTextAnswer text)) (known : WalksOnce)
    (whole : WalksEnd) (codes_read : CodesRead) where
  code_with : (memory : Bool) (text code : List ℕ) (handed : List (Option Told)) (s : Status) (out : List ℕ)
      (back : List (Option Told)) → TellWords handed → Code text code
      → CrewWith memory false (code ++ input_section text) handed s out back
      → JobWith memory text handed s out back
  code_with memory text code handed s out back told a d =
      let there = code ++ input_section text in
      let words = input_words _ _ a.input a.job.words in
      let same = one_assembly there d.image a.image d.input a.input d.assembly (codes_read text code a) in
      grind (arith, run_tells, given_words)

  job_with : (memory : Bool) (text : List ℕ) (handed : List (Option Told)) (s : Status) (out : List ℕ)
      (back : List (Option Told)) → is_told s ≡ true → JobHasRunWith memory text handed s out back
      → JobWith memory text handed s out back
  job_with memory text handed s out back e (with_job image c) =
      grind (arith, called_run memory false text handed s out image back c e)
  job_with memory text handed s out back e (with_code image code is c) =
      code_with memory text code handed s out back c.called.told (code_of text code is)
      (called_crew memory false (code ++ input_section text) handed s out image back c e)

  pub one_result_with : OneResultWith
  one_result_with memory text handed back after s t out again h k e f =
      let a = job_with memory text handed s out back (told_result s e) h in
      let b = job_with memory text handed t again after (told_result t f) k in
      let one = one_job text (once text) a.parts b.parts a.input b.input a.job b.job in
      tell_alike law memory b.parts (world_with b.input handed) handed a.options b.options a.report b.report s
      t out again back after e f (grind arith) b.tells

-- two runs of one image leave the ports alike
module _ (known : WalksOnce) (image : Image) (world : World) (handed : List (Option Told)) where
  left_alike : (options others : RunOptions) (s t : Status) (out again : List ℕ)
      (back after : List (Option Told)) → IsResult s → IsResult t
      → Executes options image world handed s out back → Executes others image world handed t again after
      → AreLeftAlike back after
  left_alike options others s t out again back after e f (executions.Executes.rested n none cost le ports)
      (executions.Executes.rested m clean most fits more) =
      let many : length (walk image world n) ≡ length (walk image world m) = omega (arith, cost m, most n) in
      let same : effect_of (mem image world n) ≡ effect_of (mem image world m) =
      grind (arith, one_effect, one_walk, either_way) in
      grind (arith, ports_alike, ports_moved, took_alike)
  left_alike options others s t out again back after e f (executions.Executes.rested n none cost le ports)
      (executions.Executes.stopped m fault more) = grind (arith, no_fault_here)
  left_alike options others s t out again back after e f (executions.Executes.stopped n fault ports)
      (executions.Executes.rested m none cost le more) = grind (arith, no_fault_here)
  left_alike options others s t out again back after e f (executions.Executes.stopped n fault ports)
      (executions.Executes.stopped m past more) =
      grind (arith, ports_alike, one_time known image world n m fault past)
  left_alike options others s t out again back after (inl e) f (executions.Executes.spent n h ports) x =
      absurd cc
  left_alike options others s t out again back after (inr e) f (executions.Executes.spent n h ports) x =
      absurd cc
  left_alike options others s t out again back after (inl e) f (executions.Executes.failed n port y is on
      within rose ports) x = grind arith
  left_alike options others s t out again back after (inr e) f (executions.Executes.failed n port y is on
      within rose ports) x = grind arith
  left_alike options others s t out again back after e (inl f) x (executions.Executes.spent n h ports) =
      absurd cc
  left_alike options others s t out again back after e (inr f) x (executions.Executes.spent n h ports) =
      absurd cc
  left_alike options others s t out again back after e (inl f) x (executions.Executes.failed n port y is on
      within rose ports) = grind arith
  left_alike options others s t out again back after e (inr f) x (executions.Executes.failed n port y is on
      within rose ports) = grind arith

pub one_image_result_with : WalksOnce → OneImageResultWith
one_image_result_with known memory text handed back after image instead s t out again h k e f =
    let a = called_crew memory false text handed s out image back h (told_result s e) in
    let b = called_crew memory false text handed t again instead after k (told_result t f) in
    let one = one_assembly text a.image b.image a.input b.input a.assembly b.assembly in
    let run = subst (λ ws. Executes a.options b.image (world_with ws handed) handed s out back) one.1 (grind
    arith) in
    let same = images_alike known memory false b.image (world_with b.input handed) s t out again e f
    (told_by_crew memory false b.image (world_with b.input handed) a.options handed s out back a.report
    (told_result s e) run) (grind (arith, told_by_crew, told_result)) in
    grind (arith, left_alike)

-- two runs of a job on one image fire as often
pub one_run_count : WalksOnce → ((text : List ℕ) → ExactlyOne (IsTextAnswer text)) → OneRunCount
one_run_count known once memory text handed back after image s t out again h k e f =
    let a = called_run memory true text handed s out (Some image) back h (told_result s e) in
    let b = called_run memory true text handed t again (Some image) after k (told_result t f) in
    let one = one_job text (once text) a.parts b.parts a.input b.input a.job b.job in
    let image_is : a.image ≡ b.image = cc in
    let run = subst (λ (x : alike.Job). Executes a.options b.image (world_with x.1 handed) handed s out back)
    one (grind arith) in
    images_alike known memory true b.image (world_with b.input handed) s t out again e f
    (grind (arith, told_by_crew, told_result)) (grind (arith, told_by_crew, told_result))
