-- Two answers of a run to one text are the same where nothing is left to the image.
use Rattle.std.specs.Prelude.{◌≡◌, ℕ, false, List, Option, Ok, Err, refl}
use Rattle.std.proofs.Common.{sym, ap, ◌∙◌, subst, arith}
use Rattle.ws_words.specs.Outside.{Outside, World, printed_words}
use Rattle.src_ast.specs.declared.fault.Refusal.{Refusal}
use Rattle.src_ast.specs.Syntax.{Part}
use Rattle.src_ast.specs.Once.{ExactlyOne}
use Rattle.ws_isa.specs.Image.{Image}
use Rattle.port_set.specs.Ports.{Told}
use Rattle.store_buf.specs.Outdoors.{world_with}
use Rattle.wsc_top.specs.declared.task.JobTask.TheVariants.{Run}
use Rattle.run_text.specs.declared.report.Report.{Report}
use Rattle.wsc_top.specs.declared.task.RunOptions.{RunOptions}
use Rattle.wsc_top.specs.declared.status.Status.{Status}
use Rattle.wsc_top.specs.declared.status.Status.TheVariants.{Done, Refused, Fault}
use Rattle.wsc_top.specs.Texts.{names_of, array_name}
use Rattle.asm_read.specs.Texts.{refusal_text}
use Rattle.wsc_top.specs.Executions.{tells_firings}
use Rattle.run_text.specs.Reports.{end_report, fault_report}
use Rattle.job_read.specs.Job.{IsJob, Refuses, IsTextAnswer}
use Rattle.wsc_top.specs.Answers.{TellsRun, Yields, ran, Answered, refused, done, IsFree}
use Rattle.wsc_top.specs.Answers as answers
use Rattle.wsc_top.proofs.Reading.AnswersOnce.{RunsOnce, Reply, same_reply}

-- where they aren't told, the firings don't matter
same_report : (report : Report) (names : List (List ℕ)) (words : List ℕ) (cells : List (List ℕ)) (m n : ℕ)
    → tells_firings report ≡ false
    → end_report report names words cells m ≡ end_report report names words cells n
same_report report names words cells m n e = grind arith

module _ (law : RunsOnce) (options : RunOptions) (parts : List Part) (world : World)
    (handed : List (Option Told)) where
  tells_alike : (s t : Status) (out more : List ℕ) (back other : List (Option Told))
      → TellsRun options parts world handed s out back → TellsRun options parts world handed t more other
      → IsFree options s → IsFree options t → ◌≡◌ {A = Reply} (s, out) (t, more)
  tells_alike s t out more back other (answers.TellsRun.ended n f end r w ports)
      (answers.TellsRun.ended m g last q v ends) a b =
      let same = law.one_end parts world n m end last r q in
      same_reply Done Done _ _ refl
      (ap (λ (o : Outside). end_report options.report (names_of parts) (printed_words o.acts) o.cells f)
      same.1
      ∙ same_report options.report (names_of parts) (printed_words last.acts) last.cells f g (a.2 refl))
  tells_alike s t out more back other (answers.TellsRun.ended n f end r w ports) (answers.TellsRun.faulted m
      array state q ends) a b = absurd (law.no_end_with_a_fault parts world n m array end state r q)
  tells_alike s t out more back other (answers.TellsRun.ended n f end r w ports)
      (answers.TellsRun.failed m port front rest act q on rose ends) a b = absurd (b.1 (port, refl))
  tells_alike s t out more back other (answers.TellsRun.faulted n array state q ports) (answers.TellsRun.ended
      m f end r w ends) a b = absurd (law.no_end_with_a_fault parts world m n array end state r q)
  tells_alike s t out more back other (answers.TellsRun.faulted n array state q ports)
      (answers.TellsRun.faulted m again there r ends) a b =
      let same = law.one_fault parts world n m array again state there q r in
      same_reply Fault Fault _ _ refl
      (ap (λ k. fault_report options.report (array_name (names_of parts) k) (names_of parts)
      (printed_words state.acts) state.cells) same.1
      ∙ ap (λ (o : Outside). fault_report options.report (array_name (names_of parts) again) (names_of parts)
      (printed_words o.acts) o.cells) same.2)
  tells_alike s t out more back other (answers.TellsRun.faulted n array state q ports)
      (answers.TellsRun.failed m port front rest act r on rose ends) a b = absurd (b.1 (port, refl))
  tells_alike s t out more back other (answers.TellsRun.spent n front rest q ports) x a b = absurd (a.0 refl)
  tells_alike s t out more back other (answers.TellsRun.failed n port front rest act q on rose ports) x a b =
      absurd (a.1 (port, refl))
  tells_alike s t out more back other x y a b = absurd (b.0 refl)

tells_of : (options : RunOptions) (parts : List Part) (input : List ℕ) (handed : List (Option Told))
    (status : Status) (out : List ℕ) (image : Option Image) (back : List (Option Told))
    → Yields (Run options) parts input handed status out image back
    → TellsRun options parts (world_with input handed) handed status out back
tells_of options parts input handed status out some back (ran image c x t) = t

abbrev pub Job : Type 0
Job = List Part × List ℕ

module _ (text : List ℕ) (once : ExactlyOne (IsTextAnswer text)) where
  pub one_refusal : (q r : Refusal) → Refuses text q → Refuses text r → q ≡ r
  one_refusal q r h k = let same = once.only (Err q) h ∙ sym (once.only (Err r) k) in cc

  pub refused_job : (r : Refusal) (parts : List Part) (input : List ℕ) → Refuses text r
      → IsJob text parts input → ⊥
  refused_job r parts input h j = let same = once.only (Err r) h ∙ sym (once.only (Ok (parts, input)) j) in cc

  pub one_job : (parts others : List Part) (input words : List ℕ) → IsJob text parts input
      → IsJob text others words → ◌≡◌ {A = Job} (parts, input) (others, words)
  one_job parts others input words j k = let same = once.only (Ok (parts, input)) j
      ∙ sym (once.only (Ok (others, words)) k) in cc

  module _ (options : RunOptions) (handed : List (Option Told)) where
    pub runs_alike : RunsOnce → (s t : Status) (out more : List ℕ) (image again : Option Image)
        (back other : List (Option Told)) → Answered (Run options) text handed s out image back
        → Answered (Run options) text handed t more again other → IsFree options s → IsFree options t
        → ◌≡◌ {A = Reply} (s, out) (t, more)
    runs_alike law s t out more image again back other (refused q h) (refused r k) a b =
        ap (λ x. (Refused, refusal_text x)) (one_refusal q r h k)
    runs_alike law s t out more image again back other (refused q h) (done parts input j y) a b =
        absurd (refused_job q parts input h j)
    runs_alike law s t out more image again back other (done parts input j y) (refused r k) a b =
        absurd (refused_job r parts input k j)
    runs_alike law s t out more image again back other (done parts input j y) (done others words k z) a b =
        tells_alike law options others (world_with words handed) handed s t out more back other (subst (λ (x :
        Job). TellsRun options x.0 (world_with x.1 handed) handed s out back) (one_job parts others input
        words j k) (grind (arith, tells_of))) (grind (arith, tells_of)) a b
