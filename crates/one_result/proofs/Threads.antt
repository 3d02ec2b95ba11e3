-- What the threads of `multi` tell is what their jobs tell by themselves.
use Rattle.std.specs.Prelude.{◌≡◌, ◌⊎◌, ℕ, suc, Bool, true, false, List, ◌∷◌, Option, Some, refl}
use Rattle.std.specs.List.{AllByRecursion}
use Rattle.std.proofs.Common.{sym, subst, arith}
use Rattle.src_ast.specs.Once.{ExactlyOne}
use Rattle.src_ast.specs.Syntax.{Part}
use Rattle.ws_words.specs.Outside.{World}
use Rattle.ws_isa.specs.Image.{Image}
use Rattle.port_set.specs.Ports.{Told}
use Rattle.store_buf.specs.Outdoors.{lefts_of, world_with}
use Rattle.wsc_top.specs.declared.status.Status.{Status}
use Rattle.wsc_top.specs.declared.status.Status.TheVariants.{Budget}
use Rattle.wsc_top.specs.declared.task.Task.{Task}
use Rattle.wsc_top.specs.declared.task.Task.TheVariants.{Job, Assembly, Generate, Bench, Multi}
use Rattle.wsc_top.specs.declared.task.JobTask.TheVariants.{Run}
use Rattle.wsc_top.specs.declared.task.RunOptions.{RunOptions}
use Rattle.run_text.specs.declared.report.Report.TheVariants.{Full}
use Rattle.job_read.specs.Job.{IsTextAnswer}
use Rattle.wsc_top.specs.Jobs.{Piece, Jobs}
use Rattle.wsc_top.specs.Executions.{IsFailed}
use Rattle.wsc_top.specs.Tasks.{AsksFor}
use Rattle.wsc_top.specs.Answers as answers
use Rattle.wsc_top.specs.Answers.{Answers, Yields, TellsRun}
use Rattle.wsc_top.specs.Threads as threads
use Rattle.wsc_top.specs.Threads.{Replies, Thread, ThreadsDo, RunsAlone, HasJob, MultiAnswered, pieces_of}
use Rattle.wsc_top.specs.Threads.{no_ports, status_of}
use Rattle.wsc_top.proofs.Reading.AnswersOnce.{RunsOnce}
use Rattle.wsc_top.proofs.Several.ThreadAnswers.{yields_never_fails}
use Rattle.one_result.specs.OneResult.{HasFlags, HasWritten, IsResult}
use Rattle.one_result.specs.Others as others
use Rattle.one_result.specs.Others.{IsOfJob, AreOfJobs, texts_of, multi_commands}
use Rattle.one_result.proofs.Words.{asked}
use Rattle.one_result.proofs.Written.{IsMulti, is_told, told_reply, multi_kind}
use Rattle.one_result.proofs.Jobs.{TextJob, told_by_task, told_result, jobs_alike}
use Rattle.one_result.proofs.Fronts.{Fronts, texts_begin}
use Rattle.one_result.proofs.Compiled.{JobsTold}

-- the statuses of runs
abbrev IsEnd : Status → Type 0
IsEnd s = IsResult s ⊎ (s ≡ Budget)

told_end : (s : Status) → IsEnd s → is_told s ≡ true
told_end s x = grind (arith, told_result, is_told)

tells_end : (options : RunOptions) (parts : List Part) (world : World) (handed : List (Option Told))
    (s : Status) (out : List ℕ) (back : List (Option Told)) → TellsRun options parts world handed s out back
    → (IsFailed s → ⊥) → IsEnd s
tells_end options parts world handed s out back x f = grind arith

yields_end : (options : RunOptions) (parts : List Part) (input : List ℕ) (handed : List (Option Told))
    (s : Status) (out : List ℕ) (image : Option Image) (back : List (Option Told))
    → Yields (Run options) parts input handed s out image back → (IsFailed s → ⊥) → IsEnd s
yields_end options parts input handed s out some back (answers.Yields.ran image is executes tells) f =
    tells_end options parts (world_with input handed) handed s out back tells f

-- where a thread fails, all of them have that status
not_first : (s : Status) (ss : List Status) → IsEnd (status_of (s ∷ ss)) → IsFailed s → ⊥
not_first s ss e f = grind (arith, told_end, is_told)

module _ (law : RunsOnce) (fronts : Fronts) (once : (text : List ℕ) → ExactlyOne (IsTextAnswer text))
    (told : JobsTold) (memory : Bool) where
  of_job : (text : List ℕ) (s : Status) (out : List ℕ) → IsEnd s → TextJob memory text s out
      → IsOfJob memory text s out
  of_job text s out e a = record {
    kind = e;
    same = λ other again h p q. jobs_alike law memory text (once text) s other out again p q a (told memory
        text other again h (told_result other q));
    front = λ other again h p q. texts_begin law fronts once memory memory text other out again q (grind
        arith) (told memory text other again h (told_result other q));
  }

  module _ (options : RunOptions) (report : options.report ≡ Full memory false) where
    of_thread : (x : Thread) (handed : List (Option Told)) (s : Status) (out : List ℕ)
        (back : List (Option Told)) → lefts_of handed ≡ lefts_of no_ports → HasJob x
        → RunsAlone options x handed s out back → IsEnd s → IsOfJob memory x.piece.text s out
    of_thread x handed s out back silent job run e = of_job x.piece.text s out e
        (grind (arith, told_by_task, told_end))

    of_others : (t : ℕ) (xs : List Thread) (statuses : List Status) (out : List ℕ)
        (back : List (Option Told)) → AllByRecursion HasJob xs
        → ThreadsDo (RunsAlone options) t xs no_ports statuses out back
        → AreOfJobs memory t (texts_of (pieces_of xs)) statuses out
    of_others t xs statuses out back each threads.ThreadsDo.none = others.AreOfJobs.none
    of_others t xs statuses out back each (threads.ThreadsDo.more {x = x} {others = more} {status = s}
        {statuses = ss} {out = own} {further = further} run rest) = others.AreOfJobs.more x.piece.text s own
        (of_thread x no_ports s own back refl each.0 run (grind (arith, yields_end, yields_never_fails)))
        (of_others (suc t) _ ss further more each.1 rest)

    of_all : (t : ℕ) (xs : List Thread) (handed : List (Option Told)) (statuses : List Status) (out : List ℕ)
        (back : List (Option Told)) → lefts_of handed ≡ lefts_of no_ports → AllByRecursion HasJob xs
        → IsEnd (status_of statuses) → ThreadsDo (RunsAlone options) t xs handed statuses out back
        → AreOfJobs memory t (texts_of (pieces_of xs)) statuses out
    of_all t xs handed statuses out back silent each e threads.ThreadsDo.none = others.AreOfJobs.none
    of_all t xs handed statuses out back silent each e (threads.ThreadsDo.more {x = x} {others = more} {status
        = s} {statuses = ss} {out = own} {further = further} run rest) = others.AreOfJobs.more x.piece.text s
        own (grind (arith, of_thread, yields_end, not_first)) (grind (arith, of_others))

  -- what is said of an answer of `multi`
  abbrev OfJobs : List ℕ → Status → List ℕ → Type 0
  OfJobs text status out = (pieces : List Piece) × Jobs text pieces × ((statuses : List Status)
      × AreOfJobs memory 1 (texts_of pieces) statuses out × (status ≡ status_of statuses))

  multi_answer : (options : RunOptions) (text : List ℕ) (handed : List (Option Told))
      (statuses : List Status) (out : List ℕ) (images : List Image) (back : List (Option Told))
      → lefts_of handed ≡ lefts_of no_ports → options.report ≡ Full memory false
      → IsEnd (status_of statuses) → MultiAnswered options text handed statuses out images back
      → OfJobs text (status_of statuses) out
  multi_answer options text handed statuses out images back silent p e x = grind (arith, told_end, of_all)

  module _ (words : List (List ℕ)) (kind : (task : Task) → AsksFor words task → IsMulti memory task)
      (text : List ℕ) (after : Option (List ℕ)) (m n : ℕ) (handed : List (Option Told))
      (silent : lefts_of handed ≡ lefts_of no_ports) where
    not_alone : (s : Status) (out : List ℕ) (image : Option Image) (back : List (Option Told))
        → is_told s ≡ true → Answers words (Some text) after m n handed s out image back → ⊥
    not_alone s out image back e (answers.Answers.generated k line left) = kind (Generate k) line
    not_alone s out image back e (answers.Answers.benched o line left b) = kind (Bench o) line
    not_alone s out image back e (answers.Answers.read task whole line short takes answered) =
        kind (Job task) line
    not_alone s out image back e (answers.Answers.assembled task whole line short takes answered) =
        kind (Assembly task) line
    not_alone s out image back e x = cc

    multi_reply : (s : Status) (out : List ℕ) (image : Option Image) (images : List Image)
        (back : List (Option Told)) → IsEnd s
        → Replies words (Some text) after m n handed s out image images back → OfJobs text s out
    multi_reply s out image images back e (threads.Replies.alone answer) = grind (arith, not_alone, told_end)
    multi_reply s out image images back e (threads.Replies.together {statuses = ss} options whole line short
        takes answered) = subst (λ (x : List ℕ). OfJobs x (status_of ss) out) (sym takes.0) (multi_answer
        options whole handed ss out images back silent (kind (Multi options) line) e answered)

  pub one_multi : (text : List ℕ) (status : Status) (out : List ℕ)
      → HasWritten multi_commands (HasFlags memory false) text status out → IsEnd status
      → OfJobs text status out
  one_multi text status out h e =
      let c = h.called in
      let r = told_reply multi_commands (HasFlags memory false) text h.ports status out h.image h.back c
      (told_end status e) in
      multi_reply c.words (grind (arith, multi_kind, asked)) text r.after r.faults r.counted h.ports h.silent
      status out h.image r.threads h.back e r.reply
