-- What `multi` answers: the statuses of threads, and what comes of those that are due.
use Rattle.std.specs.Prelude.{◌≡◌, ℕ, suc, ◌+◌, ◌-◌, ◌≤◌, Result, IfOk, OnErr, List, [], ◌∷◌, length, Option}
use Rattle.std.specs.Prelude.{Some, None, Ok, Err, refl, slice_index_or}
use Rattle.std.specs.List.{AllByRecursion}
use Rattle.std.proofs.Common.{sym, ap, ◌∙◌, subst, inl, inr, arith}
use Rattle.ws_io.specs.Streams.{Rose}
use Rattle.src_ast.specs.Syntax.{Part}
use Rattle.src_ast.specs.Once.{ExactlyOne}
use Rattle.ws_isa.specs.Image.{Image}
use Rattle.ws_isa.specs.Formed.{Formed}
use Rattle.ws_words.specs.Outside.{Outside, World}
use Rattle.ws_isa.specs.Walk.{mem}
use Rattle.port_set.specs.Ports.{Told}
use Rattle.port_set.specs.Slots.{port_at}
use Rattle.store_buf.specs.Outdoors.{RoseAt, SlotIs, failures, world_with}
use Rattle.store_buf.proofs.Within.{port_in}
use Rattle.wsc_top.specs.declared.status.Status.{Status}
use Rattle.wsc_top.specs.declared.status.Status.TheVariants.{Done, Refused, ReadFault, WriteFault, PortFault}
use Rattle.wsc_top.specs.declared.status.Status.TheVariants.{NoMemory}
use Rattle.wsc_top.specs.declared.task.Task.{Task}
use Rattle.wsc_top.specs.declared.task.Task.TheVariants.{Job, Assembly, Multi}
use Rattle.wsc_top.specs.declared.task.JobTask.TheVariants.{Run}
use Rattle.wsc_top.specs.declared.task.RunOptions.{RunOptions}
use Rattle.wsc_top.specs.Tasks.{AsksFor, IsNoLine}
use Rattle.job_read.specs.Job.{job_limit, IsTextAnswer}
use Rattle.wsc_top.specs.Jobs.{Piece, Jobs, ProgramAndInput, AreJobs}
use Rattle.wsc_top.specs.Executions.{Executes, failed, PortsAre, IsFailed, OrFailed}
use Rattle.wsc_top.specs.Answers.{TellWords, Yields, ran, IsFree, done, limit_of, Answers, usage, generated}
use Rattle.wsc_top.specs.Answers.{benched, unread, long, read, assembled}
use Rattle.wsc_top.specs.Threads.{no_ports, ThreadsDo, none, more, status_of, Thread, pieces_of, images_of}
use Rattle.wsc_top.specs.Threads.{inputs_of, HaveBegun, Falls, HasJob, AreThreads, RunsAlone, ExecutesAlone}
use Rattle.wsc_top.specs.Threads.{MultiAnswered, Replies, alone, together, AreDue, AreToldJobs, AreToldNoJobs}
use Rattle.wsc_top.specs.Threads.{OthersEndSo, EachEndsSo, MultiEndsSo, ComeToTheirEnd, IsFreeAnswer}
use Rattle.wsc_top.specs.Threads as threads
use Rattle.wsc_words.specs.Lines.{HasCommand}
use Rattle.wsc_top.specs.Calls.{IsReply}
use Rattle.asm_read.specs.Reads.{SourceCall}
use Rattle.wsc_top.proofs.Calling.Tasks.{OneLine, same_task_by}
use Rattle.wsc_top.proofs.Calling.Calls.{IsOfText, yields_status, not_memory, not_write_fault, read_rose}
use Rattle.wsc_top.proofs.Calling.Calls.{port_rose, too_much, told_text}
use Rattle.wsc_top.proofs.Reading.AnswersOnce.{RunsOnce, Reply, same_reply}
use Rattle.wsc_top.proofs.Reading.AssembliesOnce.{WalksOnce}
use Rattle.wsc_top.proofs.Told.RunsAlike.{runs_alike}
use Rattle.wsc_top.proofs.Told.Tells.{WalksEnd, input_words, given_words, run_tells, run_so}
use Rattle.wsc_top.proofs.Reading.JobTexts.{Made, programs_of, each_of, count_pieces, jobs_once}
use Rattle.wsc_top.proofs.Reading.JobsOnce.{never_both, one_jobs, one_jobs_refusal}
use Rattle.wsc_top.proofs.Several.ThreadRuns.{no_ports_words}
use Rattle.store_buf.proofs.Failing.{in_seven}

-- A thread without ports doesn't fail.

none_at : {A : Type 0} (k : ℕ)
    → ◌≡◌ {A = Option A} (slice_index_or (None ∷ None ∷ None ∷ None ∷ None ∷ None ∷ None ∷ []) k None) None
none_at k = grind arith

no_failures : (left took : List ℕ) (port : Option Told) → SlotIs None left took port → failures port ≡ 0
no_failures left took port h = grind arith

no_failures_at : (port : ℕ) (o : Outside) (back : List (Option Told)) → PortsAre no_ports o back → 1 ≤ port
    → port ≤ 7 → failures (port_at back port) ≡ 0
no_failures_at port o back h low high = grind (arith, no_failures, none_at)

never_rose : (m n : ℕ) → m ≡ 0 → n ≡ 0 → Rose m n → ⊥
never_rose m n e f x = grind arith

never_fails : (options : RunOptions) (image : Image) (world : World) (status : Status) (out : List ℕ)
    (back : List (Option Told)) → Formed image → Executes options image world no_ports status out back
    → IsFailed status → ⊥
never_fails options image world status out back formed (failed t port x fires is within rose ports) f =
    let seven = in_seven _ port is (port_in image x.instr formed) in
    never_rose _ _ (ap failures (none_at (port - 1))) (no_failures_at port (mem image world t) back ports
    seven.0 seven.1) rose
never_fails options image world status out back formed x f = let e = f.1 in cc

pub yields_never_fails : (options : RunOptions) (parts : List Part) (input : List ℕ) (status : Status)
    (out : List ℕ) (image : Option Image) (back : List (Option Told))
    → Yields (Run options) parts input no_ports status out image back → IsFailed status → ⊥
yields_never_fails options parts input status out some back (ran image c e t) f = grind (arith, never_fails)

-- a thread without ports has one of these statuses
abbrev IsQuiet : Status → Type 0
IsQuiet ReadFault = ⊥
IsQuiet WriteFault = ⊥
IsQuiet NoMemory = ⊥
IsQuiet (PortFault port) = ⊥
IsQuiet _ = Unit {0}

quiet : (status : Status) (back : List (Option Told)) → IsOfText no_ports back status → (IsFailed status → ⊥)
    → IsQuiet status
quiet status back h f = grind arith

quiet_text : (status : Status) (handed back : List (Option Told)) → IsQuiet status
    → IsOfText handed back status
quiet_text status handed back h = grind arith

quiet_first : (status : Status) (statuses : List Status) → IsQuiet status → IsQuiet (status_of statuses)
    → IsQuiet (status_of (status ∷ statuses))
quiet_first status statuses h k = grind arith

text_first : (status : Status) (statuses : List Status) (handed back : List (Option Told))
    → IsOfText handed back status → IsQuiet (status_of statuses)
    → IsOfText handed back (status_of (status ∷ statuses))
text_first status statuses handed back h k = grind (arith, quiet_text)

module _ (options : RunOptions) where
  others_quiet : (t : ℕ) (xs : List Thread) (statuses : List Status) (out : List ℕ)
      (back : List (Option Told)) → ThreadsDo (RunsAlone options) t xs no_ports statuses out back
      → IsQuiet (status_of statuses)
  others_quiet t xs statuses out back none = tt
  others_quiet t xs statuses out back (more {x = x} {others = others} {status = s} {statuses = ss} {out = own}
      {further = further} h rest) = quiet_first s ss (grind (arith, quiet, yields_status, yields_never_fails))
      (others_quiet (suc t) _ ss further others rest)

  threads_text : (t : ℕ) (xs : List Thread) (handed : List (Option Told)) (statuses : List Status)
      (out : List ℕ) (back : List (Option Told)) → ThreadsDo (RunsAlone options) t xs handed statuses out back
      → IsOfText handed back (status_of statuses)
  threads_text t xs handed statuses out back none = tt
  threads_text t xs handed statuses out back (more {x = x} {others = others} {status = s} {statuses = ss} {out
      = own} {further = further} h rest) = grind (arith, text_first, yields_status, others_quiet)

  multi_text : (text : List ℕ) (handed : List (Option Told)) (statuses : List Status) (out : List ℕ)
      (images : List Image) (back : List (Option Told)) → MultiAnswered options text handed statuses out
      images back → IsOfText handed back (status_of statuses)
  multi_text text handed statuses out images back x = grind (arith, threads_text)

  -- The status of each thread.

  threads_due : (known : WalksOnce) (whole : WalksEnd) (t : ℕ) (xs : List Thread)
      (handed : List (Option Told)) (statuses : List Status) (out : List ℕ) (back : List (Option Told))
      → AllByRecursion HasJob xs → AllByRecursion Made xs → TellWords handed
      → ThreadsDo (ExecutesAlone options) t xs handed statuses out back
      → ThreadsDo (RunsAlone options) t xs handed statuses out back
  threads_due known whole t xs handed statuses out back each made told none = none
  threads_due known whole t xs handed statuses out back each made told (more {x = x} {others = others} {status
      = s} {statuses = ss} {out = own} {further = further} e rest) = more (ran x.image made.0 e (run_tells
      known whole options x.parts x.image made.0 (world_with x.input handed) (given_words x.input handed
      (input_words _ _ x.input each.0.words) told) handed back s own e)) (threads_due known whole (suc t) _
      no_ports ss further others each.1 made.1 no_ports_words rest)

  others_end : (t : ℕ) (xs : List Thread) (statuses : List Status) (out : List ℕ) (back : List (Option Told))
      → AllByRecursion HasJob xs → ThreadsDo (RunsAlone options) t xs no_ports statuses out back
      → OthersEndSo options (programs_of xs) statuses
  others_end t xs statuses out back each none = tt
  others_end t xs statuses out back each (more {x = x} {others = others} {status = s} {statuses = ss}
      {out = own} {further = further} h rest) = (
        run_so options x.parts x.input no_ports (input_words _ _ x.input each.0.words) no_ports_words s own
            (Some x.image) back h,
        yields_never_fails options x.parts x.input s own (Some x.image) back h,
        others_end (suc t) _ ss further others each.1 rest,
      )

  threads_end : (t : ℕ) (x : Thread) (xs : List Thread) (handed : List (Option Told)) (statuses : List Status)
      (out : List ℕ) (back : List (Option Told)) → AllByRecursion HasJob (x ∷ xs) → TellWords handed
      → ThreadsDo (RunsAlone options) t (x ∷ xs) handed statuses out back
      → EachEndsSo options (programs_of (x ∷ xs)) handed statuses
  threads_end t x xs handed statuses out back each told (more {others = others} {status = s} {statuses = ss}
      {out = own} {further = further} h rest) = (
        run_so options x.parts x.input handed (input_words _ _ x.input each.0.words) told s own (Some x.image)
            back h,
        others_end (suc t) xs ss further others each.1 rest,
      )

no_pieces : (text : List ℕ) (ps : List Piece) → Jobs text ps → ps ≡ [] → ⊥
no_pieces text ps x e = grind arith

pub are_jobs : (text : List ℕ) (xs : List Thread) → AreThreads text xs → AreJobs text (programs_of xs)
are_jobs text xs a = grind (arith, count_pieces, each_of)

module _ (once : (text : List ℕ) → ExactlyOne (IsTextAnswer text)) (options : RunOptions) (text : List ℕ)
    (jobs : List ProgramAndInput) (handed : List (Option Told)) (told : TellWords handed)
    (are : AreJobs text jobs) where
  all_end : (xs : List Thread) (statuses : List Status) (out : List ℕ) (back : List (Option Told))
      → AreThreads text xs → ThreadsDo (RunsAlone options) 1 xs handed statuses out back
      → EachEndsSo options (programs_of xs) handed statuses
  all_end xs statuses out back a acts = grind (arith, no_pieces, threads_end)

  multi_so : (statuses : List Status) (out : List ℕ) (images : List Image) (back : List (Option Told))
      → MultiAnswered options text handed statuses out images back → MultiEndsSo options jobs handed
      (status_of statuses)
  multi_so statuses out images back (threads.MultiAnswered.refused r h) =
      absurd (never_both once text jobs r are h)
  multi_so statuses out images back (threads.MultiAnswered.done xs a acts) = (
    statuses,
    subst (λ (js : List ProgramAndInput). EachEndsSo options js handed statuses) (one_jobs once text
        (programs_of xs) jobs (are_jobs text xs a) are) (all_end xs statuses out back a acts),
    refl,
  )

-- where each comes to its end
others_done : (options : RunOptions) (jobs : List ProgramAndInput) (statuses : List Status)
    → OthersEndSo options jobs statuses → ComeToTheirEnd options jobs no_ports → status_of statuses ≡ Done
others_done options (job ∷ jobs) (s ∷ ss) h c = go (others_done options jobs ss h.2 c.1) (h.0.done c.0)
  where
    go : status_of ss ≡ Done → OrFailed s Done → status_of (s ∷ ss) ≡ Done
    go rest (inl e) = ap (λ (x : Status). status_of (x ∷ ss)) e ∙ rest
    go rest (inr f) = absurd (h.1 f)
others_done options jobs statuses h c = grind arith

each_done : (options : RunOptions) (jobs : List ProgramAndInput) (handed : List (Option Told))
    (statuses : List Status) → EachEndsSo options jobs handed statuses → ComeToTheirEnd options jobs handed
    → OrFailed (status_of statuses) Done
each_done options (job ∷ jobs) handed (s ∷ ss) h c = go (h.0.done c.0)
  where
    go : OrFailed s Done → OrFailed (status_of (s ∷ ss)) Done
    go (inl e) = inl (ap (λ (x : Status). status_of (x ∷ ss)) e ∙ others_done options jobs ss h.1 c.1)
    go (inr f) = inr (f.0, ap (λ (x : Status). status_of (x ∷ ss)) f.1)
each_done options jobs handed ss h c = absurd h

pub ends_done : (options : RunOptions) (jobs : List ProgramAndInput) (handed : List (Option Told))
    (status : Status) → MultiEndsSo options jobs handed status → ComeToTheirEnd options jobs handed
    → OrFailed status Done
ends_done options jobs handed status h c = grind (arith, each_done)

-- The replies of a call.

module _ (words : List (List ℕ)) (left after : Option (List ℕ)) (m n : ℕ) (handed : List (Option Told)) where
  reply_text : (Q : Status → List (Option Told) → Type 0)
      → ((status : Status) (out : List ℕ) (image : Option Image) (back : List (Option Told))
      → Answers words left after m n handed status out image back → Q status back)
      → ((status : Status) (back : List (Option Told)) → IsOfText handed back status → Q status back)
      → (status : Status) (out : List ℕ) (image : Option Image) (images : List Image)
      (back : List (Option Told)) → Replies words left after m n handed status out image images back
      → Q status back
  reply_text Q one many status out image images back x = grind (arith, multi_text)

  pub reply_not_memory : (status : Status) (out : List ℕ) (image : Option Image) (images : List Image)
      (back : List (Option Told)) → Replies words left after m n handed status out image images back
      → status ≡ NoMemory → ⊥
  reply_not_memory = reply_text (λ s back. s ≡ NoMemory → ⊥) (grind (arith, not_memory)) (grind arith)

  pub reply_not_write_fault : (status : Status) (out : List ℕ) (image : Option Image) (images : List Image)
      (back : List (Option Told)) → Replies words left after m n handed status out image images back
      → status ≡ WriteFault → ⊥
  reply_not_write_fault = reply_text (λ s back. s ≡ WriteFault → ⊥) (grind (arith, not_write_fault)) (grind
      arith)

  pub reply_read_rose : (status : Status) (out : List ℕ) (image : Option Image) (images : List Image)
      (back : List (Option Told)) → Replies words left after m n handed status out image images back
      → status ≡ ReadFault → Rose m n
  reply_read_rose = reply_text (λ s back. s ≡ ReadFault → Rose m n) (grind (arith, read_rose)) (grind arith)

  pub reply_port_rose : (status : Status) (out : List ℕ) (image : Option Image) (images : List Image)
      (back : List (Option Told)) → Replies words left after m n handed status out image images back
      → (port : ℕ) → status ≡ PortFault port → RoseAt port handed back
  reply_port_rose = reply_text (λ s back. (port : ℕ) → s ≡ PortFault port → RoseAt port handed back)
      (grind (arith, port_rose)) (grind arith)

  -- words that are no line aren't answered by threads
  pub reply_no_line : (status : Status) (out : List ℕ) (image : Option Image) (images : List Image)
      (back : List (Option Told)) → IsNoLine words → Replies words left after m n handed status out image
      images back
      → Answers words left after m n handed status out image back
  reply_no_line status out image images back h (alone a) = a
  reply_no_line status out image images back h (together o text q short takes a) = absurd (h (Multi o) q)

  -- nor are those that ask for another task
  pub reply_other : (status : Status) (out : List ℕ) (image : Option Image) (images : List Image)
      (back : List (Option Told)) → OneLine → (task : Task) → AsksFor words task
      → ((o : RunOptions) → Multi o ≡ task → ⊥)
      → Replies words left after m n handed status out image images back
      → Answers words left after m n handed status out image back
  reply_other status out image images back one task line not (alone a) = a
  reply_other status out image images back one task line not (together o text q short takes a) =
      absurd (not o (same_task_by one words (Multi o) task q line))

-- the reply that was told
pub reply_told : {E : Type 0} (words : List (List ℕ)) (left after : Option (List ℕ)) (m n : ℕ)
    (handed : List (Option Told)) (image : Option Image) (images : List Image) (back : List (Option Told))
    (answer : Result (Status × List ℕ) E) (status : Status) (out : List ℕ) → answer ≡ Ok (status, out)
    → IfOk answer (λ a. Replies words left after m n handed a.0 a.1 image images back)
    → Replies words left after m n handed status out image images back
reply_told words left after m n handed image images back answer status out is h = grind arith

module _ (one : OneLine) (words : List (List ℕ)) (left after : Option (List ℕ)) (m n : ℕ)
    (handed : List (Option Told)) where
  pub jobs_answer_so : ((text : List ℕ) → ExactlyOne (IsTextAnswer text))
      → (options : RunOptions) (jobs : List ProgramAndInput) → TellWords handed
      → AreToldJobs words left options jobs
      → (status : Status) (out : List ℕ) (image : Option Image) (images : List Image)
      (back : List (Option Told)) → Replies words left after m n handed status out image images back
      → (status ≡ ReadFault → ⊥) → MultiEndsSo options jobs handed status
  jobs_answer_so once options jobs told t status out image images back (alone (usage h e)) f =
      absurd (h (Multi options) t.line)
  jobs_answer_so once options jobs told t status out image images back (alone (generated k q e)) f =
      grind (arith, same_task_by)
  jobs_answer_so once options jobs told t status out image images back (alone (benched o q e x)) f =
      grind (arith, same_task_by)
  jobs_answer_so once options jobs told t status out image images back (alone (unread d bytes q is rose k x))
      f = absurd (f refl)
  jobs_answer_so once options jobs told t status out image images back (alone (long d bytes q is k x)) f =
      absurd (too_much job_limit left t.text bytes after t.told t.short (subst (λ (e : Task). length bytes ≡
      limit_of e + 1) (same_task_by one words d (Multi options) q t.line) k) x)
  jobs_answer_so once options jobs told t status out image images back (alone (read d text q k x a)) f =
      let same : Job d ≡ Multi options = same_task_by one words (Job d) (Multi options) q t.line in absurd cc
  jobs_answer_so once options jobs told t status out image images back (alone (assembled d text q k x a)) f =
      grind (arith, same_task_by one words (Assembly d) (Multi options) q t.line)
  jobs_answer_so once options jobs told t status out image images back (together {statuses =
      ss} o text q short takes a) f =
      let whole : Multi o ≡ Multi options = same_task_by one words (Multi o) (Multi options) q t.line in
      let same : o ≡ options = cc in
      let here : text ≡ t.text = grind (arith, told_text) in
      multi_so once options t.text jobs handed told t.jobs_are ss out images back (grind arith)

  -- a told text that is no such jobs is refused, or reading failed
  pub told_unjobs : (options : RunOptions) → AreToldNoJobs words left options
      → (status : Status) (out : List ℕ) (image : Option Image) (images : List Image)
      (back : List (Option Told)) → Replies words left after m n handed status out image images back
      → (status ≡ ReadFault → ⊥) → status ≡ Refused
  told_unjobs options t status out image images back (alone (usage h e)) f = absurd (h (Multi options) t.line)
  told_unjobs options t status out image images back (alone (generated k q e)) f = grind (arith, same_task_by)
  told_unjobs options t status out image images back (alone (benched o q e x)) f = grind (arith, same_task_by)
  told_unjobs options t status out image images back (alone (unread d bytes q is rose k x)) f = grind arith
  told_unjobs options t status out image images back (alone (long d bytes q is k x)) f = refl
  told_unjobs options t status out image images back (alone (read d text q k x a)) f =
      let same : Job d ≡ Multi options = same_task_by one words (Job d) (Multi options) q t.line in absurd cc
  told_unjobs options t status out image images back (alone (assembled d text q k x a)) f =
      grind (arith, same_task_by one words (Assembly d) (Multi options) q t.line)
  told_unjobs options t status out image images back
      (together o text q short takes (threads.MultiAnswered.refused r h)) f = refl
  told_unjobs options t status out image images back (together o text q short takes
      (threads.MultiAnswered.done xs are acts)) f =
      let here : text ≡ t.text = grind (arith, told_text) in
      absurd (t.other (grind arith) (programs_of xs) (grind (arith, programs_of, are_jobs)))

module _ (words : List (List ℕ)) (left after : Option (List ℕ)) (m n : ℕ) (handed : List (Option Told)) where
  -- what threads acts that are due is the answer
  pub due_replies : (known : WalksOnce) (whole : WalksEnd) (options : RunOptions) (xs : List Thread)
      (statuses : List Status) (out : List ℕ) (back : List (Option Told)) → AreDue words left after options xs
      → TellWords handed
      → ThreadsDo (ExecutesAlone options) 1 xs handed statuses out back
      → Replies words left after m n handed (status_of statuses) out None (images_of xs) back
  due_replies known whole options xs statuses out back due told acts = together options due.text due.line
      due.short due.takes (threads.MultiAnswered.done xs due.jobs (threads_due options known whole 1 xs handed
      statuses out back due.jobs.each due.compiled told acts))

-- there are some threads
pub some_inputs : (text : List ℕ) (xs : List Thread) (inputs : List (List ℕ)) → AreThreads text xs
    → inputs_of xs ≡ inputs → 1 ≤ length inputs
some_inputs text [] inputs a e = absurd (no_pieces text _ a.split refl)
some_inputs text (x ∷ xs) inputs a e = omega (arith, ap length e)

-- the reply of threads that were due
module _ {E : Type 0} (words : List (List ℕ)) (reads : SourceCall) (handed back : List (Option Told))
    (options : RunOptions) (images seen : List Image) (same : images ≡ seen) (inputs : List (List ℕ))
    (due : (xs : List Thread) × AreDue words reads.left reads.after options xs × (images_of xs ≡ seen)
    × (inputs_of xs ≡ inputs)) (known : (HasCommand words → ⊥) → ⊥) where
  pub threads_reply : (answer : Result (Status × List ℕ) E)
      → ((statuses : List Status) (out : List ℕ) → ThreadsDo (ExecutesAlone options) 1 due.0 handed statuses
      out back → Replies words reads.left reads.after reads.faults reads.counted handed (status_of statuses)
      out None (images_of due.0) back)
      → IfOk answer (λ y. (xs : List Thread) → images_of xs ≡ images → inputs_of xs ≡ inputs
      → (statuses : List Status) × ThreadsDo (ExecutesAlone options) 1 xs handed statuses y.1 back
      × (y.0 ≡ status_of statuses))
      → OnErr answer ((xs : List Thread) → images_of xs ≡ images → inputs_of xs ≡ inputs
      → HaveBegun xs handed back) → IsReply words reads handed answer None seen back
  threads_reply (Ok y) law h begun = grind arith
  threads_reply (Err x) law h begun = record {
    answered = tt;
    memory = subst (λ (is : List Image). Falls words reads.left reads.after handed None is back) due.2
        (threads.Falls.together due.0 due.1 (begun due.0 (due.2 ∙ sym same) due.3));
    known = λ h. absurd (known h);
  }

-- Two answers to one text.

module _ (once : (text : List ℕ) → ExactlyOne (IsTextAnswer text)) (law : RunsOnce)
    (options : RunOptions) where
  same_piece : (x y : Thread) (xs ys : List Thread) → pieces_of (x ∷ xs) ≡ pieces_of (y ∷ ys)
      → x.piece ≡ y.piece
  same_piece x y xs ys e = cc

  same_pieces : (x y : Thread) (xs ys : List Thread) → pieces_of (x ∷ xs) ≡ pieces_of (y ∷ ys)
      → pieces_of xs ≡ pieces_of ys
  same_pieces x y xs ys e = cc

  thread_alike : (x y : Thread) (handed : List (Option Told)) (s r : Status) (own other : List ℕ)
      (back again : List (Option Told)) → x.piece ≡ y.piece → HasJob x → HasJob y
      → RunsAlone options x handed s own back → RunsAlone options y handed r other again → IsFree options s
      → IsFree options r → ◌≡◌ {A = Reply} (s, own) (r, other)
  thread_alike x y handed s r own other back again e h k a b free also = runs_alike y.piece.text (once
      y.piece.text) options handed law s r own other (Some x.image) (Some y.image) back again (done x.parts
      x.input (grind arith) a) (done y.parts y.input k b) free also

  threads_alike : (t : ℕ) (xs ys : List Thread) (handed : List (Option Told)) (ss rs : List Status)
      (out other : List ℕ) (back again : List (Option Told)) → pieces_of xs ≡ pieces_of ys
      → AllByRecursion HasJob xs → AllByRecursion HasJob ys
      → ThreadsDo (RunsAlone options) t xs handed ss out back → ThreadsDo (RunsAlone options) t ys handed rs
      other again → AllByRecursion (IsFree options) ss → AllByRecursion (IsFree options) rs
      → (ss ≡ rs) × (out ≡ other)
  threads_alike t xs ys handed ss rs out other back again e h k none none free also = (refl, refl)
  threads_alike t xs ys handed ss rs out other back again e h k none (more a rest) free also = grind arith
  threads_alike t xs ys handed ss rs out other back again e h k (more a rest) none free also = grind arith
  threads_alike t xs ys handed ss rs out other back again e h k
      (more {x = x} {xs = xs'} {others = others} {status = s} {statuses = ss'} {out = own} {further = further}
      a rest) (more {x = y} {xs = ys'} {others = others'} {status = r} {statuses = rs'} {out = own'}
      {further = further'} b rest') free also =
      let here = thread_alike x y handed s r own own' back again (same_piece x y xs' ys' e) h.0 k.0 a b free.0
      also.0 in
      grind (
        arith,
        same_pieces,
        threads_alike (suc t) xs' ys' no_ports ss' rs' further further' others others' (same_pieces x y xs'
            ys' e) h.1 k.1 rest rest' free.1 also.1,
      )

  one_answer : (text : List ℕ) (handed : List (Option Told)) (ss rs : List Status) (out other : List ℕ)
      (images more : List Image) (back again : List (Option Told)) → MultiAnswered options text handed ss out
      images back → MultiAnswered options text handed rs other more again
      → AllByRecursion (IsFree options) ss → AllByRecursion (IsFree options) rs → (ss ≡ rs) × (out ≡ other)
  one_answer text handed ss rs out other images more' back again (threads.MultiAnswered.refused q h)
      (threads.MultiAnswered.refused r k) free also = grind (arith, one_jobs_refusal)
  one_answer text handed ss rs out other images more' back again (threads.MultiAnswered.refused q h)
      (threads.MultiAnswered.done ys b acts) free also =
      absurd (never_both once text (programs_of ys) q (are_jobs text ys b) h)
  one_answer text handed ss rs out other images more' back again (threads.MultiAnswered.done xs a acts)
      (threads.MultiAnswered.refused r k) free also =
      absurd (never_both once text (programs_of xs) r (are_jobs text xs a) k)
  one_answer text handed ss rs out other images more' back again (threads.MultiAnswered.done xs a acts)
      (threads.MultiAnswered.done ys b acts2) free also = grind (arith, threads_alike, jobs_once)

  pub multi_alike : (text : List ℕ) (handed : List (Option Told)) (a b : Reply)
      → IsFreeAnswer options text handed a → IsFreeAnswer options text handed b → a ≡ b
  multi_alike text handed a b h k = grind (arith, one_answer, same_reply)
