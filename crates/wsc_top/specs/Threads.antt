-- What comes of several threads, each of which runs its job alone.
use Rattle.std.specs.Prelude.{◌≡◌, ℕ, suc, ◌≤◌, List, [], ◌∷◌, ◌++◌, codes, decimal, length, map, Option}
use Rattle.std.specs.Prelude.{Some, None}
use Rattle.std.specs.List.{AllByRecursion}
use Rattle.ws_io.specs.Streams.{TakesAll}
use Rattle.src_ast.specs.Syntax.{Part}
use Rattle.ws_isa.specs.Image.{Image}
use Rattle.port_set.specs.Ports.{Told}
use Rattle.store_buf.specs.Outdoors.{world_with}
use Rattle.wsc_top.specs.declared.status.Status.{Status}
use Rattle.wsc_top.specs.declared.status.Status.TheVariants.{Done, Refused}
use Rattle.wsc_top.specs.declared.batch.JobsRefusal.{JobsRefusal}
use Rattle.wsc_top.specs.declared.task.RunOptions.{RunOptions}
use Rattle.wsc_top.specs.declared.task.JobTask.TheVariants.{Run}
use Rattle.wsc_top.specs.declared.task.Task.TheVariants.{Multi}
use Rattle.wsc_top.specs.Tasks.{AsksFor}
use Rattle.job_read.specs.Job.{job_limit, IsJob}
use Rattle.wsc_top.specs.Jobs.{Piece, ProgramAndInput, Jobs, most_jobs, AreJobs, RefusesJobs}
use Rattle.wsc_top.specs.Jobs.{jobs_refusal_text}
use Rattle.wsc_top.specs.Executions.{Executes, HasBegun, IsFailed, EndsRun}
use Rattle.wsc_top.specs.Answers.{Yields, ComesToItsEnd, JobEndsSo, IsFree, Answers, Starves}
use Rattle.wave_build.specs.Compiled.{IsCompiled}

-- seven slots without a port
abbrev pub no_ports : List (Option Told)
no_ports = None ∷ None ∷ None ∷ None ∷ None ∷ None ∷ None ∷ []

-- the line before what a thread reports
abbrev pub thread_line : ℕ → List ℕ
thread_line t = codes "thread " ++ decimal t ++ codes "\n"

-- What threads do, from the number t on, where `Does` says what each of them does alone: their statuses,
-- their texts, each behind the line of its thread, and the ports. The ports are those of the first of
-- them; the others have none.
pub data ThreadsDo {X : Type 0}
    (Does : X → List (Option Told) → Status → List ℕ → List (Option Told) → Type 0)
    : ℕ → List X → List (Option Told) → List Status → List ℕ → List (Option Told) → Type 0 where
  none : {t : ℕ} {handed : List (Option Told)} → ThreadsDo Does t [] handed [] [] handed
  more : {t : ℕ} {x : X} {xs : List X} {handed back others : List (Option Told)}
      {status : Status} {statuses : List Status} {out further : List ℕ}
      → Does x handed status out back → ThreadsDo Does (suc t) xs no_ports statuses further others
      → ThreadsDo Does t (x ∷ xs) handed (status ∷ statuses) (thread_line t ++ out ++ further) back

-- the status of the first that isn't Done; Done where each is
abbrev pub status_of : List Status → Status
status_of [] = Done
status_of (Done ∷ statuses) = status_of statuses
status_of (status ∷ statuses) = status

-- a thread: its job in the text, the program and the words of that, and an image of the program
pub record Thread : Type 0 where
  pub piece : Piece
  pub parts : List Part
  pub input : List ℕ
  pub image : Image

abbrev pub pieces_of : List Thread → List Piece
pieces_of threads = map (λ thread. thread.piece) threads

abbrev pub images_of : List Thread → List Image
images_of threads = map (λ thread. thread.image) threads

abbrev pub inputs_of : List Thread → List (List ℕ)
inputs_of threads = map (λ thread. thread.input) threads

-- the job of the thread is this program and these words
abbrev pub HasJob : Thread → Type 0
HasJob thread = IsJob thread.piece.text thread.parts thread.input

-- the text is the jobs of these threads, from thread 1 on, and no more than may be
pub record AreThreads (text : List ℕ) (threads : List Thread) : Type 0 where
  pub split : Jobs text (pieces_of threads)
  pub few : length threads ≤ most_jobs
  pub each : AllByRecursion HasJob threads

-- what `run` answers to the program and the words of a thread, of which it runs the image
abbrev pub RunsAlone : RunOptions → Thread → List (Option Told) → Status → List ℕ
    → List (Option Told) → Type 0
RunsAlone options thread handed status out back =
    Yields (Run options) thread.parts thread.input handed status out (Some thread.image) back

-- what comes of the run of its image
abbrev pub ExecutesAlone : RunOptions → Thread → List (Option Told) → Status → List ℕ
    → List (Option Told) → Type 0
ExecutesAlone options thread handed status out back =
    Executes options thread.image (world_with thread.input handed) handed status out back

-- The answer of `multi` to a text, with the ports that were handed in: the status of each thread, the
-- text, the images of the threads, and the ports. Where the text is refused, that is the only status.
pub data MultiAnswered (options : RunOptions) (text : List ℕ) (handed : List (Option Told))
    : List Status → List ℕ → List Image → List (Option Told) → Type 0 where
  -- it is refused
  refused : (r : JobsRefusal) → RefusesJobs text r
      → MultiAnswered options text handed (Refused ∷ []) (jobs_refusal_text r) [] handed
  -- it is the jobs of these threads, and this comes of them
  done : {statuses : List Status} {out : List ℕ} {back : List (Option Told)}
      (threads : List Thread) → AreThreads text threads
      → ThreadsDo (RunsAlone options) 1 threads handed statuses out back
      → MultiAnswered options text handed statuses out (images_of threads) back

-- The answer to these words, as `Answers` says it, and with it the images of the threads: those of
-- `multi`, and none for any other command.
pub data Replies (words : List (List ℕ)) (left after : Option (List ℕ)) (faults counted : ℕ)
    (handed : List (Option Told))
    : Status → List ℕ → Option Image → List Image → List (Option Told) → Type 0 where
  alone : {status : Status} {out : List ℕ} {image : Option Image} {back : List (Option Told)}
      → Answers words left after faults counted handed status out image back
      → Replies words left after faults counted handed status out image [] back
  -- the whole text was read, and this is the answer of `multi` to it
  together : {statuses : List Status} {out : List ℕ} {images : List Image}
      {back : List (Option Told)} (options : RunOptions) (text : List ℕ)
      → AsksFor words (Multi options) → length text ≤ job_limit → TakesAll left text after
      → MultiAnswered options text handed statuses out images back
      → Replies words left after faults counted handed (status_of statuses) out None images back

-- the words, and what was read, ask for a run of these threads, whose images are compiled
pub record AreDue (words : List (List ℕ)) (left after : Option (List ℕ)) (options : RunOptions)
    (threads : List Thread) : Type 0 where
  pub text : List ℕ
  pub line : AsksFor words (Multi options)
  pub short : length text ≤ job_limit
  pub takes : TakesAll left text after
  pub jobs : AreThreads text threads
  pub compiled : AllByRecursion (λ (thread : Thread). IsCompiled thread.parts thread.image) threads

-- the run of the first of them has begun with these ports
abbrev pub HaveBegun : List Thread → List (Option Told) → List (Option Told) → Type 0
HaveBegun [] handed back = back ≡ handed
HaveBegun (thread ∷ threads) handed back =
    HasBegun thread.image (world_with thread.input handed) handed back

-- What is handed back where memory ran out, as `Starves` says it; or the images are those of the threads
-- that are due, and the ports are as the run of thread 1 left them.
pub data Falls (words : List (List ℕ)) (left after : Option (List ℕ)) (handed : List (Option Told))
    : Option Image → List Image → List (Option Told) → Type 0 where
  alone : {image : Option Image} {back : List (Option Told)}
      → Starves words left after handed image back → Falls words left after handed image [] back
  together : {options : RunOptions} {back : List (Option Told)} (threads : List Thread)
      → AreDue words left after options threads → HaveBegun threads handed back
      → Falls words left after handed None (images_of threads) back

-- all that the source has left is reported, and it is these jobs
pub record AreToldJobs (words : List (List ℕ)) (left : Option (List ℕ)) (options : RunOptions)
    (jobs : List ProgramAndInput) : Type 0 where
  pub text : List ℕ
  pub line : AsksFor words (Multi options)
  pub told : left ≡ Some text
  pub short : length text ≤ job_limit
  pub jobs_are : AreJobs text jobs

-- all that the source has left is reported, and it is no such jobs
pub record AreToldNoJobs (words : List (List ℕ)) (left : Option (List ℕ)) (options : RunOptions)
    : Type 0 where
  pub text : List ℕ
  pub line : AsksFor words (Multi options)
  pub told : left ≡ Some text
  pub other : length text ≤ job_limit → (jobs : List ProgramAndInput) → AreJobs text jobs → ⊥

-- threads without ports have statuses as `run` has them for their jobs, and none of a port
abbrev pub OthersEndSo : RunOptions → List ProgramAndInput → List Status → Type 0
OthersEndSo options [] [] = Unit {0}
OthersEndSo options [] (status ∷ statuses) = ⊥
OthersEndSo options (job ∷ jobs) [] = ⊥
OthersEndSo options (job ∷ jobs) (status ∷ statuses) =
    JobEndsSo (Run options) job.0 job.1 no_ports status × (IsFailed status → ⊥)
    × OthersEndSo options jobs statuses

-- thread 1 has a status as `run` has it for its job and the ports, and so do the others without ports
abbrev pub EachEndsSo : RunOptions → List ProgramAndInput → List (Option Told) → List Status → Type 0
EachEndsSo options [] handed statuses = ⊥
EachEndsSo options (job ∷ jobs) handed [] = ⊥
EachEndsSo options (job ∷ jobs) handed (status ∷ statuses) =
    JobEndsSo (Run options) job.0 job.1 handed status × OthersEndSo options jobs statuses

-- the status of `multi`: that of the first thread that isn't Done
abbrev pub MultiEndsSo : RunOptions → List ProgramAndInput → List (Option Told) → Status → Type 0
MultiEndsSo options jobs handed status =
    (statuses : List Status) × EachEndsSo options jobs handed statuses
    × (status ≡ status_of statuses)

-- thread by thread the walk of its image decides the status: of the first with these ports, of the others
-- with none
abbrev pub EachWalkEndsSo : RunOptions → List Image → List ProgramAndInput → List (Option Told)
    → List Status → Type 0
EachWalkEndsSo options [] [] handed [] = Unit {0}
EachWalkEndsSo options (image ∷ images) (job ∷ jobs) handed (status ∷ statuses) =
    EndsRun image (world_with job.1 handed) options.budget status
    × EachWalkEndsSo options images jobs no_ports statuses
EachWalkEndsSo options images jobs handed statuses = ⊥

-- so the walks of these images decide the status of `multi`
abbrev pub WalksEndSo : RunOptions → List Image → List ProgramAndInput → List (Option Told) → Status
    → Type 0
WalksEndSo options images jobs handed status =
    (statuses : List Status) × EachWalkEndsSo options images jobs handed statuses
    × (status ≡ status_of statuses)

-- the run of each completes, as that of `run` does: of the first with these ports, of the others
-- with none
abbrev pub ComeToTheirEnd : RunOptions → List ProgramAndInput → List (Option Told) → Type 0
ComeToTheirEnd options [] handed = Unit {0}
ComeToTheirEnd options (job ∷ jobs) handed =
    ComesToItsEnd (Run options) job.0 job.1 handed × ComeToTheirEnd options jobs no_ports

-- a status and a text are an answer of `multi` to a text, with some images and ports, and each thread's
-- leaves nothing to its image
abbrev pub IsFreeAnswer : RunOptions → List ℕ → List (Option Told) → Status × List ℕ → Type 0
IsFreeAnswer options text handed answer =
    (statuses : List Status) × (images : List Image) × (back : List (Option Told))
    × MultiAnswered options text handed statuses answer.1 images back
    × AllByRecursion (IsFree options) statuses × (answer.0 ≡ status_of statuses)
