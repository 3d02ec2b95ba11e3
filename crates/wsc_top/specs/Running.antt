-- The run of several threads, at each stage.
use Rattle.std.specs.Prelude.{◌≡◌, ℕ, List, [], ◌∷◌, ◌++◌, slice_get, Option, Some, None}
use Rattle.std.specs.List.{AllByRecursion}
use Rattle.src_ast.specs.declared.lexeme.Place.{Place}
use Rattle.src_ast.specs.Syntax.{Part}
use Rattle.ws_isa.specs.Image.{Image}
use Rattle.port_set.specs.Ports.{Told}
use Rattle.store_buf.specs.Outdoors.{world_with}
use Rattle.store_buf.specs.declared.finish.RunEnd.{RunEnd}
use Rattle.store_buf.specs.declared.finish.RunFinish.{RunFinish}
use Rattle.multi_wave.specs.declared.each.Each.{Each}
use Rattle.multi_wave.specs.Parts.{Alone}
use Rattle.wsc_top.specs.declared.status.Status.{Status}
use Rattle.wsc_top.specs.declared.status.Status.TheVariants.{Done}
use Rattle.wsc_top.specs.declared.task.RunOptions.{RunOptions}
use Rattle.wsc_top.specs.declared.batch.JobsRefusal.TheVariants.{OfJob}
use Rattle.wsc_top.specs.declared.batch.JobsFault.{JobsFault}
use Rattle.wsc_top.specs.declared.batch.JobsFault.TheVariants.{Refused, NoMemory}
use Rattle.job_read.specs.Job.{IsJob, Refuses}
use Rattle.wsc_top.specs.Finished.{ReportsSo}
use Rattle.wave_build.specs.Compiled.{IsCompiled}
use Rattle.wsc_top.specs.Threads.{thread_line, status_of, Thread, AreThreads, images_of, inputs_of}

-- an image of the program of a job, and the words that it reads
abbrev pub IsRead : List ℕ → Image → List ℕ → Type 0
IsRead text image input = (parts : List Part) × IsJob text parts input × IsCompiled parts image

-- why a job that begins at this place in the whole text isn't read
abbrev pub IsPieceFault : Place → List ℕ → JobsFault → Type 0
IsPieceFault at text NoMemory = Unit {0}
IsPieceFault at text (Refused (OfJob place r)) = (place ≡ at) × Refuses text r
IsPieceFault at text (Refused _) = ⊥

-- these are the images and the words of the threads of a text
pub record AreRead (text : List ℕ) (images : List Image) (inputs : List (List ℕ)) : Type 0 where
  pub threads : List Thread
  pub jobs : AreThreads text threads
  pub compiled : AllByRecursion (λ (thread : Thread). IsCompiled thread.parts thread.image) threads
  pub images_are : images_of threads ≡ images
  pub inputs_are : inputs_of threads ≡ inputs

-- the part of a thread that has an image and words, with these ports
abbrev pub alone_with : ℕ → List (Option Told) → Option Image → Option (List ℕ) → Option Alone
alone_with budget handed (Some image) (Some input) =
    Some (record { image = image; world = world_with input handed; handed = handed; budget = budget })
alone_with budget handed _ _ = None

-- that of the thread at this place, from 0
abbrev pub alone_at : ℕ → List (Option Told) → List Image → List (List ℕ) → ℕ → Option Alone
alone_at budget handed images inputs place =
    alone_with budget handed (slice_get images place) (slice_get inputs place)

-- a status and a text
abbrev pub StatusText : Type 0
StatusText = Status × List ℕ

-- what is reported of the thread of this number, which ended so, and those behind it, by what is reported of
-- those
abbrev pub ThreadTold : RunOptions → ℕ → Image → RunFinish → StatusText → StatusText → Type 0
ThreadTold options number image finish further told = (status : Status) × (out : List ℕ)
    × ReportsSo options.report options.budget image.arrays finish status out
    × (told.0 ≡ status_of (status ∷ further.0 ∷ []))
    × (told.1 ≡ thread_line number ++ out ++ further.1)

-- the same where the thread may be absent: nothing is reported of it then
abbrev pub BeforeSo : {P : Type 0} → RunOptions → ℕ → Option Image → Option (RunEnd P)
    → StatusText → StatusText → Type 0
BeforeSo options number (Some image) (Some end) further told =
    ThreadTold options number image end.finish further told
BeforeSo options number _ _ further told = told ≡ further

abbrev pub RunEnds : Type 0 → Type 0
RunEnds P = Each (Option (RunEnd P)) (Option (RunEnd P)) (Option (RunEnd P)) (Option (RunEnd P))

-- what is reported of all of them
pub record AllTold {P : Type 0} (options : RunOptions) (images : List Image) (ends : RunEnds P)
    (told : StatusText) : Type 0 where
  pub second : StatusText
  pub third : StatusText
  pub fourth : StatusText
  pub fourth_is : BeforeSo options 4 (slice_get images 3) ends.fourth (Done, []) fourth
  pub third_is : BeforeSo options 3 (slice_get images 2) ends.third fourth third
  pub second_is : BeforeSo options 2 (slice_get images 1) ends.second third second
  pub first_is : BeforeSo options 1 (slice_get images 0) ends.first second told
