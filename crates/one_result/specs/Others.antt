-- One text, one result, beside what OneResult.antt says: with `--memory` and without it, with `--stats`, with
-- ports that have words left, by `multi`, by `trace` and `replay`, and by `bench`.
--
-- With `--stats` a line follows what is written without it. That two runs report the same in it is said of
-- `exec` and `decouple` on one assembly, and of calls of `run` that hand back the same image: the number of
-- firings is that of the image, and nothing says that two calls compile a program to one image. `plain`
-- counts turns, `grid` cycles as well, which its size decides. `plain` and `grid` use no ports, and so
-- the laws of ports leave them out.
use Rattle.std.specs.Prelude.{◌≡◌, ◌⊎◌, ℕ, suc, ◌≤◌, Bool, true, false, IsTrue, List, [], ◌∷◌, ◌++◌, codes}
use Rattle.std.specs.Prelude.{map, Option, Some, None}
use Rattle.ws_words.specs.Digits.{is_number}
use Rattle.ws_isa.specs.Image.{Image}
use Rattle.port_set.specs.Ports.{Told}
use Rattle.port_set.specs.Slots.{port_at}
use Rattle.wsc_top.specs.declared.status.Status.{Status}
use Rattle.wsc_top.specs.declared.status.Status.TheVariants.{Done, Budget}
use Rattle.wsc_top.specs.Jobs.{Piece, Jobs}
use Rattle.run_text.specs.Texts.{done_text, summary_text, firings_line}
use Rattle.wsc_top.specs.Threads.{thread_line, status_of}
use Rattle.one_result.specs.OneResult.{HasFlags, CalledBy, HasWritten, IsCodeOf, AssemblyHasRun}
use Rattle.one_result.specs.OneResult.{input_section, JobHasRun, IsResult, IsFront, job_commands}
use Rattle.one_result.specs.OneResult.{lines_of}

-- With `--memory` a job writes what it writes without it, and the arrays behind that.
abbrev pub OneMemory : Type 0
OneMemory = (text : List ℕ) (status other : Status) (out again : List ℕ)
    → JobHasRun true text status out → JobHasRun false text other again → IsResult status → IsResult other
    → (status ≡ other) × ((arrays : List ℕ) × (out ≡ again ++ arrays))

-- So does an assembly.
abbrev pub OneImageMemory : Type 0
OneImageMemory = (text : List ℕ) (status other : Status) (out again : List ℕ)
    → AssemblyHasRun true text status out → AssemblyHasRun false text other again
    → IsResult status → IsResult other → (status ≡ other) × ((arrays : List ℕ) × (out ≡ again ++ arrays))

-- the commands that run a job, and those that run an assembly, on a crew of workers, with ports
abbrev pub run_commands : List (List ℕ)
run_commands = codes "run" ∷ []

abbrev pub crew_commands : List (List ℕ)
crew_commands = codes "exec" ∷ codes "decouple" ∷ []

-- With `--stats` an assembly has one result as well: however it is run, it fires as often.
abbrev pub OneCount : Type 0
OneCount = (memory : Bool) (text : List ℕ) (status other : Status) (out again : List ℕ)
    → HasWritten crew_commands (HasFlags memory true) text status out
    → HasWritten crew_commands (HasFlags memory true) text other again → IsResult status → IsResult other
    → (status ≡ other) × (out ≡ again)

-- So has a job, where two calls hand back the same image.
abbrev pub OneRunCount : Type 0
OneRunCount = (memory : Bool) (text : List ℕ) (ports back after : List (Option Told)) (image : Image)
    (status other : Status) (out again : List ℕ)
    → CalledBy run_commands (HasFlags memory true) text ports status out (Some image) back
    → CalledBy run_commands (HasFlags memory true) text ports other again (Some image) after
    → IsResult status → IsResult other → (status ≡ other) × (out ≡ again)

-- With `--stats` a job writes what it writes without it, and a line behind that, which is empty at a fault.
abbrev pub OneStats : Type 0
OneStats = (memory : Bool) (text : List ℕ) (status other : Status) (out again : List ℕ)
    → HasWritten job_commands (HasFlags memory true) text status out → JobHasRun memory text other again
    → IsResult status → IsResult other
    → (status ≡ other) × ((line : List ℕ) × (out ≡ again ++ line))

-- So does an assembly, by `exec` and `decouple`.
abbrev pub OneImageStats : Type 0
OneImageStats = (memory : Bool) (text : List ℕ) (status other : Status) (out again : List ℕ)
    → HasWritten crew_commands (HasFlags memory true) text status out
    → AssemblyHasRun memory text other again → IsResult status → IsResult other
    → (status ≡ other) × ((line : List ℕ) × (out ≡ again ++ line))

-- two slots are empty, or their ports report that they have the same left, and have taken the same
abbrev pub IsLeftAlike : Option Told → Option Told → Type 0
IsLeftAlike None None = Unit {0}
IsLeftAlike (Some port) None = ⊥
IsLeftAlike None (Some port) = ⊥
IsLeftAlike (Some port) (Some other) = (port.left ≡ other.left) × (port.took ≡ other.took)

-- so it is of each of seven slots
abbrev pub AreLeftAlike : List (Option Told) → List (Option Told) → Type 0
AreLeftAlike back after =
    (slot : ℕ) → 1 ≤ slot → slot ≤ 7 → IsLeftAlike (port_at back slot) (port_at after slot)

-- The job of this text has been run by a crew with these ports: by `run`, or by a call on what `compile` has
-- written of it.
pub data JobHasRunWith (memory : Bool) (text : List ℕ) (ports : List (Option Told)) (status : Status)
    (out : List ℕ) (back : List (Option Told)) : Type 0 where
  with_job : (image : Option Image)
      → CalledBy run_commands (HasFlags memory false) text ports status out image back
      → JobHasRunWith memory text ports status out back
  with_code : (image : Option Image) (code : List ℕ) → IsCodeOf code text
      → CalledBy crew_commands (HasFlags memory false) (code ++ input_section text) ports status out image
      back
      → JobHasRunWith memory text ports status out back

-- With ports that report the same when they are handed in, whatever words they have left, a job has one
-- result, and leaves the ports alike.
abbrev pub OneResultWith : Type 0
OneResultWith = (memory : Bool) (text : List ℕ) (ports back after : List (Option Told))
    (status other : Status) (out again : List ℕ)
    → JobHasRunWith memory text ports status out back → JobHasRunWith memory text ports other again after
    → IsResult status → IsResult other → (status ≡ other) × (out ≡ again) × AreLeftAlike back after

-- So has an assembly.
abbrev pub OneImageResultWith : Type 0
OneImageResultWith = (memory : Bool) (text : List ℕ) (ports back after : List (Option Told))
    (image instead : Option Image) (status other : Status) (out again : List ℕ)
    → CalledBy crew_commands (HasFlags memory false) text ports status out image back
    → CalledBy crew_commands (HasFlags memory false) text ports other again instead after
    → IsResult status → IsResult other → (status ≡ other) × (out ≡ again) × AreLeftAlike back after

abbrev pub multi_commands : List (List ℕ)
multi_commands = codes "multi" ∷ []

-- These are the status and the text of a run of this job: those of each run of it by itself, if both reach
-- their result, and a prefix of that at the budget.
pub record IsOfJob (memory : Bool) (job : List ℕ) (status : Status) (out : List ℕ) : Type 0 where
  pub kind : IsResult status ⊎ (status ≡ Budget)
  pub same : (other : Status) (again : List ℕ) → JobHasRun memory job other again
      → IsResult status → IsResult other → (status ≡ other) × (out ≡ again)
  pub front : (other : Status) (again : List ℕ) → JobHasRun memory job other again
      → status ≡ Budget → IsResult other → IsFront out again

-- Of each of these jobs, from the thread of this number on, there are a status and a text, and the texts
-- stand in this one, each behind the line of its thread.
pub data AreOfJobs (memory : Bool) : ℕ → List (List ℕ) → List Status → List ℕ → Type 0 where
  none : {number : ℕ} → AreOfJobs memory number [] [] []
  more : {number : ℕ} {jobs : List (List ℕ)} {statuses : List Status} {further : List ℕ} (job : List ℕ)
      (status : Status) (out : List ℕ) → IsOfJob memory job status out
      → AreOfJobs memory (suc number) jobs statuses further
      → AreOfJobs memory number (job ∷ jobs) (status ∷ statuses) (thread_line number ++ out ++ further)

abbrev pub texts_of : List Piece → List (List ℕ)
texts_of pieces = map (λ piece. piece.text) pieces

-- Programs don't see each other: whatever the other jobs of a text are, `multi` writes of each what it writes
-- by itself; its status is that of the first that isn't Done.
abbrev pub OneMulti : Type 0
OneMulti = (memory : Bool) (text : List ℕ) (status : Status) (out : List ℕ)
    → HasWritten multi_commands (HasFlags memory false) text status out
    → (IsResult status ⊎ (status ≡ Budget))
    → (pieces : List Piece) × Jobs text pieces × ((statuses : List Status)
    × AreOfJobs memory 1 (texts_of pieces) statuses out × (status ≡ status_of statuses))

abbrev pub trace_commands : List (List ℕ)
trace_commands = codes "trace" ∷ []

abbrev pub replay_commands : List (List ℕ)
replay_commands = codes "replay" ∷ []

-- A trace that has come to rest prints the words of the result, as `replay` reports them.
abbrev pub OneTrace : Type 0
OneTrace = (text events told out : List ℕ) (status : Status)
    → HasWritten trace_commands (HasFlags false false) text Done events
    → HasWritten replay_commands (HasFlags false false) events Done told
    → AssemblyHasRun false text status out → IsResult status
    → (status ≡ Done) × ((words : List ℕ) × (fired : ℕ) × (out ≡ done_text words)
    × (told ≡ lines_of words ++ codes "rest\n" ++ firings_line fired))

abbrev pub generate_commands : List (List ℕ)
generate_commands = codes "gen" ∷ []

abbrev pub bench_commands : List (List ℕ)
bench_commands = codes "bench" ∷ []

-- this number stands behind the command
abbrev pub GivesNumber : List ℕ → List (List ℕ) → Type 0
GivesNumber number [] = ⊥
GivesNumber number (command ∷ []) = ⊥
GivesNumber number (command ∷ word ∷ options) = (word ≡ number) × IsTrue (is_number number)

-- What `bench` reports of the job of a number, which `gen` writes, is how many words its result has, and
-- their sum.
abbrev pub OneBench : Type 0
OneBench = (number text job again told out : List ℕ) (status : Status)
    → HasWritten generate_commands (GivesNumber number) text Done job
    → HasWritten bench_commands (GivesNumber number) again Done told
    → JobHasRun false job status out → IsResult status
    → (status ≡ Done) × ((words : List ℕ) × (out ≡ done_text words) × (told ≡ summary_text words))
