-- The jobs of a text for several threads, which stand between lines that are exactly `%job`, and why
-- the text is refused.
use Rattle.std.specs.Prelude.{◌≡◌, ℕ, ◌+◌, ◌-◌, ◌≤◌, ◌==◌, true, List, [], ◌∷◌, ◌++◌, codes, decimal, length}
use Rattle.std.specs.Prelude.{take, if◌then◌else◌, Result, Ok, Err}
use Rattle.src_ast.specs.declared.lexeme.Place.{Place}
use Rattle.src_ast.specs.declared.fault.Refusal.{Refusal}
use Rattle.src_ast.specs.Syntax.{Part}
use Rattle.src_ast.specs.Lexemes.{start, after}
use Rattle.wsc_top.specs.declared.batch.JobsRefusal.{JobsRefusal}
use Rattle.wsc_top.specs.declared.batch.JobsRefusal.TheVariants.{Threads, OfJob}
use Rattle.wsc_top.specs.declared.batch.JobsFault.{JobsFault}
use Rattle.wsc_top.specs.declared.batch.JobsFault.TheVariants.{Refused, NoMemory}
use Rattle.asm_read.specs.Sections.{front_of, rest_of, after_line}
use Rattle.job_read.specs.Job.{IsJob, Refuses}
use Rattle.asm_read.specs.Texts.{refusal_text}

-- the line that separates two jobs
abbrev pub separator : List ℕ
separator = codes "%job"

-- the most jobs of a text
abbrev pub most_jobs : ℕ
most_jobs = 4

-- a job, and the place in the whole text where it begins
pub record Piece : Type 0 where
  pub at : Place
  pub text : List ℕ

-- no line of the text is a separator
abbrev pub IsLast : List ℕ → Type 0
IsLast text = rest_of separator true text ≡ []

-- what stands before the first separator, or all
abbrev pub first_job : List ℕ → List ℕ
first_job text = front_of separator true text

-- what stands behind the line of the first separator, and where that begins, where the text begins at a
-- place
abbrev pub behind : List ℕ → List ℕ
behind text = after_line (rest_of separator true text)

abbrev pub place_behind : Place → List ℕ → Place
place_behind at text = after at (take (length text - length (behind text)) text)

-- A text that begins at this place is these jobs, with a separator between each two.
pub data JobsFrom : Place → List ℕ → List Piece → Type 0 where
  last : {at : Place} {text : List ℕ} → IsLast text
      → JobsFrom at text (record { at = at; text = first_job text } ∷ [])
  next : {at : Place} {text : List ℕ} {pieces : List Piece} → (IsLast text → ⊥)
      → JobsFrom (place_behind at text) (behind text) pieces
      → JobsFrom at text (record { at = at; text = first_job text } ∷ pieces)

abbrev pub Jobs : List ℕ → List Piece → Type 0
Jobs text pieces = JobsFrom start text pieces

-- a program and the words that it reads
abbrev pub ProgramAndInput : Type 0
ProgramAndInput = List Part × List ℕ

-- each of these is a job: this program and these words
abbrev pub EachIsJob : List Piece → List ProgramAndInput → Type 0
EachIsJob [] [] = Unit {0}
EachIsJob [] (job ∷ jobs) = ⊥
EachIsJob (piece ∷ pieces) [] = ⊥
EachIsJob (piece ∷ pieces) (job ∷ jobs) =
    IsJob piece.text job.0 job.1 × EachIsJob pieces jobs

-- the text is these jobs, and no more than may be
pub record AreJobs (text : List ℕ) (jobs : List ProgramAndInput) : Type 0 where
  pub pieces : List Piece
  pub split : Jobs text pieces
  pub few : length pieces ≤ most_jobs
  pub each : EachIsJob pieces jobs

-- it has a fourth separator, in this line, which begins where the fourth job ends
pub record IsCrowded (text : List ℕ) (line : ℕ) : Type 0 where
  pub before : List Piece
  pub fourth : Piece
  pub fifth : Piece
  pub more : List Piece
  pub split : Jobs text (before ++ fourth ∷ fifth ∷ more)
  pub three : length before ≡ 3
  pub line_is : line ≡ (after fourth.at fourth.text).line

-- The text is refused so: for a fourth separator, else by the fault of the first of its jobs that is
-- none.
pub data RefusesJobs (text : List ℕ) : JobsRefusal → Type 0 where
  crowded : (line : ℕ) → IsCrowded text line → RefusesJobs text (Threads line)
  faulty : (before : List Piece) (piece : Piece) (further : List Piece) (jobs : List ProgramAndInput)
      (r : Refusal) → Jobs text (before ++ piece ∷ further)
      → length (before ++ piece ∷ further) ≤ most_jobs → EachIsJob before jobs
      → Refuses piece.text r → RefusesJobs text (OfJob piece.at r)

-- the reading of a text: its jobs, or why it is refused
abbrev pub IsJobsAnswer : List ℕ → Result (List ProgramAndInput) JobsRefusal → Type 0
IsJobsAnswer text (Ok jobs) = AreJobs text jobs
IsJobsAnswer text (Err refusal) = RefusesJobs text refusal

-- why a text has no answer: memory, or it is refused
abbrev pub IsJobsFault : List ℕ → JobsFault → Type 0
IsJobsFault text NoMemory = Unit {0}
IsJobsFault text (Refused r) = RefusesJobs text r

-- where a place of a text stands that begins at a place itself
abbrev pub moved : Place → Place → Place
moved at place = record {
  line = at.line + place.line - 1;
  column = if place.line == 1 then at.column + place.column - 1 else place.column;
}

-- the answer where the text is refused; its places count in the whole text
abbrev pub jobs_refusal_text : JobsRefusal → List ℕ
jobs_refusal_text (Threads line) = codes "refused " ++ decimal line ++ codes ":1 threads\n"
jobs_refusal_text (OfJob at r) = refusal_text (record { kind = r.kind; place = moved at r.place })
