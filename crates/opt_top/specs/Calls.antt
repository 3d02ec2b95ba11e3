-- How a call of the program ends.
use Rattle.std.specs.Prelude.{◌≡◌, ◌≢◌, ◌⊎◌, ℕ, ◌+◌, ◌≤◌, true, List, [], ◌++◌, codes, length, take, Option}
use Rattle.ws_io.specs.Streams.{Rose, Takes, TakesAll, Adds, Flushes}
use Rattle.ws_isa.specs.Image.{Image}
use Rattle.src_ast.specs.declared.fault.Refusal.{Refusal}
use Rattle.src_ast.specs.Syntax.{Part}
use Rattle.asm_text.specs.Printed.{printed}
use Rattle.asm_read.specs.Sections.{rest_of}
use Rattle.asm_read.specs.Texts.{unread_text, long_text, refusal_text}
use Rattle.job_read.specs.Job.{job_limit, IsJob, Refuses}
use Rattle.wave_build.specs.Compiled.{IsCompiled}
use Rattle.opt_top.specs.declared.status.Status.{Status}
use Rattle.opt_top.specs.declared.status.Status.TheVariants.{Done, Usage, Refused, ReadFault, WriteFault}
use Rattle.opt_top.specs.declared.status.Status.TheVariants.{NoMemory}

abbrev pub code_of : Status → ℕ
code_of Done = 0
code_of Usage = 1
code_of Refused = 2
code_of ReadFault = 4
code_of WriteFault = 5
code_of NoMemory = 7

-- the printed form of an image of this program, with the input section of a text behind it
abbrev pub IsOptimized : List ℕ → List Part → List ℕ → Type 0
IsOptimized text parts out =
    (image : Image) × IsCompiled parts image × (out ≡ printed image ++ rest_of (codes "%input") true text)

-- the answer to a text: the assembly of a job, or why the text is refused
abbrev pub Answers : List ℕ → Status → List ℕ → Type 0
Answers text Done out = (parts : List Part) × (input : List ℕ) × IsJob text parts input
    × IsOptimized text parts out
Answers text Usage out = ⊥
Answers text Refused out = (why : Refusal) × Refuses text why × (out ≡ refusal_text why)
Answers text ReadFault out = ⊥
Answers text WriteFault out = ⊥
Answers text NoMemory out = ⊥

-- the whole text was read, and this is answered to it
pub record ToText (left after : Option (List ℕ)) (status : Status) (out : List ℕ) : Type 0 where
  pub text : List ℕ
  pub short : length text ≤ job_limit
  pub taken : TakesAll left text after
  pub answers : Answers text status out

-- more bytes came than a job may have
pub record Long (left after : Option (List ℕ)) (out : List ℕ) : Type 0 where
  pub bytes : List ℕ
  pub many : length bytes ≡ job_limit + 1
  pub taken : Takes left bytes after
  pub tells : out ≡ long_text

-- a read failed, and this was taken before
pub record NotRead (left after : Option (List ℕ)) (faults counted : ℕ) (out : List ℕ) : Type 0 where
  pub bytes : List ℕ
  pub short : length bytes ≤ job_limit
  pub taken : Takes left bytes after
  pub fault : Rose faults counted
  pub tells : out ≡ unread_text

-- what goes out at this status, if the source has this left before and after, and had so many faults
abbrev pub Replies : Option (List ℕ) → Option (List ℕ) → ℕ → ℕ → Status → List ℕ → Type 0
Replies left after faults counted Done out = ToText left after Done out
Replies left after faults counted Usage out = ⊥
Replies left after faults counted Refused out = ToText left after Refused out ⊎ Long left after out
Replies left after faults counted ReadFault out = NotRead left after faults counted out
Replies left after faults counted WriteFault out = ⊥
Replies left after faults counted NoMemory out = ⊥

abbrev pub usage_text : List ℕ
usage_text = codes "usage: wso\n"

-- the same of a call with these arguments: if there are some, nothing is read
abbrev pub Due : List (List ℕ) → Option (List ℕ) → Option (List ℕ) → ℕ → ℕ → Status → List ℕ → Type 0
Due words left after faults counted Usage out = (words ≢ []) × (after ≡ left) × (out ≡ usage_text)
Due words left after faults counted status out = (words ≡ []) × Replies left after faults counted status out

-- A call with these arguments, of which the source and the sink report this, ends with this status.
pub record CallEnds (words : List (List ℕ)) (left after : Option (List ℕ)) (faults counted : ℕ)
    (held holds : Option (List ℕ)) (flushed covered : Option ℕ) (erred told : ℕ) (status : Status)
    : Type 0 where
  -- what went out is the whole answer, and it was flushed
  pub answered : status ≢ WriteFault → status ≢ NoMemory → (out : List ℕ)
      × Due words left after faults counted status out × Adds held out holds × Flushes holds flushed covered
  -- a fault occurred, a prefix of the answer is written, and nothing more is flushed
  pub unwritten : status ≡ WriteFault → Rose erred told × (covered ≡ flushed)
      × ((out : List ℕ) × (due : Status) × (n : ℕ) × Due words left after faults counted due out
      × (n ≤ length out) × Adds held (take n out) holds)
  -- nothing is written
  pub starved : status ≡ NoMemory → (holds ≡ held) × (covered ≡ flushed)
