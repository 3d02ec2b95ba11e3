-- What is read of a generated job is that job.
use Rattle.std.specs.Prelude.{◌≡◌, ℕ, ◌≤◌, List, length}
use Rattle.std.proofs.Common.{sym, subst, arith}
use Rattle.src_ast.specs.declared.fault.TextFault.{TextFault}
use Rattle.src_ast.specs.declared.fault.TextFault.TheVariants as fault
use Rattle.src_ast.specs.Syntax.{Part}
use Rattle.ws_isa.specs.Image.{Image}
use Rattle.work_gen.specs.Job.{words_of, job_text}
use Rattle.job_read.specs.Job.{job_limit, IsJob}
use Rattle.wsc_top.specs.Generated.{IsGeneratedJob}
use Rattle.wave_build.specs.Compiled.{IsCompiled}

-- its text is short enough to be read
pub bench_short : (number : ℕ) (seen : List ℕ) → seen ≡ job_text number
    → (parts : List Part) × IsGeneratedJob number parts → length seen ≤ job_limit
bench_short number seen is law = subst (λ t. length t ≤ job_limit) (sym is) law.1.short

-- and it isn't refused
pub bench_refused : (number : ℕ) (seen : List ℕ) → seen ≡ job_text number → (e : TextFault)
    → (parts : List Part) × IsGeneratedJob number parts
    → ((parts : List Part) (words : List ℕ) → IsJob seen parts words → e ≡ fault.NoMemory)
    → e ≡ fault.NoMemory
bench_refused number seen is e law only = only law.0 (words_of number) (grind arith)

-- its program and its words
pub bench_job : (number : ℕ) (seen : List ℕ) (found : List Part) (input : List ℕ) (image : Image)
    → seen ≡ job_text number → (parts : List Part) × IsGeneratedJob number parts
    → ((parts : List Part) (words : List ℕ) → IsJob seen parts words → (found ≡ parts) × (input ≡ words))
    → IsCompiled found image
    → (parts : List Part) × IsGeneratedJob number parts × IsCompiled parts image × (input ≡ words_of number)
bench_job number seen found input image is law same c = let e = same law.0 (words_of number) (grind arith) in
    grind arith
