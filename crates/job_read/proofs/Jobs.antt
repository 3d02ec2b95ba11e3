-- Why the text of a job is refused, and what it is otherwise.
use Rattle.std.specs.Prelude.{◌≡◌, List, ℕ, Err, refl}
use Rattle.std.proofs.Common.{sym, subst, arith}
use Rattle.src_ast.specs.declared.lexeme.Place.{Place}
use Rattle.src_ast.specs.declared.lexeme.Lexeme.{Lexeme}
use Rattle.src_ast.specs.declared.fault.TextFault.{TextFault}
use Rattle.src_ast.specs.declared.fault.TextFault.TheVariants as fault
use Rattle.src_ast.specs.Syntax.{Part}
use Rattle.src_ast.specs.Lexemes.{Lex, KeepLimits}
use Rattle.src_ast.specs.Grammar.{Tree}
use Rattle.src_ast.specs.Rules.{IsAccepted}
use Rattle.src_ast.specs.Written.{IsWritten}
use Rattle.asm_read.specs.Sections.{program_of, input_of, place_below, InputWords, IsInputFault, AnswersWords}
use Rattle.asm_read.proofs.Inputs.{of_text, of_sections}
use Rattle.job_read.specs.Job.{ReadsAs, ProgramFault, IsJob, Refuses, program, input, IsRefused}
use Rattle.job_read.specs.Job.{IsProgramFault, AnswersParts}

-- a program that is refused is no job
pub program_only : (text section : List ℕ) (e : TextFault) → section ≡ program_of text
    → ((parts : List Part) → ReadsAs section parts → AnswersParts (Err e) parts)
    → (parts : List Part) (ws : List ℕ) → IsJob text parts ws → e ≡ fault.NoMemory
program_only text section fault.NoMemory s h parts ws j = refl
program_only text section (fault.Refused r) s h parts ws j = absurd (h parts (grind arith))

pub program_refused : (text section : List ℕ) (e : TextFault) → section ≡ program_of text
    → IsProgramFault section e → IsRefused text e
program_refused text section fault.NoMemory s h = tt
program_refused text section (fault.Refused r) s h = program r (subst (λ p. ProgramFault p r) s h)

pub words_only : (text section rest : List ℕ) (e : TextFault) → section ≡ program_of text
    → rest ≡ input_of text
    → ((ws : List ℕ) → InputWords (place_below section) rest ws → AnswersWords (Err e) ws)
    → (parts : List Part) (ws : List ℕ) → IsJob text parts ws → e ≡ fault.NoMemory
words_only text section rest fault.NoMemory s i h parts ws j = refl
words_only text section rest (fault.Refused r) s i h parts ws j = absurd (h ws (grind (arith, of_sections)))

pub words_refused : (text section rest : List ℕ) (found : List Part) (e : TextFault)
    → section ≡ program_of text → rest ≡ input_of text → ReadsAs section found
    → IsInputFault (place_below section) rest e → IsRefused text e
words_refused text section rest found fault.NoMemory s i r h = tt
words_refused text section rest found (fault.Refused x) s i r h = subst (λ kind. Refuses text (record {
  kind = kind;
  place = x.place;
})) (sym h.0) (input found x.place (grind arith) (grind (arith, of_text)))

pub job_written : (text : List ℕ) (parts : List Part) (ws : List ℕ)
    → ((bytes : List ℕ) (ls : List Lexeme) (finish : Place) (all : List Part) → Lex bytes ls finish
    → KeepLimits 0 0 ls → Tree ls all → IsAccepted all finish → IsWritten all)
    → IsJob text parts ws → IsWritten parts
job_written text parts ws law j = let r = j.reads in law (program_of text) r.ls r.finish parts r.lex r.kept
    r.tree r.accepted
