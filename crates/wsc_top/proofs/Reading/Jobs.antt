-- Why the text of a job is refused, and what it is otherwise.
use Rattle.std.specs.Prelude.{◌≡◌, ℕ, List, None, Err, refl}
use Rattle.std.proofs.Common.{sym, subst, arith}
use Rattle.src_ast.specs.declared.lexeme.Place.{Place}
use Rattle.src_ast.specs.declared.fault.Refusal.{Refusal}
use Rattle.src_ast.specs.declared.fault.TextFault.{TextFault}
use Rattle.src_ast.specs.declared.fault.TextFault.TheVariants as fault
use Rattle.src_ast.specs.Syntax.{Part}
use Rattle.src_ast.specs.declared.lexeme.Lexeme.{Lexeme}
use Rattle.src_ast.specs.Lexemes.{Lex, KeepLimits}
use Rattle.src_ast.specs.Grammar.{Tree}
use Rattle.src_ast.specs.Rules.{IsAccepted}
use Rattle.src_ast.specs.Written.{IsWritten}
use Rattle.wsc_top.specs.declared.task.JobTask.{JobTask}
use Rattle.wsc_top.specs.declared.status.Status.TheVariants.{Refused}
use Rattle.asm_read.specs.Sections.{program_of, input_of, place_below, InputWords, IsInputFault, AnswersWords}
use Rattle.asm_read.specs.Texts.{refusal_text}
use Rattle.job_read.specs.Job.{ReadsAs, ProgramFault, IsJob, Refuses, program, input, IsRefused}
use Rattle.job_read.specs.Job.{IsProgramFault, AnswersParts}
use Rattle.wsc_top.specs.declared.step.CallStep.{CallStep}
use Rattle.wsc_top.specs.declared.step.CallStep.TheVariants.{Ready, Run as Due, Threads as Many}
use Rattle.wsc_top.specs.Answers.{Answered, refused, done}
use Rattle.wsc_top.specs.Steps.{YieldStep, JobStep}
use Rattle.asm_read.proofs.Inputs.{of_text, of_sections}

-- what is to be done where the text is refused
pub refused_step : (task : JobTask) (text out : List ℕ) (r : Refusal) → Refuses text r → out ≡ refusal_text r
    → JobStep task text (Ready Refused out None)
refused_step task text out r h e handed = subst (λ o. Answered task text handed Refused o None handed) (sym e)
    (refused r h)

-- and where it is a job
pub job_step : (task : JobTask) (text : List ℕ) (parts : List Part) (ws : List ℕ) (step : CallStep)
    → IsJob text parts ws → YieldStep task parts ws step → JobStep task text step
job_step task text parts ws (Ready status out image) j y = λ handed. done parts ws j (y handed)
job_step task text parts ws (Many options jobs) j y = absurd y
job_step task text parts ws (Due options image words) j y = grind arith
