-- What comes of the run that is due is the answer.
use Rattle.std.specs.Prelude.{◌≡◌, ℕ, List, [], Option, Some, Result, Ok, Err, refl}
use Rattle.std.proofs.Common.{sym, subst, arith}
use Rattle.port_set.specs.Ports.{Told}
use Rattle.store_buf.specs.Outdoors.{world_with}
use Rattle.ws_isa.specs.Image.{Image}
use Rattle.wsc_top.specs.declared.status.Status.{Status}
use Rattle.wsc_top.specs.declared.task.RunOptions.{RunOptions}
use Rattle.wsc_top.specs.declared.task.JobTask.TheVariants.{Run}
use Rattle.wsc_top.specs.declared.task.AssemblyTask.TheVariants.{Exec}
use Rattle.wsc_words.specs.Lines.{HasCommand}
use Rattle.wsc_top.specs.Executions.{Executes, RunAnswered}
use Rattle.wsc_top.specs.Answers.{TellWords, ran, executed, read, assembled, benched, Answers, IsDue, Starves}
use Rattle.wsc_top.specs.Answers.{within}
use Rattle.wsc_top.specs.Answers as answers
use Rattle.wsc_top.specs.Threads.{Replies, alone, Falls}
use Rattle.wsc_top.specs.Threads as threads
use Rattle.wsc_top.specs.Calls.{IsReply}
use Rattle.asm_read.specs.Reads.{SourceCall}
use Rattle.wsc_top.specs.Steps.{StepSo}
use Rattle.wsc_top.specs.declared.step.CallStep.{CallStep}
use Rattle.wsc_top.specs.declared.step.CallStep.TheVariants.{Ready}
use Rattle.wsc_top.proofs.Reading.AssembliesOnce.{WalksOnce}
use Rattle.wsc_top.proofs.Told.Tells.{WalksEnd, input_words, given_words, run_tells}

module _ (known : WalksOnce) (whole : WalksEnd) (words : List (List ℕ)) (left after : Option (List ℕ))
    (faults counted : ℕ) (handed back : List (Option Told)) (told : TellWords handed) where
  pub due_answers : (options : RunOptions) (image : Image) (input : List ℕ) (status : Status) (out : List ℕ)
      → IsDue words left after options image input
      → Executes options image (world_with input handed) handed status out back
      → Answers words left after faults counted handed status out (Some image) back
  due_answers options image input status out (answers.IsDue.job text parts line short takes j c) e = read (Run
      options) text line short takes (answers.Answered.done parts input j (ran image c e (run_tells known
      whole options parts image c (world_with input handed) (given_words input handed (input_words _ _ input
      j.words) told) handed back status out e)))
  due_answers options image input status out (answers.IsDue.assembly text line short takes a) e = assembled
      (Exec options) text line short takes (answers.AssemblyAnswered.done image input a (executed e))
  due_answers options image input status out (answers.IsDue.generated bench parts line same job c) e = benched
      bench line same (record {
        parts = parts;
        job = job;
        yields = ran image c e (run_tells known whole options parts image c (world_with input handed)
            (given_words input handed (input_words _ _ input job.job.words) told) handed back status out e);
      })

-- the reply of a run that was due
module _ {E : Type 0} (words : List (List ℕ)) (reads : SourceCall) (handed back : List (Option Told))
    (options : RunOptions) (image : Image) (input : List ℕ)
    (due : IsDue words reads.left reads.after options image input) (images : List Image) (none : images ≡ [])
    (known : (HasCommand words → ⊥) → ⊥) where
  pub due_reply : (answer : Result (Status × List ℕ) E)
      → ((status : Status) (out : List ℕ) → Executes options image (world_with input handed) handed status out
      back → Answers words reads.left reads.after reads.faults reads.counted handed status out (Some image)
      back) → RunAnswered options image (world_with input handed) handed answer back
      → IsReply words reads handed answer (Some image) images back
  due_reply (Ok y) law a = record {
    answered = subst (λ (is : List Image). Replies words reads.left reads.after reads.faults reads.counted
        handed y.0 y.1 (Some image) is back) (sym none) (alone (law y.0 y.1 a.executes));
    memory = tt;
    known = λ h. refl;
  }
  due_reply (Err x) law a = record {
    answered = tt;
    memory = subst (λ (is : List Image). Falls words reads.left reads.after handed (Some image) is back)
        (sym none) (threads.Falls.alone (within due a.begun));
    known = λ h. absurd (known h);
  }

-- the reply where nothing was due
module _ {E : Type 0} (words : List (List ℕ)) (reads : SourceCall) (handed : List (Option Told))
    (image : Option Image) (images : List Image) (none : images ≡ []) where
  pub ready_reply : (step : CallStep) (status : Status) (out : List ℕ) → step ≡ Ready status out image
      → StepSo words reads.left reads.after reads.faults reads.counted step
      → IsReply {E = E} words reads handed (Ok (status, out)) image images handed
  ready_reply step status out is so = grind arith

  pub unbegun_reply : (e : E) → ((HasCommand words → ⊥) → ⊥)
      → Starves words reads.left reads.after handed image handed
      → IsReply words reads handed (Err e) image images handed
  unbegun_reply e known starves = record {
    answered = tt;
    memory = subst (λ (is : List Image). Falls words reads.left reads.after handed image is handed) (sym none)
        (threads.Falls.alone starves);
    known = λ h. absurd (known h);
  }
