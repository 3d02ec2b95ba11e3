use Rattle.std.proofs.Common.{subst, sym}
use Rattle.src_ast.specs.View as view
use Rattle.asm_read.specs.Sections.{InputWords}
use Rattle.job_read.specs.Job.{ReadsAs}
use Rattle.asm_read.proofs.Inputs.{of_text, of_sections}
use Rattle.job_read.proofs.Jobs.{program_only, program_refused, words_only, words_refused}
use Rattle.job_read.proofs.text.read.Goals as goal

pub returns-in-Err-clause-only : goal.returns-in-Err-clause-only
returns-in-Err-clause-only c = program_only _ _ _ c.split.ensures.program c.in-Err.ensures.only

pub returns-in-Err-clause-refused : goal.returns-in-Err-clause-refused
returns-in-Err-clause-refused c = program_refused _ _ _ c.split.ensures.program c.in-Err.ensures.refused

pub returns-in-Err-input_words-clause-only : goal.returns-in-Err-input_words-clause-only
returns-in-Err-input_words-clause-only c =
    words_only _ _ _ _ c.split.ensures.program c.split.ensures.input c.in-Err-input_words.ensures.only

pub returns-in-Err-input_words-clause-refused : goal.returns-in-Err-input_words-clause-refused
returns-in-Err-input_words-clause-refused c =
    words_refused _ _ _ (view.parts c.in-Ok.accepted.program.items.items) _ c.split.ensures.program
    c.split.ensures.input c.in-Ok.ensures.ok c.in-Err-input_words.ensures.refused

pub returns-in-Ok-input_words-clause-ok : goal.returns-in-Ok-input_words-clause-ok
returns-in-Ok-input_words-clause-ok c =
    let s = c.split.ensures in
    record {
      reads = subst (λ p. ReadsAs p (view.parts c.in-Ok.accepted.program.items.items)) s.program
          c.in-Ok.ensures.ok;
      words = of_text (λ at t. InputWords at t c.in-Ok-input_words.words) c.args.text.now _ _ s.program
          s.input c.in-Ok-input_words.ensures.ok;
    }

pub returns-in-Ok-input_words-clause-same : goal.returns-in-Ok-input_words-clause-same
returns-in-Ok-input_words-clause-same c parts input j =
    let s = c.split.ensures in (
      c.in-Ok.ensures.only parts (subst (λ p. ReadsAs p parts) (sym s.program) j.reads),
      c.in-Ok-input_words.ensures.only input
          (of_sections (λ at t. InputWords at t input) c.args.text.now _ _ s.program s.input j.words),
    )
