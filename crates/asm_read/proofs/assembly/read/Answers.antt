use Rattle.std.proofs.Common.{ap, sym, ◌∙◌}
use Rattle.asm_text.specs.Reading as text
use Rattle.asm_read.specs.Sections.{InputWords, IsInputFault}
use Rattle.asm_read.proofs.Inputs.{of_text, of_sections}
use Rattle.asm_read.proofs.Assemblies.{section_fault, input_refused, no_words}
use Rattle.asm_read.proofs.assembly.read.Goals as goal

pub returns-in-Err-clause-refused : goal.returns-in-Err-clause-refused
returns-in-Err-clause-refused c t s i = section_fault t _ c.in-Err.fault s c.in-Err.ensures.refused

pub returns-in-Ok-input_words-clause-ok : goal.returns-in-Ok-input_words-clause-ok
returns-in-Ok-input_words-clause-ok c t s i = record {
  reads = ap text.read (sym s) ∙ c.in-Ok.ensures.ok;
  sound = c.in-Ok.ensures.sound;
  words = of_text (λ at x. InputWords at x c.in-Ok-input_words.words) t _ _ s i
      c.in-Ok-input_words.ensures.ok;
}

pub returns-in-Ok-input_words-clause-only : goal.returns-in-Ok-input_words-clause-only
returns-in-Ok-input_words-clause-only c t image words s i a =
    let reads = ap text.read s ∙ a.reads in
    let found = c.in-Ok.ensures.ok in (
      cc,
      c.in-Ok-input_words.ensures.only words
          (of_sections (λ at x. InputWords at x words) t _ _ s i a.words),
    )

pub returns-in-Err-input_words-clause-only : goal.returns-in-Err-input_words-clause-only
returns-in-Err-input_words-clause-only c t image words s i a = no_words c.in-Err-input_words.fault _ image
    words c.input_fault.ensures (c.in-Err-input_words.ensures.only words (of_sections (λ at x. InputWords at x
    words) t _ _ s i a.words))

pub returns-in-Err-input_words-clause-refused : goal.returns-in-Err-input_words-clause-refused
returns-in-Err-input_words-clause-refused c t s i = input_refused t _ c.in-Err-input_words.fault _
    c.input_fault.ensures (ap text.read (sym s) ∙ c.in-Ok.ensures.ok) c.in-Ok.ensures.sound (of_text (λ at x.
    IsInputFault at x c.in-Err-input_words.fault) t _ _ s i c.in-Err-input_words.ensures.refused)
