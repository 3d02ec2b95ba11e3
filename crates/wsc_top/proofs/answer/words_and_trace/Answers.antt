use Rattle.std.proofs.Common.{ap, sym, ◌∙◌, codes, true}
use Rattle.asm_read.specs.Sections.{front_of, rest_of, input_of}
use Rattle.wsc_top.specs.Answers.{assembly_text}
use Rattle.wsc_top.proofs.Reading.BeforeTrace.{words_before}
use Rattle.wsc_top.proofs.answer.words_and_trace.Goals as goal

pub returns-in-Replay-clause-words : goal.returns-in-Replay-clause-words
returns-in-Replay-clause-words c text i = c.split_trace.ensures.words ∙ ap (front_of (codes "%trace") true) i
    ∙ sym (words_before text) ∙ ap (λ task. input_of (assembly_text task text)) (sym c.in-Replay.is)

pub returns-in-Replay-clause-trace : goal.returns-in-Replay-clause-trace
returns-in-Replay-clause-trace c text i is =
    c.split_trace.ensures.trace ∙ ap (rest_of (codes "%trace") true) i
