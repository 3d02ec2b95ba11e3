use Rattle.std.proofs.Common.{◌∙◌}
use Rattle.src_lex.proofs.Words.{word_read}
use Rattle.src_lex.proofs.lexeme.word.Goals as goal

pub returns-in-Ok-clause-read : goal.returns-in-Ok-clause-read
returns-in-Ok-clause-read c =
    word_read c.args.text.now c.word_length-length.result c.in-Ok.name c.requires.some c.requires.letter
    c.word_length-length.ensures.longest (c.in-Ok.ensures ∙ c.split_at.ensures.front)
