use Rattle.trace_check.proofs.Written.{reads_again}
use Rattle.trace_check.proofs.laws.written_traces_read_again.Goals as goal

pub returns : goal.returns
returns c = reads_again c.printed_lexemes_are_lexed.ensures.lexemes c.printed_lexemes_are_lexed.ensures.lines
