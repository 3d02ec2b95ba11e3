use Rattle.src_lex.proofs.Lawful.{one_lexing_of}
use Rattle.src_lex.proofs.laws.one_lexing.Goals as goal

pub returns : goal.returns
returns c = one_lexing_of
