use Rattle.src_lex.proofs.Exists.{lexed_once}
use Rattle.src_lex.proofs.laws.each_text_is_lexed_once.Goals as goal

pub returns : goal.returns
returns c = lexed_once
