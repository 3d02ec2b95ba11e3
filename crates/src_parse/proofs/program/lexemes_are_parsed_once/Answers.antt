use Rattle.src_parse.proofs.Laws.{parsed_once}
use Rattle.src_parse.proofs.program.lexemes_are_parsed_once.Goals as goal

pub returns : goal.returns
returns c = parsed_once
