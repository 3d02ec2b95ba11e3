use Rattle.src_ast.proofs.Counted.{printed_lexemes}
use Rattle.src_ast.proofs.laws.read_has_printed_lexemes.Goals as goal

pub returns : goal.returns
returns c = printed_lexemes
