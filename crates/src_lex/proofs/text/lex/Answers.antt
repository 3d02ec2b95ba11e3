use Rattle.src_lex.proofs.Lawful.{only_answer}
use Rattle.src_lex.proofs.text.lex.Goals as goal

pub returns-clause-only : goal.returns-clause-only
returns-clause-only c = only_answer c.args.text.now c.read.result c.read.ensures.found c.read.ensures.refused
