use Rattle.asm_text.specs.Printed.{start}
use Rattle.asm_text.proofs.Scanning.Lined.{lines_of_printed}
use Rattle.asm_text.proofs.Scanning.Spelt.{lexed_text}
use Rattle.asm_text.proofs.laws.printed_lexemes_are_lexed.Goals as goal

pub returns-clause-lexemes : goal.returns-clause-lexemes
returns-clause-lexemes c = lexed_text start

pub returns-clause-lines : goal.returns-clause-lines
returns-clause-lines c = lines_of_printed
