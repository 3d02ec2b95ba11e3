-- Names and variables that are identified by their texts; where they stand doesn't matter.
use Rattle.std.specs.Prelude.{ℕ, List}
use Rattle.src_ast.specs.declared.lexeme.Name.{Name}
use Rattle.src_ast.specs.Lexemes.{start}
use Rattle.src_ast.specs.Syntax.{Expression, Variable}

abbrev pub named : List ℕ → Name
named text = record { text = text; place = start }

abbrev pub value : List ℕ → Expression
value text = Variable (named text)
