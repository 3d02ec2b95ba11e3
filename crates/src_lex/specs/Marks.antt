-- Marks by their bytes.
use Rattle.std.specs.Prelude.{ℕ, ◌==◌, List, [], ◌∷◌, Option, Some, None, if◌then◌else◌}
use Rattle.src_ast.specs.declared.lexeme.Mark.{Mark}
use Rattle.src_ast.specs.declared.lexeme.Mark.TheVariants.{LParen, RParen, LBrace, RBrace, LSquare, RSquare}
use Rattle.src_ast.specs.declared.lexeme.Mark.TheVariants.{Comma, Semi, Assign, Plus, Minus, Star, Slash}
use Rattle.src_ast.specs.declared.lexeme.Mark.TheVariants.{Percent, Amp, Bar, Caret, Tilde, Bang, Less, More}
use Rattle.src_ast.specs.declared.lexeme.Mark.TheVariants.{LessEq, MoreEq, Same, Differs, ShiftLeft}
use Rattle.src_ast.specs.declared.lexeme.Mark.TheVariants.{ShiftRight}

-- the mark of one byte
abbrev pub mark_of_one : ℕ → Option Mark
mark_of_one b =
    if b == 40 then Some LParen
    else if b == 41 then Some RParen
    else if b == 123 then Some LBrace
    else if b == 125 then Some RBrace
    else if b == 91 then Some LSquare
    else if b == 93 then Some RSquare
    else if b == 44 then Some Comma
    else if b == 59 then Some Semi
    else if b == 61 then Some Assign
    else if b == 43 then Some Plus
    else if b == 45 then Some Minus
    else if b == 42 then Some Star
    else if b == 47 then Some Slash
    else if b == 37 then Some Percent
    else if b == 38 then Some Amp
    else if b == 124 then Some Bar
    else if b == 94 then Some Caret
    else if b == 126 then Some Tilde
    else if b == 33 then Some Bang
    else if b == 60 then Some Less
    else if b == 62 then Some More
    else None

-- the mark of two bytes
abbrev pub mark_of_two : ℕ → ℕ → Option Mark
mark_of_two b c =
    if c == 61
    then (if b == 60 then Some LessEq else if b == 62 then Some MoreEq else if b == 61
    then Some Same else if b == 33 then Some Differs else None)
    else if b == 60 then (if c == 60 then Some ShiftLeft else None)
    else if b == 62 then (if c == 62 then Some ShiftRight else None)
    else None

-- the mark of the first two bytes
abbrev pub mark_of_front : List ℕ → Option Mark
mark_of_front [] = None
mark_of_front (b ∷ []) = None
mark_of_front (b ∷ c ∷ more) = mark_of_two b c
