-- Lexemes beyond a limit.
use Rattle.std.specs.Prelude.{ℕ, ◌<◌, List, ◌++◌, refl}
use Rattle.src_ast.specs.declared.lexeme.Shape.{Shape}
use Rattle.src_ast.specs.declared.fault.RefusalKind.TheVariants.{Limit}
use Rattle.src_ast.specs.declared.fault.Quantity.TheVariants.{Depth, Lexemes}
use Rattle.src_ast.specs.Lexemes.{Spells, IsShort, open_past, row_past}
use Rattle.src_ast.specs.LexFaults.{Wrong}

pub too_deep : (open' row : ℕ) (s : Shape) → 32 < open_past open' s → (bytes following : List ℕ)
    → Spells s bytes following → IsShort s → Wrong open' row (bytes ++ following) (Limit Depth)
too_deep open' row s h bytes following p q = Wrong.deep s bytes following refl p h

pub too_crowded : (open' row : ℕ) (s : Shape) → 256 < row_past row s → (bytes following : List ℕ)
    → Spells s bytes following → IsShort s → Wrong open' row (bytes ++ following) (Limit Lexemes)
too_crowded open' row s h bytes following p q = Wrong.crowded s bytes following refl p q h

pub ruleset limits = (too_deep, too_crowded)
