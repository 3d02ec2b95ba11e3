-- The printed form of a written program reads as the same program.
use Rattle.std.proofs.Common.{arith, List}
use Rattle.src_ast.specs.Lexemes.{start}
use Rattle.src_ast.specs.Syntax.{Part}
use Rattle.src_ast.specs.Written.{IsWritten, ReadsTheSame}
use Rattle.src_ast.proofs.Pieces.{placed, lexed, keeps}
use Rattle.src_ast.proofs.Printing.{parts, printed_is}
use Rattle.src_ast.proofs.Nearly.{nearly}
use Rattle.src_ast.proofs.Spelt.{parts_spelt}
use Rattle.src_ast.proofs.Kept.{parts_kept}
use Rattle.src_ast.proofs.Regrowth.{parts_read}

-- what is written reads as the same program
pub reads_the_same : (all : List Part) → IsWritten all → ReadsTheSame all
reads_the_same all h =
    let n = nearly all h in
    let r = parts_read all n start in
    grind (arith, placed, parts, printed_is, lexed, parts_spelt, keeps, parts_kept)
