use Rattle.std.proofs.Common.{subst}
use Rattle.src_ast.specs.Lexemes.{KeepLimits}
use Rattle.src_ast.specs.Printed.{printed_form}
use Rattle.src_lex.proofs.Lawful.{one_lexing_of}
use Rattle.src_lex.proofs.laws.what_reads_the_same_is_written.Goals as goal

pub returns : goal.returns
returns c = λ parts h.
    let p = c.read_has_printed_lexemes.ensures (printed_form parts) h.ls h.finish h.again parts h.lex h.kept
    h.tree h.same in
    p.written
    (subst (KeepLimits 0 0) (one_lexing_of (printed_form parts) h.ls p.ls h.finish p.finish h.lex p.lex).0
    h.kept)
