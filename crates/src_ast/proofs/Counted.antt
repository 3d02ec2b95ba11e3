-- What the lexemes of a printed form say of its rows.
use Rattle.std.proofs.Common.{◌≡◌, ℕ, ◌+◌, List, ◌∷◌, ◌++◌, codes, refl, sym, ap, ◌∙◌, subst, arith, []}
use Rattle.std.proofs.Common.{append_assoc}
use Rattle.src_ast.specs.declared.lexeme.Name.{Name}
use Rattle.src_ast.specs.declared.lexeme.Place.{Place}
use Rattle.src_ast.specs.declared.lexeme.Lexeme.{Lexeme}
use Rattle.src_ast.specs.declared.lexeme.Shape.TheVariants.{Word, Mark}
use Rattle.src_ast.specs.declared.lexeme.Mark.TheVariants.{LParen, RParen, LBrace, Semi}
use Rattle.src_ast.specs.Lexemes.{start, after, open_past, row_past, KeepLimits, Lex}
use Rattle.src_ast.specs.Grammar.{Is, Tree, some}
use Rattle.src_ast.specs.Printed.{indent, printed_form}
use Rattle.src_ast.specs.Same.{Same}
use Rattle.src_ast.specs.Syntax.{Procedure, Part, Array, Proc}
use Rattle.src_ast.specs.Written.{AreWrittenNames, names_width, FitsRow, HasPrintedLexemes}
use Rattle.src_ast.proofs.Nearly.{IsNearlyProcedure, AreNearlyWritten, HaveRows, whole}
use Rattle.src_ast.proofs.Bare.{names_width_bare, same_nearly}
use Rattle.src_ast.proofs.Pieces.{Piece, gap, lexeme, placed, lexed}
use Rattle.src_ast.proofs.Printing as p
use Rattle.src_ast.proofs.Printing.{space, newline, finish, printed_is}
use Rattle.src_ast.proofs.Spelt.{parts_spelt}
use Rattle.src_ast.proofs.Regrown.{here, past_mark, past_space, past_line, names_read, some_names_read}
use Rattle.src_ast.proofs.Regrowth.{part_reads}
use Rattle.src_ast.proofs.RowLimits.{leads_sound, AllPlain, plain, plain_word, open_limits, line_limits}
use Rattle.src_ast.proofs.Readable.{some_names_plain, names_fit}
use Rattle.src_ast.proofs.Fits.{tree_nearly}

-- what keeps the limits keeps them from any lexeme on
later : (xs ys : List Lexeme) (braces row : ℕ) → KeepLimits braces row (xs ++ ys)
    → (b : ℕ) × (r : ℕ) × KeepLimits b r ys
later [] ys braces row k = (braces, row, k)
later (x ∷ xs) ys braces row k =
    grind (arith, later xs ys (open_past braces x.shape) (row_past row x.shape) k.3)

-- a brace begins a row
after_brace : (xs : List Lexeme) (l : Lexeme) (ys : List Lexeme) (braces row : ℕ) → Is LBrace l
    → KeepLimits braces row (xs ++ l ∷ ys) → (b : ℕ) × KeepLimits b 0 ys
after_brace xs l ys braces row e k = grind (arith, later, open_limits)

variables_row : (xs : List Name) → AreWrittenNames xs → (at : Place) (qs : List Piece) (braces : ℕ)
    → KeepLimits braces 0 (placed at (p.variables xs qs)) → FitsRow (names_width xs + 1)
variables_row [] g at qs braces k = omega arith
variables_row (x ∷ xs) g at qs braces k =
    let l = here (after at (indent 1)) (Word (codes "var")) in
    let r = some_names_read x xs g.0 g.1 (past_space (after l.place (codes "var"))) (finish qs) in
    let semi = here r.following (Mark Semi) in
    let row : AllPlain (l ∷ r.ls) = plain (plain_word l (codes "var") refl) (some_names_plain r.spelled) in
    let w = line_limits semi (placed (past_line (past_mark semi.place Semi)) qs) braces row refl
    (subst (KeepLimits braces 0) (ap (λ t. l ∷ t) r.is) k) in
    let same : names_width (x ∷ xs) ≡ names_width r.again = sym (names_width_bare (x ∷ xs))
    ∙ ap names_width r.same ∙ names_width_bare r.again in
    let few = names_fit (some r.ls r.again r.spelled) in
    let short = w.0 in omega (arith, few, short, same)

procedure_row : (a : Procedure) → IsNearlyProcedure a → (at : Place) (qs : List Piece) (braces row : ℕ)
    → KeepLimits braces row (placed at (p.part (Proc a) qs)) → FitsRow (names_width a.vars + 1)
procedure_row a h at qs braces row k =
    let l = here at (Word (codes "proc")) in
    let m = here (past_space (after at (codes "proc"))) (Word a.name.text) in
    let first = here (after m.place a.name.text) (Mark LParen) in
    let bodies = p.body 1 a.body (p.ending a.ending (p.closing 0 qs)) in
    let variables = p.variables a.vars bodies in
    let ps = names_read a.params h.params (past_mark first.place LParen)
    (lexeme (Mark RParen) ∷ gap space ∷ lexeme (Mark LBrace) ∷ gap newline ∷ variables) in
    let last = here ps.following (Mark RParen) in
    let open' = here (past_space (past_mark last.place RParen)) (Mark LBrace) in
    let inside = past_line (past_mark open'.place LBrace) in
    let all : placed at (p.part (Proc a) qs) ≡ (l ∷ m ∷ first ∷ (ps.ls ++ last ∷ [])) ++ open' ∷ placed inside
    variables = grind (arith, append_assoc, placed) in
    grind (arith, after_brace, placed, variables_row)

-- where the lexemes of the printed form keep the limits, the variables of each procedure fit a row
rows : (all : List Part) → AreNearlyWritten all → (at : Place) (braces row : ℕ)
    → KeepLimits braces row (placed at (p.parts all)) → HaveRows all
rows [] h at braces row k = tt
rows (Array x n s ∷ all) h at braces row k =
    let r = part_reads (Array x n s) h.0 at (p.parts all) in
    let b = later r.ls (placed r.following (p.parts all)) braces row (subst (KeepLimits braces row) r.is k) in
    rows all h.1 r.following b.0 b.1 b.2
rows (Proc a ∷ all) h at braces row k =
    let r = part_reads (Proc a) h.0 at (p.parts all) in
    let b = later r.ls (placed r.following (p.parts all)) braces row (subst (KeepLimits braces row) r.is k) in
    (procedure_row a h.0 at (p.parts all) braces row k, rows all h.1 r.following b.0 b.1 b.2)

-- the lexemes of the printed form of what is nearly written
pub nearly_lexemes : (all : List Part) → AreNearlyWritten all → HasPrintedLexemes all
nearly_lexemes all h =
    record {
      ls = placed start (p.parts all);
      finish = after start (printed_form all);
      lex = grind (arith, placed, printed_is, lexed, parts_spelt);
      written = λ k. whole all h (rows all h start 0 0 k);
    }

-- a program that is the same as one read within the limits has a printed form with lexemes
pub printed_lexemes : (text : List ℕ) (ls : List Lexeme) (finish : Place) (again parts : List Part)
    → Lex text ls finish → KeepLimits 0 0 ls → Tree ls again → Same parts again → HasPrintedLexemes parts
printed_lexemes text ls finish again parts lex k tree same =
    nearly_lexemes parts (grind (arith, same_nearly, tree_nearly, leads_sound, lex.leads))
