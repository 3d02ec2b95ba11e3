-- A text has one list of lexemes or one first fault at most.
use Rattle.std.specs.Prelude.{◌≡◌, ℕ, ◌≤◌, List, [], ◌∷◌, ◌++◌, Result, Ok, Err, IfOk, IfErr}
use Rattle.std.proofs.Common.{arith}
use Rattle.src_ast.specs.declared.lexeme.Place.{Place}
use Rattle.src_ast.specs.declared.lexeme.Lexeme.{Lexeme}
use Rattle.src_ast.specs.declared.lexeme.Lexemes as lexemes
use Rattle.src_ast.specs.declared.fault.Refusal.{Refusal}
use Rattle.src_ast.specs.declared.fault.RefusalKind.{RefusalKind}
use Rattle.src_ast.specs.declared.fault.TextFault.{TextFault}
use Rattle.src_ast.specs.declared.fault.TextFault.TheVariants.{Refused, NoMemory}
use Rattle.src_ast.specs.Lexemes.{start, Spells, Lex, IsShort, KeepLimits, open_past, row_past, open_after}
use Rattle.src_ast.specs.Lexemes.{row_after}
use Rattle.src_ast.specs.LexFaults.{Wrong, LexFault, IsLexFault, AnswersLexemes}
use Rattle.src_lex.proofs.Compared.{Compared, compare}
use Rattle.src_lex.proofs.Denied.{end_denies, end_ends_gap, end_right, wrong_ends_gap, wrong_denies}
use Rattle.src_lex.proofs.Denied.{one_wrong}

-- the limits, at a lexeme in a list that keeps them
pub record KeptAt (open' row : ℕ) (l : Lexeme) : Type 0 where
  pub short : IsShort l.shape
  pub depth : open_past open' l.shape ≤ 32
  pub row_kept : row_past row l.shape ≤ 256

kept_at : (o w : ℕ) (ls : List Lexeme) (l : Lexeme) (more : List Lexeme) → KeepLimits o w (ls ++ (l ∷ more))
    → KeptAt (open_after o ls) (row_after w ls) l
kept_at o w [] l more k = record { short = k.0; depth = k.1; row_kept = k.2 }
kept_at o w (m ∷ ls) l more k =
    grind (arith, kept_at (open_past o m.shape) (row_past w m.shape) ls l more k.3)

depth_kept : (o w : ℕ) (ls : List Lexeme) → o ≤ 32 → KeepLimits o w ls → open_after o ls ≤ 32
depth_kept o w [] h k = h
depth_kept o w (m ∷ ls) h k = grind (arith, depth_kept (open_past o m.shape) (row_past w m.shape) ls k.1 k.3)

-- a fault does not stand where another list within the limits goes on
no_fault_inside : (ls ms : List Lexeme) (l : Lexeme) (more : List Lexeme) (r bytes following : List ℕ)
    (k : RefusalKind) → KeepLimits 0 0 ms → ms ≡ ls ++ (l ∷ more)
    → Wrong (open_after 0 ls) (row_after 0 ls) r k → r ≡ bytes ++ following → Spells l.shape bytes following
    → ⊥
no_fault_inside ls ms l more r bytes following k kept e w t s = grind (arith, kept_at, wrong_denies, l.shape)

-- a text has one list of lexemes at most
pub one_lexing_of : (text : List ℕ) (a b : List Lexeme) (p q : Place) → Lex text a p → Lex text b q
    → (a ≡ b) × (p ≡ q)
one_lexing_of text a b p q x y =
    grind (arith, compare, start, x.place, y.place, x.leads, y.leads, end_ends_gap, end_denies)

-- a text whose lexemes keep the limits has no fault
pub no_fault_of : (text : List ℕ) (ls : List Lexeme) (p : Place) (r : Refusal) → Lex text ls p
    → KeepLimits 0 0 ls → LexFault text r → ⊥
no_fault_of text ls p r x kept y =
    let c = compare start text ls x.place x.rest y.ls r.place y.rest x.leads y.leads
    (end_ends_gap x.rest x.over) (wrong_ends_gap _ _ y.rest r.kind y.wrong) in
    grind (arith, end_right, no_fault_inside, y.wrong, end_denies)

same_refusal : (a b : Refusal) → a.kind ≡ b.kind → a.place ≡ b.place → a ≡ b
same_refusal a b e p = λ i. record { kind = e i; place = p i }

-- a text has one first fault at most
pub one_fault_of : (text : List ℕ) (a b : Refusal) → LexFault text a → LexFault text b → a ≡ b
one_fault_of text a b x y =
    let c = compare start text x.ls a.place x.rest y.ls b.place y.rest x.leads y.leads
    (wrong_ends_gap _ _ x.rest a.kind x.wrong) (wrong_ends_gap _ _ y.rest b.kind y.wrong) in
    elim c [
      | Compared.same e f g ↦
          let there : Wrong (open_after 0 x.ls) (row_after 0 x.ls) x.rest b.kind = rw (e, g) y.wrong in
          same_refusal a b (one_wrong (open_after 0 x.ls) (row_after 0 x.ls) x.rest a.kind b.kind
          (depth_kept 0 0 x.ls (omega arith) x.kept) x.wrong there) f
      | Compared.ahead l more bytes following e f s ↦
          absurd (no_fault_inside y.ls x.ls l more y.rest bytes following b.kind x.kept e y.wrong f s)
      | Compared.short l more bytes following e f s ↦
          absurd (no_fault_inside x.ls y.ls l more x.rest bytes following a.kind y.kept e x.wrong f s)
    ]

-- what is found or refused rightly is the one answer
pub only_answer : (text : List ℕ) (r : Result lexemes.Lexemes TextFault)
    → IfOk r (λ l. Lex text l.items.items l.finish) → IfErr r (λ e. IsLexFault text e)
    → (ls : List Lexeme) (p : Place) → Lex text ls p → KeepLimits 0 0 ls → AnswersLexemes r ls p
only_answer text (Ok l) found refused ls p x kept = one_lexing_of text l.items.items ls l.finish p found x
only_answer text (Err NoMemory) found refused ls p x kept = tt
only_answer text (Err (Refused r)) found refused ls p x kept = no_fault_of text ls p r x kept refused
