-- The program of a job: what is answered, what else is refused, and nothing both.
use Rattle.std.specs.Prelude.{◌≡◌, ℕ, List, Ok, Err}
use Rattle.std.proofs.Common.{sym, subst, arith}
use Rattle.src_ast.specs.declared.lexeme.Place.{Place}
use Rattle.src_ast.specs.declared.lexeme.Lexeme.{Lexeme}
use Rattle.src_ast.specs.declared.lexeme.Lexemes as code
use Rattle.src_ast.specs.declared.fault.TextFault.{TextFault}
use Rattle.src_ast.specs.declared.fault.TextFault.TheVariants as fault
use Rattle.src_ast.specs.declared.tree.Program.{Program}
use Rattle.src_ast.specs.View as view
use Rattle.src_ast.specs.Syntax.{Part}
use Rattle.src_ast.specs.Lexemes.{Lex, KeepLimits}
use Rattle.src_ast.specs.LexFaults.{IsLexFault, AnswersLexemes}
use Rattle.src_ast.specs.Grammar.{Tree}
use Rattle.src_ast.specs.Faults.{IsSyntaxFault, AnswersTree}
use Rattle.src_ast.specs.Rules.{IsAccepted, IsCheckFault}
use Rattle.job_read.specs.Job.{ReadsAs, ProgramFault, lexemes, syntax, rules, IsProgramFault, AnswersParts}

pub lex_fault : (section : List ℕ) (e : TextFault) → IsLexFault section e → IsProgramFault section e
lex_fault section fault.NoMemory h = tt
lex_fault section (fault.Refused r) h = lexemes r h

pub syntax_fault : (section : List ℕ) (ls : List Lexeme) (finish : Place) (e : TextFault)
    → Lex section ls finish → KeepLimits 0 0 ls → IsSyntaxFault ls finish e → IsProgramFault section e
syntax_fault section ls finish fault.NoMemory l k h = tt
syntax_fault section ls finish (fault.Refused r) l k h =
    subst (λ kind. ProgramFault section (record { kind = kind; place = r.place })) (sym h.0)
    (syntax ls finish r.place l k h.1)

pub rule_fault : (section : List ℕ) (ls : List Lexeme) (finish : Place) (parts : List Part) (e : TextFault)
    → Lex section ls finish → KeepLimits 0 0 ls → Tree ls parts → IsCheckFault parts finish e
    → IsProgramFault section e
rule_fault section ls finish parts fault.NoMemory l k t h = tt
rule_fault section ls finish parts (fault.Refused r) l k t h = rules ls finish parts r l k t h

-- where lexemes are answered for a text that reads, they are its lexemes
pub record SameLexemes (section : List ℕ) (ls : List Lexeme) (finish : Place) : Type 0 where
  pub same : (ks : List Lexeme) (p : Place) → Lex section ks p → KeepLimits 0 0 ks
      → (ls ≡ ks) × (finish ≡ p)

pub same_lexemes : (section : List ℕ) (l : code.Lexemes)
    → ((ks : List Lexeme) (p : Place) → Lex section ks p → KeepLimits 0 0 ks → AnswersLexemes (Ok l) ks p)
    → SameLexemes section l.items.items l.finish
same_lexemes section l h = record { same = h }

pub tree_of : (section : List ℕ) (ls : List Lexeme) (finish : Place) (parts : List Part)
    → SameLexemes section ls finish → ReadsAs section parts → Tree ls parts
tree_of section ls finish parts s r = subst (λ ks. Tree ks parts) (sym (s.same r.ls r.finish r.lex r.kept).0)
    r.tree

pub finish_of : (section : List ℕ) (ls : List Lexeme) (finish : Place) (parts : List Part)
    → SameLexemes section ls finish → ReadsAs section parts → IsAccepted parts finish
finish_of section ls finish parts s r =
    subst (λ p. IsAccepted parts p) (sym (s.same r.ls r.finish r.lex r.kept).1) r.accepted

pub err_lexemes : (section : List ℕ) (e : TextFault)
    → ((ks : List Lexeme) (p : Place) → Lex section ks p → KeepLimits 0 0 ks → AnswersLexemes (Err e) ks p)
    → (parts : List Part) → ReadsAs section parts → AnswersParts (Err e) parts
err_lexemes section fault.NoMemory h parts r = tt
err_lexemes section (fault.Refused x) h parts r = h r.ls r.finish r.lex r.kept

abbrev tree_parts : Program → List Part
tree_parts p = view.parts p.items.items

pub err_tree : (section : List ℕ) (ls : List Lexeme) (finish : Place) (e : TextFault)
    → SameLexemes section ls finish → ((all : List Part) → Tree ls all → AnswersTree tree_parts (Err e) all)
    → (parts : List Part) → ReadsAs section parts → AnswersParts (Err e) parts
err_tree section ls finish e s h parts r = grind (arith, tree_of)

pub err_check : (section : List ℕ) (ls : List Lexeme) (finish : Place) (tree : List Part) (e : TextFault)
    → SameLexemes section ls finish → ((all : List Part) → Tree ls all → tree ≡ all)
    → (IsAccepted tree finish → e ≡ fault.NoMemory) → (parts : List Part) → ReadsAs section parts
    → AnswersParts (Err e) parts
err_check section ls finish tree fault.NoMemory s only h parts r = tt
err_check section ls finish tree (fault.Refused x) s only h parts r =
    grind (arith, tree_of section ls finish parts s r, finish_of section ls finish parts s r)
