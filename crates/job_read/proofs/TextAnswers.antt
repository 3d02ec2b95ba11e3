-- Each text comes to one thing alone: a job, or one refusal.
use Rattle.std.specs.Prelude.{◌≡◌, ℕ, List, Option, Some, None, Result, Ok, Err}
use Rattle.std.proofs.Common.{ap, subst, arith}
use Rattle.src_ast.specs.declared.lexeme.Place.{Place}
use Rattle.src_ast.specs.declared.lexeme.Lexeme.{Lexeme}
use Rattle.src_ast.specs.declared.fault.Refusal.{Refusal}
use Rattle.src_ast.specs.declared.fault.RefusalKind.TheVariants.{Syntax, Input}
use Rattle.src_ast.specs.Syntax.{Part}
use Rattle.src_ast.specs.Lexemes.{Lex, KeepLimits}
use Rattle.src_ast.specs.LexFaults.{LexFault, IsLexAnswer}
use Rattle.src_ast.specs.Grammar.{Tree}
use Rattle.src_ast.specs.Faults.{SyntaxAt, IsTreeAnswer}
use Rattle.src_ast.specs.Rules.{rules_of, IsAccepted, IsFirstBroken, IsRuleAnswer}
use Rattle.src_ast.specs.Once.{ExactlyOne}
use Rattle.asm_read.specs.Sections.{program_of, input_of, input_place, InputWords, InputFault, IsInputAnswer}
use Rattle.job_read.specs.Job.{ReadsAs, ProgramFault, lexemes, syntax, rules, program, input, IsTextAnswer}
use Rattle.asm_read.proofs.Inputs.{one_answer}

-- what a program section comes to: its tree, or its first fault
abbrev IsProgramAnswer : List ℕ → Result (List Part) Refusal → Type 0
IsProgramAnswer section (Ok parts) = ReadsAs section parts
IsProgramAnswer section (Err r) = ProgramFault section r

-- a refusal for syntax
abbrev syntax_at : Place → Refusal
syntax_at p = record { kind = Syntax; place = p }

-- a text with a fault of lexemes has no other answer
module _ (section : List ℕ) (r : Refusal) (fault : LexFault section r)
    (only : (other : Result (List Lexeme × Place) Refusal) → IsLexAnswer section other
    → other ≡ Err r) where
  only_lex_fault : (other : Result (List Part) Refusal) → IsProgramAnswer section other → other ≡ Err r
  only_lex_fault (Ok parts) h = let bad = only (Ok (h.ls, h.finish)) (h.lex, h.kept) in cc
  only_lex_fault (Err q) (lexemes p h) = let same = only (Err p) h in cc
  only_lex_fault (Err q) (syntax ls finish place l k s) = let bad = only (Ok (ls, finish)) (l, k) in cc
  only_lex_fault (Err q) (rules ls finish parts p l k t b) = let bad = only (Ok (ls, finish)) (l, k) in cc

  lex_fault_once : ExactlyOne (IsProgramAnswer section)
  lex_fault_once = record { answer = Err r; holds = lexemes r fault; only = only_lex_fault }

-- a text with these lexemes
module _ (section : List ℕ) (ls : List Lexeme) (finish : Place) (lex : Lex section ls finish)
    (kept : KeepLimits 0 0 ls)
    (only : (other : Result (List Lexeme × Place) Refusal) → IsLexAnswer section other
    → other ≡ Ok (ls, finish)) where
  -- any lexemes of the text are these
  same_lexemes : (these : List Lexeme) (end : Place) → Lex section these end → KeepLimits 0 0 these
      → ◌≡◌ {A = List Lexeme × Place} (these, end) (ls, finish)
  same_lexemes these end l k = let same = only (Ok (these, end)) (l, k) in cc

  no_lex_fault : (r : Refusal) → LexFault section r → ⊥
  no_lex_fault r h = let bad = only (Err r) h in cc

  -- what is so of any lexemes is so of these
  tree_of_these : (these : List Lexeme) (end : Place) (parts : List Part) → Lex section these end
      → KeepLimits 0 0 these → Tree these parts → Tree ls parts
  tree_of_these these end parts l k t = grind (arith, same_lexemes these end l k)

  syntax_of_these : (these : List Lexeme) (end place : Place) → Lex section these end
      → KeepLimits 0 0 these → SyntaxAt these end place → SyntaxAt ls finish place
  syntax_of_these these end place l k s = grind (arith, same_lexemes these end l k)

  end_of_these : (these : List Lexeme) (end : Place) → Lex section these end → KeepLimits 0 0 these
      → end ≡ finish
  end_of_these these end l k = ap (λ (x : List Lexeme × Place). x.1) (same_lexemes these end l k)

  -- where they have no tree
  module _ (place : Place) (fault : SyntaxAt ls finish place) (only_tree : (other : Result (List Part) Place)
      → IsTreeAnswer ls finish other → other ≡ Err place) where
    only_syntax : (other : Result (List Part) Refusal) → IsProgramAnswer section other
        → other ≡ Err (syntax_at place)
    only_syntax (Ok parts) h = let bad =
        only_tree (Ok parts) (tree_of_these h.ls h.finish parts h.lex h.kept h.tree) in cc
    only_syntax (Err q) (lexemes p h) = absurd (no_lex_fault p h)
    only_syntax (Err q) (syntax these end at l k s) =
        let same = only_tree (Err at) (syntax_of_these these end at l k s) in
        grind arith
    only_syntax (Err q) (rules these end parts p l k t b) = let bad =
        only_tree (Ok parts) (tree_of_these these end parts l k t) in cc

    syntax_once : ExactlyOne (IsProgramAnswer section)
    syntax_once = record {
      answer = Err (syntax_at place);
      holds = syntax ls finish place lex kept fault;
      only = only_syntax;
    }

  -- where they have this tree
  module _ (parts : List Part) (tree : Tree ls parts) (only_tree : (other : Result (List Part) Place)
      → IsTreeAnswer ls finish other → other ≡ Ok parts) where
    same_tree : (these : List Lexeme) (end : Place) (found : List Part) → Lex section these end
        → KeepLimits 0 0 these → Tree these found → found ≡ parts
    same_tree these end found l k t = let same = only_tree (Ok found) (tree_of_these these end found l k t) in
        cc

    no_syntax : (these : List Lexeme) (end place : Place) → Lex section these end
        → KeepLimits 0 0 these → SyntaxAt these end place → ⊥
    no_syntax these end place l k s = let bad =
        only_tree (Err place) (syntax_of_these these end place l k s) in cc

    broken_of_these : (these : List Lexeme) (end : Place) (found : List Part) (r : Refusal)
        → Lex section these end → KeepLimits 0 0 these → Tree these found
        → IsFirstBroken (rules_of found end) r → IsFirstBroken (rules_of parts finish) r
    broken_of_these these end found r l k t b =
        grind (arith, end_of_these these end l k, same_tree these end found l k t)

    accepted_of_these : (found : List Part) (h : ReadsAs section found) → IsAccepted parts finish
    accepted_of_these found h = subst (λ p. IsAccepted parts p) (end_of_these h.ls h.finish h.lex h.kept)
        (subst (λ ps. IsAccepted ps h.finish) (same_tree h.ls h.finish found h.lex h.kept h.tree) h.accepted)

    -- where it keeps the rules
    module _ (accepted : IsAccepted parts finish) (only_rule : (other : Option Refusal)
        → IsRuleAnswer parts finish other → other ≡ None) where
      only_accepted : (other : Result (List Part) Refusal) → IsProgramAnswer section other → other ≡ Ok parts
      only_accepted (Ok found) h = ap Ok (same_tree h.ls h.finish found h.lex h.kept h.tree)
      only_accepted (Err q) (lexemes p h) = absurd (no_lex_fault p h)
      only_accepted (Err q) (syntax these end at l k s) = absurd (no_syntax these end at l k s)
      only_accepted (Err q) (rules these end found p l k t b) = let bad =
          only_rule (Some p) (broken_of_these these end found p l k t b) in cc

      accepted_once : ExactlyOne (IsProgramAnswer section)
      accepted_once = record { answer = Ok parts; holds = grind arith; only = only_accepted }

    -- where this is the first rule that it breaks
    module _ (r : Refusal) (broken : IsFirstBroken (rules_of parts finish) r)
        (only_rule : (other : Option Refusal) → IsRuleAnswer parts finish other → other ≡ Some r) where
      only_broken : (other : Result (List Part) Refusal) → IsProgramAnswer section other → other ≡ Err r
      only_broken (Ok found) h = let bad = only_rule None (accepted_of_these found h) in cc
      only_broken (Err q) (lexemes p h) = absurd (no_lex_fault p h)
      only_broken (Err q) (syntax these end at l k s) = absurd (no_syntax these end at l k s)
      only_broken (Err q) (rules these end found p l k t b) = let same =
          only_rule (Some p) (broken_of_these these end found p l k t b) in cc

      broken_once : ExactlyOne (IsProgramAnswer section)
      broken_once = record {
        answer = Err r;
        holds = rules ls finish parts r lex kept tree broken;
        only = only_broken;
      }

    ruled_once : ExactlyOne (IsRuleAnswer parts finish) → ExactlyOne (IsProgramAnswer section)
    ruled_once e = grind (arith, accepted_once, broken_once)

  parsed_once : ((parts : List Part) (end : Place) → ExactlyOne (IsRuleAnswer parts end))
      → ExactlyOne (IsTreeAnswer ls finish) → ExactlyOne (IsProgramAnswer section)
  parsed_once ruled e = go e.answer e.holds e.only
    where
      go : (found : Result (List Part) Place) → IsTreeAnswer ls finish found
          → ((other : Result (List Part) Place) → IsTreeAnswer ls finish other → other ≡ found)
          → ExactlyOne (IsProgramAnswer section)
      go (Ok parts) h only_tree = ruled_once parts h only_tree (ruled parts finish)
      go (Err place) h only_tree = syntax_once place h only_tree

-- each program section comes to one thing alone, since its lexemes, its tree and its rules do
program_once : (section : List ℕ) → ExactlyOne (IsLexAnswer section)
    → ((ls : List Lexeme) (finish : Place) → ExactlyOne (IsTreeAnswer ls finish))
    → ((parts : List Part) (finish : Place) → ExactlyOne (IsRuleAnswer parts finish))
    → ExactlyOne (IsProgramAnswer section)
program_once section lexed parsed ruled = go lexed.answer lexed.holds lexed.only
  where
    go : (found : Result (List Lexeme × Place) Refusal) → IsLexAnswer section found
        → ((other : Result (List Lexeme × Place) Refusal) → IsLexAnswer section other
        → other ≡ found)
        → ExactlyOne (IsProgramAnswer section)
    go (Ok (ls, finish)) h only = parsed_once section ls finish h.0 h.1 only ruled (parsed ls finish)
    go (Err r) h only = lex_fault_once section r h only

-- a refused program
module _ (text : List ℕ) (r : Refusal) (fault : ProgramFault (program_of text) r)
    (only : (other : Result (List Part) Refusal) → IsProgramAnswer (program_of text) other → other ≡ Err r)
  where
    only_program : (other : Result (List Part × List ℕ) Refusal) → IsTextAnswer text other → other ≡ Err r
    only_program (Ok (parts, words)) h = let bad = only (Ok parts) h.reads in cc
    only_program (Err q) (program p h) = let same = only (Err p) h in cc
    only_program (Err q) (input parts place h f) = let bad = only (Ok parts) h in cc

    refused_once : ExactlyOne (IsTextAnswer text)
    refused_once = record { answer = Err r; holds = program r fault; only = only_program }

-- a program with this tree
module _ (text : List ℕ) (parts : List Part) (reads : ReadsAs (program_of text) parts)
    (only : (other : Result (List Part) Refusal) → IsProgramAnswer (program_of text) other → other ≡ Ok
    parts) where
  same_parts : (found : List Part) → ReadsAs (program_of text) found → found ≡ parts
  same_parts found h = let same = only (Ok found) h in cc

  no_program_fault : (r : Refusal) → ProgramFault (program_of text) r → ⊥
  no_program_fault r h = let bad = only (Err r) h in cc

  abbrev input_at : Place → Refusal
  input_at p = record { kind = Input; place = p }

  module _ (words : List ℕ) (read : InputWords (input_place text) (input_of text) words)
      (only_input : (other : Result (List ℕ) Place) → IsInputAnswer (input_place text) (input_of text) other
      → other ≡ Ok words) where
    same_words : (others : List ℕ) → InputWords (input_place text) (input_of text) others → others ≡ words
    same_words others h = let same = only_input (Ok others) h in cc

    only_job : (other : Result (List Part × List ℕ) Refusal) → IsTextAnswer text other
        → other ≡ Ok (parts, words)
    only_job (Ok (others, found)) h = grind (arith, same_parts others h.reads, same_words found h.words)
    only_job (Err q) (program p h) = absurd (no_program_fault p h)
    only_job (Err q) (input others at h f) = let bad = only_input (Err at) f in cc

    job_once : ExactlyOne (IsTextAnswer text)
    job_once = record { answer = Ok (parts, words); holds = grind arith; only = only_job }

  module _ (place : Place) (fault : InputFault (input_place text) (input_of text) place)
      (only_input : (other : Result (List ℕ) Place) → IsInputAnswer (input_place text) (input_of text) other
      → other ≡ Err place) where
    same_fault : (at : Place) → InputFault (input_place text) (input_of text) at → at ≡ place
    same_fault at h = let same = only_input (Err at) h in cc

    only_input_fault : (other : Result (List Part × List ℕ) Refusal) → IsTextAnswer text other
        → other ≡ Err (input_at place)
    only_input_fault (Ok (others, found)) h = let bad = only_input (Ok found) h.words in cc
    only_input_fault (Err q) (program p h) = absurd (no_program_fault p h)
    only_input_fault (Err q) (input others at h f) = ap (λ p. Err (input_at p)) (same_fault at f)

    input_fault_once : ExactlyOne (IsTextAnswer text)
    input_fault_once = record {
      answer = Err (input_at place);
      holds = input parts place reads fault;
      only = only_input_fault;
    }

  fit_once : ExactlyOne (IsInputAnswer (input_place text) (input_of text)) → ExactlyOne (IsTextAnswer text)
  fit_once e = grind (arith, job_once, input_fault_once)

  reads_once : ExactlyOne (IsTextAnswer text)
  reads_once = fit_once (one_answer (input_place text) (input_of text))

-- each text comes to one thing alone, since its lexemes, its tree, its rules and its input section do
pub text_once : (text : List ℕ) → ((bytes : List ℕ) → ExactlyOne (IsLexAnswer bytes))
    → ((ls : List Lexeme) (finish : Place) → ExactlyOne (IsTreeAnswer ls finish))
    → ((parts : List Part) (finish : Place) → ExactlyOne (IsRuleAnswer parts finish))
    → ExactlyOne (IsTextAnswer text)
text_once text lexed parsed ruled = let e = program_once (program_of text) (lexed (program_of text)) parsed
    ruled in
    go e.answer e.holds e.only
  where
    go : (found : Result (List Part) Refusal) → IsProgramAnswer (program_of text) found
        → ((other : Result (List Part) Refusal) → IsProgramAnswer (program_of text) other → other ≡ found)
        → ExactlyOne (IsTextAnswer text)
    go (Ok parts) h only = reads_once text parts h only
    go (Err r) h only = refused_once text r h only
