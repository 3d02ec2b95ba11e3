-- What the text of a job says, and why it is refused.
use Rattle.std.specs.Prelude.{◌≡◌, ℕ, List, Result, Ok, Err}
use Rattle.src_ast.specs.declared.lexeme.Place.{Place}
use Rattle.src_ast.specs.declared.lexeme.Lexeme.{Lexeme}
use Rattle.src_ast.specs.declared.fault.Refusal.{Refusal}
use Rattle.src_ast.specs.declared.fault.RefusalKind.TheVariants.{Syntax, Input}
use Rattle.src_ast.specs.declared.fault.TextFault.{TextFault}
use Rattle.src_ast.specs.declared.fault.TextFault.TheVariants.{Refused, NoMemory}
use Rattle.src_ast.specs.Syntax.{Part}
use Rattle.src_ast.specs.View as view
use Rattle.src_check.specs.declared.accepted.Accepted.{Accepted}
use Rattle.src_ast.specs.Lexemes.{Lex, KeepLimits}
use Rattle.src_ast.specs.LexFaults.{LexFault}
use Rattle.src_ast.specs.Grammar.{Tree}
use Rattle.src_ast.specs.Faults.{SyntaxAt}
use Rattle.src_ast.specs.Rules.{rules_of, IsAccepted, IsFirstBroken}
use Rattle.asm_read.specs.Sections.{program_of, input_of, input_place, InputWords, InputFault}

-- the most bytes of a job
abbrev pub job_limit : ℕ
job_limit = 1048576

-- the program section has lexemes within the limits, they have this tree, and it keeps the rules
pub record ReadsAs (section : List ℕ) (parts : List Part) : Type 0 where
  pub ls : List Lexeme
  pub finish : Place
  pub lex : Lex section ls finish
  pub kept : KeepLimits 0 0 ls
  pub tree : Tree ls parts
  pub accepted : IsAccepted parts finish

-- the program section is refused so: by its first fault of lexemes, else of syntax, else of the
-- rules
pub data ProgramFault (section : List ℕ) : Refusal → Type 0 where
  lexemes : (r : Refusal) → LexFault section r → ProgramFault section r
  syntax : (ls : List Lexeme) (finish place : Place) → Lex section ls finish
      → KeepLimits 0 0 ls → SyntaxAt ls finish place
      → ProgramFault section (record { kind = Syntax; place = place })
  rules : (ls : List Lexeme) (finish : Place) (parts : List Part) (r : Refusal)
      → Lex section ls finish → KeepLimits 0 0 ls → Tree ls parts
      → IsFirstBroken (rules_of parts finish) r → ProgramFault section r

-- the text is a program, and the words that it reads
pub record IsJob (text : List ℕ) (parts : List Part) (input : List ℕ) : Type 0 where
  pub reads : ReadsAs (program_of text) parts
  pub words : InputWords (input_place text) (input_of text) input

-- the text is refused so: by the fault of its program, else by its input section
pub data Refuses (text : List ℕ) : Refusal → Type 0 where
  program : (r : Refusal) → ProgramFault (program_of text) r → Refuses text r
  input : (parts : List Part) (place : Place) → ReadsAs (program_of text) parts
      → InputFault (input_place text) (input_of text) place
      → Refuses text (record { kind = Input; place = place })

-- the reading of a text: the program and the words of a job, or why it is refused
abbrev pub IsTextAnswer : List ℕ → Result (List Part × List ℕ) Refusal → Type 0
IsTextAnswer text (Ok job) = IsJob text job.0 job.1
IsTextAnswer text (Err refusal) = Refuses text refusal

-- why a text has no answer: memory, or it is refused
abbrev pub IsRefused : List ℕ → TextFault → Type 0
IsRefused text NoMemory = Unit {0}
IsRefused text (Refused r) = Refuses text r

-- the same for a program section alone
abbrev pub IsProgramFault : List ℕ → TextFault → Type 0
IsProgramFault section NoMemory = Unit {0}
IsProgramFault section (Refused r) = ProgramFault section r

-- an accepted program with this tree is answered, unless memory runs out
abbrev pub AnswersParts : Result Accepted TextFault → List Part → Type 0
AnswersParts (Ok a) parts = view.parts a.program.items.items ≡ parts
AnswersParts (Err NoMemory) parts = Unit {0}
AnswersParts (Err (Refused r)) parts = ⊥
