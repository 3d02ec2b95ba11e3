-- What the text of an assembly says, and why it is refused.
use Rattle.std.specs.Prelude.{◌≡◌, ℕ, List, Result, Ok, Err}
use Rattle.src_ast.specs.declared.lexeme.Place.{Place}
use Rattle.src_ast.specs.declared.fault.TextFault as text_fault
use Rattle.src_ast.specs.declared.fault.TextFault.TheVariants as TextFault
use Rattle.ws_isa.specs.Image.{Image}
use Rattle.ws_isa.specs.Sound.{Sound}
use Rattle.asm_text.specs.declared.fault.AsmKind.{AsmKind}
use Rattle.asm_text.specs.Reading.{read}
use Rattle.annot_check.specs.declared.fault.Bad.{Bad}
use Rattle.annot_check.specs.Breach.{BadBreach}
use Rattle.asm_read.specs.declared.assembly.AsmRefusal.{AsmRefusal}
use Rattle.asm_read.specs.declared.assembly.AsmRefusal.TheVariants.{Text, Unsound, Input}
use Rattle.asm_read.specs.declared.assembly.AssemblyFault.{AssemblyFault}
use Rattle.asm_read.specs.declared.assembly.AssemblyFault.TheVariants.{Refused, NoMemory}
use Rattle.asm_read.specs.Sections.{program_of, input_of, input_place, InputWords, InputFault}

-- the most bytes of an assembly with its sections
abbrev pub assembly_limit : ℕ
assembly_limit = 134217728

-- the assembly section reads as an image that is sound, and these are the words that it reads
pub record IsAssembly (text : List ℕ) (image : Image) (input : List ℕ) : Type 0 where
  pub reads : read (program_of text) ≡ Ok image
  pub sound : Sound image
  pub words : InputWords (input_place text) (input_of text) input

-- the text is refused so: by the first fault of its assembly, else by numbers that break a rule of
-- sound images, else by its input section
pub data RefusesAssembly (text : List ℕ) : AsmRefusal → Type 0 where
  assembly : (kind : AsmKind) (line : ℕ) → read (program_of text) ≡ Err (kind, line)
      → RefusesAssembly text (Text kind line)
  unsound : (image : Image) (bad : Bad) → read (program_of text) ≡ Ok image
      → BadBreach image bad → RefusesAssembly text (Unsound bad)
  input : (image : Image) (place : Place) → read (program_of text) ≡ Ok image → Sound image
      → InputFault (input_place text) (input_of text) place → RefusesAssembly text (Input place)

-- the result of a text: a sound image and its words, or why it is refused
abbrev pub IsAssemblyAnswer : List ℕ → Result (Image × List ℕ) AsmRefusal → Type 0
IsAssemblyAnswer text (Ok found) = IsAssembly text found.0 found.1
IsAssemblyAnswer text (Err r) = RefusesAssembly text r

-- its image breaks a rule
abbrev pub IsUnsound : AsmRefusal → Type 0
IsUnsound (Text kind line) = ⊥
IsUnsound (Unsound bad) = Unit {0}
IsUnsound (Input place) = ⊥

-- why a text has no answer: memory, or it is refused
abbrev pub IsAssemblyFault : List ℕ → AssemblyFault → Type 0
IsAssemblyFault text NoMemory = Unit {0}
IsAssemblyFault text (Refused r) = RefusesAssembly text r

-- the same for an assembly section alone
abbrev pub IsSectionFault : List ℕ → AssemblyFault → Type 0
IsSectionFault section NoMemory = Unit {0}
IsSectionFault section (Refused (Text kind line)) = read section ≡ Err (kind, line)
IsSectionFault section (Refused (Unsound bad)) =
    (image : Image) × (read section ≡ Ok image) × BadBreach image bad
IsSectionFault section (Refused (Input place)) = ⊥

-- this image and these words are answered, unless memory runs out
abbrev pub AnswersAssembly : Result (Image × List ℕ) AssemblyFault → Image → List ℕ → Type 0
AnswersAssembly (Ok found) image words = (found.0 ≡ image) × (found.1 ≡ words)
AnswersAssembly (Err NoMemory) image words = Unit {0}
AnswersAssembly (Err (Refused r)) image words = ⊥

-- what is wrong with an input section, as the fault of an assembly
abbrev pub fault_of_input : text_fault.TextFault → AssemblyFault
fault_of_input TextFault.NoMemory = NoMemory
fault_of_input (TextFault.Refused r) = Refused (Input r.place)
