-- Why the text of an assembly is refused.
use Rattle.std.specs.Prelude.{◌≡◌, ℕ, List, Ok, Err}
use Rattle.std.proofs.Common.{subst, sym, ap, ◌∙◌, arith}
use Rattle.ws_isa.specs.Image.{Image}
use Rattle.ws_isa.specs.Sound.{Sound}
use Rattle.asm_text.specs.Reading.{read}
use Rattle.annot_check.specs.declared.fault.Bad.{Bad}
use Rattle.annot_check.specs.declared.fault.CheckFault.{CheckFault}
use Rattle.annot_check.specs.declared.fault.CheckFault.TheVariants as check
use Rattle.annot_check.specs.Breach.{BadBreach, Breach}
use Rattle.asm_read.specs.declared.assembly.AsmRefusal.TheVariants.{Text, Unsound}
use Rattle.asm_read.specs.declared.assembly.AssemblyFault.{AssemblyFault}
use Rattle.asm_read.specs.declared.assembly.AssemblyFault.TheVariants as fault
use Rattle.asm_read.specs.Sections.{program_of, input_of, input_place, IsInputFault, AnswersWords}
use Rattle.src_ast.specs.declared.fault.TextFault.{TextFault}
use Rattle.src_ast.specs.declared.fault.TextFault.TheVariants as text_fault
use Rattle.asm_read.specs.Assembly.{fault_of_input, AnswersAssembly, IsSectionFault, IsAssemblyFault}
use Rattle.asm_read.specs.Assembly.{assembly}
use Rattle.asm_read.specs.Assembly.{unsound, input}

pub bad_of : (image : Image) (f : CheckFault) (bad : Bad) → f ≡ check.Refused bad → Breach image f
    → BadBreach image bad
bad_of image f bad e h = subst (λ x. Breach image x) e h

-- what is wrong with the assembly section is wrong with the text
pub section_fault : (text section : List ℕ) (e : AssemblyFault) → section ≡ program_of text
    → IsSectionFault section e → IsAssemblyFault text e
section_fault text section (fault.Refused (Text kind line)) s h = assembly kind line (ap read (sym s) ∙ h)
section_fault text section (fault.Refused (Unsound bad)) s h = unsound h.0 bad (ap read (sym s) ∙ h.1) h.2
section_fault text section e s h = grind arith

-- so is what is wrong with its input section
pub input_refused : (text : List ℕ) (image : Image) (f : TextFault) (e : AssemblyFault) → e ≡ fault_of_input f
    → read (program_of text) ≡ Ok image → Sound image → IsInputFault (input_place text) (input_of text) f
    → IsAssemblyFault text e
input_refused text image f e is reads s h = subst (λ x. IsAssemblyFault text x) (sym is) (go f h)
  where
    go : (f : TextFault) → IsInputFault (input_place text) (input_of text) f
        → IsAssemblyFault text (fault_of_input f)
    go text_fault.NoMemory h = tt
    go (text_fault.Refused r) h = input image r.place reads s h.1

-- words that are refused are no others
pub no_words : (f : TextFault) (e : AssemblyFault) (image : Image) (ws : List ℕ) → e ≡ fault_of_input f
    → AnswersWords (Err f) ws → AnswersAssembly (Err e) image ws
no_words f e image ws is h = grind arith
