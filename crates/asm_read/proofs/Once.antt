-- The text of an assembly comes to one thing.
use Rattle.std.specs.Prelude.{◌≡◌, ℕ, ◌⊎◌, List, Result, Ok, Err, refl}
use Rattle.std.proofs.Common.{sym, ap, ◌∙◌, subst, inl, inr, arith}
use Rattle.src_ast.specs.declared.lexeme.Place.{Place}
use Rattle.ws_isa.specs.Image.{Image}
use Rattle.ws_isa.specs.Sound.{Sound}
use Rattle.asm_text.specs.Reading.{read}
use Rattle.annot_check.specs.declared.fault.Bad.{Bad}
use Rattle.annot_check.specs.Breach.{BadBreach}
use Rattle.asm_read.specs.declared.assembly.AsmRefusal.{AsmRefusal}
use Rattle.asm_read.specs.declared.assembly.AsmRefusal.TheVariants.{Text, Unsound, Input}
use Rattle.asm_read.specs.Sections.{program_of, input_of, input_place, IsInputAnswer}
use Rattle.asm_read.specs.Assembly.{IsAssembly, RefusesAssembly, assembly, unsound, input, IsAssemblyAnswer}
use Rattle.asm_read.specs.Assembly.{IsUnsound}
use Rattle.asm_read.proofs.Inputs.{one_list, no_fault_in_words, one_fault, one_answer}

-- an image that is refused isn't sound
abbrev pub BreachesBreak : Type 0
BreachesBreak = (image : Image) (bad : Bad) → BadBreach image bad → Sound image → ⊥

module _ (text : List ℕ) where
  same_image : (a b : Image) → read (program_of text) ≡ Ok a → read (program_of text) ≡ Ok b → a ≡ b
  same_image a b e f = let same = sym e ∙ f in cc

  pub one_assembly : (image again : Image) (words more : List ℕ) → IsAssembly text image words
      → IsAssembly text again more → (image ≡ again) × (words ≡ more)
  one_assembly image again words more a b = (
    same_image image again a.reads b.reads,
    one_list (input_place text) (input_of text) words more a.words b.words,
  )

  pub never_both : BreachesBreak → (image : Image) (words : List ℕ) (r : AsmRefusal)
      → IsAssembly text image words → RefusesAssembly text r → ⊥
  never_both breaks image words r a (assembly kind line e) = let bad = sym a.reads ∙ e in cc
  never_both breaks image words r a (unsound other bad e breach) = grind (arith, same_image)
  never_both breaks image words r a (input other place e sound fault) =
      no_fault_in_words (input_place text) (input_of text) words place a.words fault

  pub one_refusal : BreachesBreak → (r s : AsmRefusal) → RefusesAssembly text r → RefusesAssembly text s
      → (r ≡ s) ⊎ (IsUnsound r × IsUnsound s)
  one_refusal breaks r s (assembly kind line e) (assembly other there f) = grind arith
  one_refusal breaks r s (assembly kind line e) (unsound image bad f breach) = grind arith
  one_refusal breaks r s (assembly kind line e) (input image place f sound fault) = grind arith
  one_refusal breaks r s (unsound image bad e breach) (assembly kind line f) = grind arith
  one_refusal breaks r s (unsound image bad e breach) (unsound other worse f more) = inr (tt, tt)
  one_refusal breaks r s (unsound image bad e breach) (input other place f sound fault) =
      absurd (breaks other bad (subst (λ i. BadBreach i bad) (same_image image other e f) breach) sound)
  one_refusal breaks r s (input image place e sound fault) (assembly kind line f) = grind arith
  one_refusal breaks r s (input image place e sound fault) (unsound other bad f breach) =
      absurd (breaks image bad (subst (λ i. BadBreach i bad) (same_image other image f e) breach) sound)
  one_refusal breaks r s (input image place e sound fault) (input other there f again more) =
      inl (ap Input (one_fault (input_place text) (input_of text) place there fault more))

  abbrev Comes : Type 0
  Comes = (answer : Result (Image × List ℕ) AsmRefusal) × IsAssemblyAnswer text answer

  sound_comes : (image : Image) → read (program_of text) ≡ Ok image → Sound image
      → (found : Result (List ℕ) Place) → IsInputAnswer (input_place text) (input_of text) found → Comes
  sound_comes image e sound (Ok words) h = (Ok (image, words), record { reads = e; sound = sound; words = h })
  sound_comes image e sound (Err place) h = (Err (Input place), input image place e sound h)

  image_comes : (image : Image) → read (program_of text) ≡ Ok image → Sound image
      ⊎ ((bad : Bad) × BadBreach image bad) → Comes
  image_comes image e (inl sound) = let found = one_answer (input_place text) (input_of text) in
      sound_comes image e sound found.answer found.holds
  image_comes image e (inr breach) = (Err (Unsound breach.0), unsound image breach.0 e breach.1)

  pub text_comes : ((image : Image) → read (program_of text) ≡ Ok image
      → Sound image ⊎ ((bad : Bad) × BadBreach image bad)) → Comes
  text_comes decided = go (read (program_of text)) refl
    where
      go : (found : _) → read (program_of text) ≡ found → Comes
      go (Ok image) e = image_comes image e (decided image e)
      go (Err fault) e = (Err (Text fault.0 fault.1), assembly fault.0 fault.1 e)
