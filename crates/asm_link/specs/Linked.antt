-- What is made of the text of a draft, and why one is refused.
use Rattle.std.specs.Prelude.{◌≡◌, ◌⊎◌, ℕ, List, Option, Some, None, Ok, Err}
use Rattle.ws_words.specs.Outside.{World}
use Rattle.ws_isa.specs.Image.{Image}
use Rattle.ws_isa.specs.Formed.{Formed}
use Rattle.ws_isa.specs.Sound.{Sound, ShapeRules, SlotRules}
use Rattle.wave_link.specs.Kept.{KeepsBlocks}
use Rattle.wave_link.specs.Passed.{WalksFor}
use Rattle.wave_link.specs.Plain.{noted}
use Rattle.wave_link.specs.Numbered.{NumberedInOrder}
use Rattle.wave_link.specs.Renoted.{NeverLinked}
use Rattle.wave_link.specs.Ripples.{ExactRipples}
use Rattle.wave_link.specs.Triggers.{TriggeredNear}
use Rattle.wave_link.specs.Vain.{NoneInVain}
use Rattle.annot_check.specs.declared.fault.Bad.{Bad}
use Rattle.annot_check.specs.declared.fault.Bad.TheVariants.{Port, Pending, Link, Ripple, Shape}
use Rattle.annot_check.specs.Breaches.{PortBreach, PendingBreach, ShapeBreach}
use Rattle.asm_text.specs.Reading.{read}
use Rattle.asm_link.specs.declared.fault.Unfit.{Unfit as Unfits}
use Rattle.asm_link.specs.declared.fault.Lack.{Lack}
use Rattle.asm_link.specs.declared.fault.Lack.TheVariants.{Unfitting, OutOfMemory}
use Rattle.asm_link.specs.declared.fault.LinkRefusal.{LinkRefusal}
use Rattle.asm_link.specs.declared.fault.LinkRefusal.TheVariants.{Text, Unsound, Unfit}
use Rattle.asm_link.specs.declared.fault.LinkFault.{LinkFault}
use Rattle.asm_link.specs.declared.fault.LinkFault.TheVariants.{Refused, NoMemory}
use Rattle.asm_link.specs.Bare.{bare}
use Rattle.asm_link.specs.Unfit.{lacks}

-- This image is the draft with annotations, and with what they need.
pub record HasNotes (draft made : Image) : Type 0 where
  pub sound : Sound made
  -- the arrays, the blocks with their waves and edges, and the operations but for no-ops that are added
  pub kept : KeepsBlocks draft made
  -- in every world it does what the draft does, ends where that ends, and costs little more
  pub walk : (world : World) → WalksFor draft made world
  -- where the no-ops get their tokens from, and that none is in vain, whatever the annotations
  pub triggers : TriggeredNear draft made
  pub needed : NoneInVain draft made
  pub never_linked : NeverLinked draft made

-- numbers count up in each wave and ripples are as small as they can be; or it is the draft with annotations
-- and nothing else, if something is missing in the other
abbrev pub HowNoted : Image → Image → Type 0
HowNoted draft made = ((lacks draft ≡ None) × NumberedInOrder made × ExactRipples made)
    ⊎ (made ≡ noted draft)

-- it is formed, and is the draft of this image with new annotations
pub record Linked (image made : Image) : Type 0 where
  pub formed : Formed made
  pub notes : HasNotes (bare image) made
  pub how : HowNoted (bare image) made

-- Its shape and slots are right, and nothing is missing; or no no-op is needed.
pub record CanBeNoted (image : Image) : Type 0 where
  pub shape : ShapeRules image
  pub slots : SlotRules image
  pub fit : (lacks (bare image) ≡ None) ⊎ Sound (noted (bare image))

-- this says what is missing in a draft
abbrev pub TellsLack : Option Unfits → Lack → Type 0
TellsLack lack (Unfitting found) = lack ≡ Some found
TellsLack lack OutOfMemory = Unit {0}

-- this says it if the draft with annotations and nothing else isn't sound
abbrev pub StillLacks : Image → Unfits → LinkFault → Type 0
StillLacks draft lack (Refused (Unfit found)) = (found ≡ lack) × (Sound (noted draft) → ⊥)
StillLacks draft lack (Refused _) = ⊥
StillLacks draft lack NoMemory = Unit {0}

-- this is made of a text
pub record LinksText (text : List ℕ) (made : Image) : Type 0 where
  pub image : Image
  pub reads : read text ≡ Ok image
  pub can : CanBeNoted image
  pub linked : Linked image made

-- numbers that break a rule on shape or slots; no rule on annotations is asked
abbrev pub BreaksDraft : Image → Bad → Type 0
BreaksDraft image (Port i p) = PortBreach image i p
BreaksDraft image (Pending c d) = PendingBreach image c d
BreaksDraft image (Link j k) = ⊥
BreaksDraft image (Ripple j k) = ⊥
BreaksDraft image (Shape b) = ShapeBreach image b

-- this is why an image is refused
abbrev pub BreaksImage : Image → LinkRefusal → Type 0
BreaksImage image (Text kind line) = ⊥
BreaksImage image (Unsound bad) = BreaksDraft image bad
BreaksImage image (Unfit lack) = ShapeRules image × SlotRules image × (lacks (bare image) ≡ Some lack)
    × (Sound (noted (bare image)) → ⊥)

abbrev pub RefusesImage : Image → LinkFault → Type 0
RefusesImage image (Refused refusal) = BreaksImage image refusal
RefusesImage image NoMemory = Unit {0}

-- this is why a text is refused
abbrev pub Refuses : List ℕ → LinkRefusal → Type 0
Refuses text (Text kind line) = read text ≡ Err (kind, line)
Refuses text (Unsound bad) = (image : Image) × (read text ≡ Ok image) × BreaksDraft image bad
Refuses text (Unfit lack) = (image : Image) × (read text ≡ Ok image) × BreaksImage image (Unfit lack)

abbrev pub RefusesText : List ℕ → LinkFault → Type 0
RefusesText text (Refused refusal) = Refuses text refusal
RefusesText text NoMemory = Unit {0}
