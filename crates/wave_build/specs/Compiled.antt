-- What the image of a program does and shows.
use Rattle.std.specs.Prelude.{◌≡◌, ℕ, suc, ◌*◌, true, List, map}
use Rattle.ws_words.specs.Outside.{Act, Outside, World, WorldOfWords}
use Rattle.ws_words.specs.Past.{ActsBegin}
use Rattle.src_ast.specs.Syntax.{Part}
use Rattle.src_ast.specs.Bound.{bound}
use Rattle.src_ast.specs.Meaning.{Passes, Flows}
use Rattle.src_ast.specs.Runs.{acts_in}
use Rattle.ws_isa.specs.Image.{Array, Image}
use Rattle.ws_isa.specs.Formed.{Formed}
use Rattle.ws_isa.specs.Sound.{Sound}
use Rattle.ws_isa.specs.Shown.{shown_arrays, shown_cells}
use Rattle.ws_isa.specs.Walk.{mem, has_ended, CostAtMost}
use Rattle.ws_isa.specs.Open.{OpenToNotes}
use Rattle.cfg_core.specs.Graph.{GraphArray}
use Rattle.cfg_core.specs.Shown.{shown_acts, AllInside}
use Rattle.cfg_build.specs.Keeps as program
use Rattle.wave_gen.specs.NoNop.{HasNoNop}
use Rattle.wave_gen.specs.Words.{array_of}
use Rattle.wave_link.specs.Kept.{KeepsBlocks}
use Rattle.wave_link.specs.Numbered.{NumberedInOrder}
use Rattle.wave_link.specs.Ripples.{ExactRipples}
use Rattle.wave_link.specs.Triggers.{TriggeredNear}
use Rattle.wave_link.specs.Vain.{NoneInVain}
use Rattle.wave_link.specs.Renoted.{NeverLinked}

-- an array of an image as a graph has it, under its name
abbrev pub in_graph : Array → GraphArray
in_graph a = record { name = a.name; length = a.length }

-- what acts on an image's arrays show: all but those on hidden ones, with the shown arrays numbered
-- anew
abbrev pub shown : Image → List Act → List Act
shown image acts = shown_acts (map in_graph image.arrays) acts

-- the image's shown arrays are the program's, with names and lengths, in order of declaration
abbrev pub ShowsArrays : List Part → Image → Type 0
ShowsArrays parts image = shown_arrays image.arrays ≡ map array_of (program.arrays_of parts)

-- what is outside in a walk of an image shows this
pub record ShowsOutside (image : Image) (now o : Outside) : Type 0 where
  pub acts : shown image now.acts ≡ o.acts
  pub cells : shown_cells image.arrays now.cells ≡ o.cells
  pub input : now.input ≡ o.input
  pub left : now.left ≡ o.left

-- The walk of an image is, as far as it shows, the unchecked run of a program.
pub record WalksAsRun (parts : List Part) (image : Image) (world : World) : Type 0 where
  -- one ends where the other does, and leaves the same
  pub ends : (n : ℕ) (o : Outside) → Passes parts world n o →
      (t : ℕ) × (has_ended image world t ≡ true) × ShowsOutside image (mem image world t) o
  pub ends_only : (t : ℕ) → has_ended image world t ≡ true →
      (n : ℕ) × (o : Outside) × Passes parts world n o × ShowsOutside image (mem image world t) o
  -- where it hasn't ended, each does first what the other has done
  pub goes : (n : ℕ) (o : Outside) → Flows parts world n o →
      (t : ℕ) × ActsBegin o.acts (shown image (mem image world t).acts)
  pub goes_only : (t : ℕ) →
      (n : ℕ) × ActsBegin (shown image (mem image world t).acts) (acts_in parts world n)
  -- the walk's cost is bounded exactly where the run ends
  pub endless : ((n : ℕ) → (o : Outside) × Flows parts world n o) →
      (k : ℕ) → CostAtMost image world k → ⊥
  pub bounded : (k : ℕ) → CostAtMost image world k →
      (n : ℕ) × (o : Outside) × Passes parts world n o
  -- no access to a hidden array is ever out of bounds
  pub inside : (t : ℕ) → AllInside (map in_graph image.arrays) (mem image world t).acts

-- in each world of words
abbrev pub DoesAs : List Part → Image → Type 0
DoesAs parts image = (world : World) → WorldOfWords world → WalksAsRun parts image world

-- where the run ends in n turns, the walk costs at most the program's bound for each, and once more
abbrev pub KeepsBound : List Part → Image → Type 0
KeepsBound parts image = (world : World) → WorldOfWords world → (n : ℕ) (o : Outside) →
    Passes parts world n o → CostAtMost image world (bound parts * suc n)

-- There is a draft without annotations and without no-ops of which this is an image: its blocks are
-- kept but for what is added, so that each no-op is an added one; each of these is needed, since no
-- annotations do without it, and gets its token nearby.
pub record HasDraft (image : Image) : Type 0 where
  pub draft : Image
  pub open_to_notes : OpenToNotes draft
  pub no_nop : HasNoNop draft
  pub blocks : KeepsBlocks draft image
  pub needed : NoneInVain draft image
  pub never_linked : NeverLinked draft image
  pub triggers : TriggeredNear draft image

-- an image of a program as the compiler gives it: a machine runs it, it does what the program does
-- within its bound, its annotations are numbered and have exact ripples, and it is a draft of
-- the program with no more than what these want
pub record IsCompiled (parts : List Part) (image : Image) : Type 0 where
  pub formed : Formed image
  pub sound : Sound image
  pub arrays : ShowsArrays parts image
  pub walk : DoesAs parts image
  pub cost : KeepsBound parts image
  pub numbers : NumberedInOrder image
  pub ripples : ExactRipples image
  pub draft : HasDraft image
