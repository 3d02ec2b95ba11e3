-- When an image is formed: its limits, its references, and that its lists and annotations suit its
-- instructions.
use Rattle.std.specs.Prelude.{ℕ, suc, ◌+◌, ◌^◌, ◌≡◌, ◌⊎◌, ◌<◌, ◌≤◌, true, false, List, [], ◌∷◌, length}
use Rattle.std.specs.Prelude.{Option, Some, None}
use Rattle.std.specs.List.{AllByRecursion}
use Rattle.ws_isa.specs.declared.instr.Op.{Op}
use Rattle.ws_isa.specs.declared.instr.Op.TheVariants.{Const, Send, Load, Store, Give, Take, Steer}
use Rattle.ws_isa.specs.declared.instr.Link.{Link}
use Rattle.ws_isa.specs.declared.instr.Link.TheVariants.{Is}
use Rattle.ws_isa.specs.declared.instr.Note.{Note}
use Rattle.ws_isa.specs.declared.instr.Dest.{Dest}
use Rattle.ws_isa.specs.Image.{Instr, Exit, Goto, Branch, Landings, Stop, Pad, Block, Array, Image, flat}
use Rattle.ws_isa.specs.Image.{ports, is_memory_op, is_silent_op, IsBlock, IsInstr}
use Rattle.ws_words.specs.Letters.{is_word}

-- The limits.

unfoldable pub most_instrs : ℕ
most_instrs = 4194304

unfoldable pub most_blocks : ℕ
most_blocks = 131072

unfoldable pub most_waves : ℕ
most_waves = 131072

unfoldable pub most_arrays : ℕ
most_arrays = 256

-- cells of one array, and of all
unfoldable pub most_length : ℕ
most_length = 65536

unfoldable pub most_cells : ℕ
most_cells = 2097152

-- destinations in a list
unfoldable pub most_dests : ℕ
most_dests = 8

-- pads of a block, whose numbers are below this too
unfoldable pub most_pads : ℕ
most_pads = 16

unfoldable pub most_landings : ℕ
most_landings = 2048

-- ports of `Give` and `Take` are from 1 to this
abbrev pub most_port : ℕ
most_port = 7

-- sequence and ripple numbers are below this
abbrev pub sequence_limit : ℕ
sequence_limit = 2 ^ 32

-- words, and so the constants of instructions, are below this
abbrev pub word_limit : ℕ
word_limit = 2 ^ 64

-- bytes in a name
unfoldable pub most_name : ℕ
most_name = 64

-- a name is a word that isn't too long; a hidden array has none
abbrev pub NameFormed : Option (List ℕ) → Type 0
NameFormed None = Unit {0}
NameFormed (Some name) = (is_word name ≡ true) × (length name ≤ most_name)

-- the cells of all arrays
abbrev pub total_length : List Array → ℕ
total_length [] = 0
total_length (a ∷ arrays) = a.length + total_length arrays

-- the arrays keep the limits
pub record ArraysFormed (arrays : List Array) : Type 0 where
  pub few : length arrays ≤ most_arrays
  pub names : AllByRecursion (λ a. NameFormed a.name) arrays
  pub lengths : AllByRecursion (λ a. a.length ≤ most_length) arrays
  pub cells : total_length arrays ≤ most_cells

-- a destination is a port that is there
abbrev pub DestIn : Image → Dest → Type 0
DestIn image d = IsInstr image d.instr × (d.port < ports image d.instr)

abbrev pub DestsIn : Image → List Dest → Type 0
DestsIn image dests = AllByRecursion (DestIn image) dests

-- an array of this number is there
abbrev pub ArrayIn : Image → ℕ → Type 0
ArrayIn image a = (1 ≤ a) × (a ≤ length image.arrays)

-- the array and the port of an operation are there
abbrev pub OpIn : Image → Op → Type 0
OpIn image (Load a) = ArrayIn image a
OpIn image (Store a) = ArrayIn image a
OpIn image (Give p) = (1 ≤ p) × (p ≤ most_port)
OpIn image (Take p) = (1 ≤ p) × (p ≤ most_port)
OpIn image _ = Unit {0}

-- the instruction and the blocks of an exit are there
abbrev pub ExitIn : Image → Exit → Type 0
ExitIn image (Goto b) = IsBlock image b
ExitIn image (Branch s b c) = IsInstr image s × IsBlock image b × IsBlock image c
ExitIn image (Landings s ls) = IsInstr image s × AllByRecursion (IsBlock image) ls
ExitIn image Stop = Unit {0}

-- destinations, arrays, instructions and blocks that are named are there, and ports of `Give` and
-- `Take` are among the seven
pub record References (image : Image) : Type 0 where
  pub dests : AllByRecursion (λ i. DestsIn image i.dests) (flat image.blocks)
  pub others : AllByRecursion (λ i. DestsIn image i.others) (flat image.blocks)
  pub ops : AllByRecursion (λ i. OpIn image i.op) (flat image.blocks)
  pub pads : AllByRecursion (λ b. AllByRecursion (λ p. DestsIn image p.dests) b.pads) image.blocks
  pub exits : AllByRecursion (λ b. ExitIn image b.exit) image.blocks

-- an instruction without a result and a send have no list, and a steer alone has two
abbrev pub DestsSuit : Op → List Dest → Type 0
DestsSuit (Send k) dests = dests ≡ []
DestsSuit op dests = is_silent_op op ≡ true → dests ≡ []

abbrev pub OthersSuit : Op → List Dest → Type 0
OthersSuit Steer others = Unit {0}
OthersSuit op others = others ≡ []

-- the lists of destinations suit the instructions
pub record ListsSuit (image : Image) : Type 0 where
  pub dests : AllByRecursion (λ i. DestsSuit i.op i.dests) (flat image.blocks)
  pub others : AllByRecursion (λ i. OthersSuit i.op i.others) (flat image.blocks)

abbrev pub SomeLanding : Exit → Type 0
SomeLanding (Landings s ls) = 1 ≤ length ls
SomeLanding _ = Unit {0}

-- each send exit has a landing
abbrev pub SendsLand : Image → Type 0
SendsLand image = AllByRecursion (λ b. SomeLanding b.exit) image.blocks

-- each block lies in the wave of the block before it, which is this, or in the next one
abbrev pub WavesFrom : ℕ → List Block → Type 0
WavesFrom w [] = Unit {0}
WavesFrom w (b ∷ blocks) = ((b.wave ≡ w) ⊎ (b.wave ≡ suc w)) × WavesFrom b.wave blocks

-- there is a block; the first lies in wave 1
abbrev pub WavesInOrder : List Block → Type 0
WavesInOrder [] = ⊥
WavesInOrder (b ∷ blocks) = (b.wave ≡ 1) × WavesFrom 1 blocks

-- the numbers of pads rise
abbrev pub RiseFrom : ℕ → List Pad → Type 0
RiseFrom n [] = Unit {0}
RiseFrom n (p ∷ pads) = (n < p.number) × RiseFrom p.number pads

abbrev pub PadsRise : List Pad → Type 0
PadsRise [] = Unit {0}
PadsRise (p ∷ pads) = RiseFrom p.number pads

-- exactly the memory instructions have an annotation
abbrev pub NoteSuits : Op → Option Note → Type 0
NoteSuits op None = is_memory_op op ≡ false
NoteSuits op (Some note) = is_memory_op op ≡ true

-- the numbers of an annotation
abbrev pub LinkWithin : Link → Type 0
LinkWithin (Is n) = n < sequence_limit
LinkWithin _ = Unit {0}

abbrev pub NoteWithin : Option Note → Type 0
NoteWithin None = Unit {0}
NoteWithin (Some note) = LinkWithin note.pred × (note.seq < sequence_limit)
    × LinkWithin note.succ × (note.ripple < sequence_limit)

-- a constant is a word
abbrev pub ConstWithin : Op → Type 0
ConstWithin (Const k) = k < word_limit
ConstWithin _ = Unit {0}

-- the number of a send's pad
abbrev pub SendWithin : Op → Type 0
SendWithin (Send k) = k < most_pads
SendWithin _ = Unit {0}

abbrev pub ExitWithin : Exit → Type 0
ExitWithin (Landings s ls) = length ls ≤ most_landings
ExitWithin _ = Unit {0}

-- an instruction keeps the limits
pub record InstrWithin (i : Instr) : Type 0 where
  pub dests : length i.dests ≤ most_dests
  pub others : length i.others ≤ most_dests
  pub const : ConstWithin i.op
  pub send : SendWithin i.op
  pub note : NoteWithin i.note

-- a block keeps the limits
pub record BlockWithin (b : Block) : Type 0 where
  pub wave : b.wave ≤ most_waves
  pub pads : AllByRecursion (λ p. (p.number < most_pads) × (length p.dests ≤ most_dests)) b.pads
  pub exit : ExitWithin b.exit

-- what a draft keeps too, limits aside
pub record Suited (image : Image) : Type 0 where
  pub references : References image
  pub lists : ListsSuit image
  pub landings : SendsLand image

-- an image that is within the limits, whose references are there, whose lists and annotations suit
-- its instructions, whose pads rise, and whose blocks stand wave after wave
pub record Formed (image : Image) : Type 0 where
  pub arrays : ArraysFormed image.arrays
  pub few_instrs : length (flat image.blocks) ≤ most_instrs
  pub few_blocks : length image.blocks ≤ most_blocks
  pub instrs : AllByRecursion InstrWithin (flat image.blocks)
  pub blocks : AllByRecursion BlockWithin image.blocks
  pub suited : Suited image
  pub waves : WavesInOrder image.blocks
  pub pads : AllByRecursion (λ b. PadsRise b.pads) image.blocks
  pub notes : AllByRecursion (λ i. NoteSuits i.op i.note) (flat image.blocks)

-- no instruction has an annotation, as in a draft
abbrev pub NoNotes : Image → Type 0
NoNotes image = AllByRecursion (λ i. i.note ≡ None) (flat image.blocks)
