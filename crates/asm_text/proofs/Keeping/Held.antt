-- What holds of the state and of what is built behind each line, where s is the state behind all
-- lines, which the second pass reads.
use Rattle.std.specs.Prelude.{◌≡◌, ◌⊎◌, ℕ, suc, ◌+◌, ◌<◌, ◌≤◌, true, List, [], ◌∷◌, ◌++◌, length, map, Option}
use Rattle.std.specs.Prelude.{Some, None}
use Rattle.std.specs.List.{AllByRecursion}
use Rattle.ws_isa.specs.declared.instr.Op.{Op}
use Rattle.ws_isa.specs.declared.instr.Op.TheVariants as op
use Rattle.ws_isa.specs.declared.instr.Dest.{Dest}
use Rattle.ws_isa.specs.Image.{Array, Block, Pad, Instr, Exit, Goto, Branch, Landings, Stop, flat, ports_of}
use Rattle.ws_isa.specs.Formed.{most_instrs, most_blocks, most_waves, most_dests, most_pads, most_port}
use Rattle.ws_isa.specs.Formed.{total_length, ArraysFormed, InstrWithin, ExitWithin, SomeLanding, DestsSuit}
use Rattle.ws_isa.specs.Formed.{OthersSuit, NoteSuits, WavesFrom}
use Rattle.asm_text.specs.declared.state.Expected.{Expected}
use Rattle.asm_text.specs.declared.state.Expected.TheVariants as place
use Rattle.asm_text.specs.declared.state.TextState.{TextState}
use Rattle.asm_text.specs.declared.line.Line.{Line}
use Rattle.asm_text.specs.State.{is_above, counted}
use Rattle.asm_text.specs.Building.{Built}
use Rattle.asm_text.proofs.Keeping.HeldNames.{Among, DestFor}

abbrev pub DestsFor : TextState → List Dest → Type 0
DestsFor s ds = AllByRecursion (DestFor s) ds

-- the array and the port of an operation are there
abbrev pub OpFor : TextState → Op → Type 0
OpFor s (op.Load a) = Among s.arrays a
OpFor s (op.Store a) = Among s.arrays a
OpFor s (op.Give p) = Among most_port p
OpFor s (op.Take p) = Among most_port p
OpFor s _ = Unit {0}

-- the instruction and the blocks of an exit are there
abbrev pub ExitFor : TextState → Exit → Type 0
ExitFor s (Goto b) = Among s.blocks b
ExitFor s (Branch n b c) = Among (length s.ports) n × Among s.blocks b × Among s.blocks c
ExitFor s (Landings n ls) = Among (length s.ports) n × AllByRecursion (Among s.blocks) ls
ExitFor s Stop = Unit {0}

pub record ExitHeld (s : TextState) (e : Exit) : Type 0 where
  pub there : ExitFor s e
  pub few : ExitWithin e
  pub landing : SomeLanding e

pub record InstrHeld (s : TextState) (i : Instr) : Type 0 where
  pub within : InstrWithin i
  pub op : OpFor s i.op
  pub dests : DestsFor s i.dests
  pub others : DestsFor s i.others
  pub dests_suit : DestsSuit i.op i.dests
  pub others_suit : OthersSuit i.op i.others
  pub note : NoteSuits i.op i.note

pub record PadHeld (s : TextState) (p : Pad) : Type 0 where
  pub number : p.number < most_pads
  pub few : length p.dests ≤ most_dests
  pub dests : DestsFor s p.dests

-- the numbers of pads rise, from above the one before them
abbrev pub Rises : Option ℕ → List Pad → Type 0
Rises o [] = Unit {0}
Rises o (p ∷ pads) = (is_above o p.number ≡ true) × Rises (Some p.number) pads

abbrev pub last_pad : Option ℕ → List Pad → Option ℕ
last_pad o [] = o
last_pad o (p ∷ pads) = last_pad (Some p.number) pads

pub record PadsHeld (s : TextState) (pads : List Pad) : Type 0 where
  pub all : AllByRecursion (PadHeld s) pads
  pub rise : Rises None pads

pub record BlockHeld (s : TextState) (b : Block) : Type 0 where
  pub wave : (1 ≤ b.wave) × (b.wave ≤ most_waves)
  pub pads : PadsHeld s b.pads
  pub exit : ExitHeld s b.exit

-- the wave of the last block, or this where there is none
abbrev pub last_wave : ℕ → List Block → ℕ
last_wave w [] = w
last_wave w (b ∷ blocks) = last_wave b.wave blocks

pub record BlocksHeld (s : TextState) (blocks : List Block) : Type 0 where
  pub all : AllByRecursion (BlockHeld s) blocks
  pub order : WavesFrom 0 blocks

-- the state has the counts of arrays and cells
pub record ArraysHeld (count cells : ℕ) (arrays : List Array) : Type 0 where
  pub many : count ≡ length arrays
  pub total : cells ≡ total_length arrays
  pub formed : ArraysFormed arrays

-- the state has the ports of the instructions
pub record InstrsHeld (s : TextState) (ports : List ℕ) (instrs : List Instr) : Type 0 where
  pub same : ports ≡ map (λ i. ports_of i.op) instrs
  pub few : length ports ≤ most_instrs
  pub all : AllByRecursion (InstrHeld s) instrs

-- no block is begun
abbrev pub Shut : TextState → Built → Type 0
Shut t b = (b.pads ≡ []) × (b.instrs ≡ []) × (t.blocks ≡ length b.blocks)

-- behind an exit
abbrev pub Exited : TextState → Built → Type 0
Exited t b = Shut t b × (t.waves ≡ last_wave 0 b.blocks) × (1 ≤ t.waves) × (1 ≤ length b.blocks)

-- in a block, which isn't in the list yet
abbrev pub Inside : TextState → Built → Type 0
Inside t b = (t.blocks ≡ length b.blocks + 1) × ((t.waves ≡ last_wave 0 b.blocks) ⊎ (t.waves ≡ suc (last_wave
    0 b.blocks))) × (1 ≤ t.waves) × (t.pad ≡ last_pad None b.pads)

abbrev pub Stands : Expected → TextState → Built → Type 0
Stands place.Start t b = Shut t b × (t.waves ≡ last_wave 0 b.blocks)
Stands place.Arrays t b = Shut t b × (t.waves ≡ last_wave 0 b.blocks)
Stands place.Wave t b = Shut t b × (t.waves ≡ suc (last_wave 0 b.blocks))
Stands place.Pads t b = Inside t b
Stands place.Instrs t b = Inside t b
Stands place.Exited t b = Exited t b
Stands place.Ended t b = Exited t b

-- all instructions so far
abbrev pub so_far : Built → List Instr
so_far b = flat b.blocks ++ b.instrs

pub record Held (s t : TextState) (b : Built) : Type 0 where
  pub arrays : ArraysHeld t.arrays t.cells b.arrays
  pub instrs : InstrsHeld s t.ports (so_far b)
  pub pads : PadsHeld s b.pads
  pub blocks : BlocksHeld s b.blocks
  pub wave : (t.waves ≡ b.wave) × (t.waves ≤ most_waves)
  pub few : t.blocks ≤ most_blocks
  pub stands : Stands t.place t b

-- the state behind a line, at this place
abbrev pub after : TextState → Line → Expected → TextState
after t l p = record (counted t l) { place = p }
