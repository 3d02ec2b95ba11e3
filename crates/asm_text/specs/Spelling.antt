-- Which items an image has, in the order of its text, and which line spells each of them: with its
-- numbers, or with names that stand for some of them.
use Rattle.std.specs.Prelude.{◌≡◌, ℕ, ◌+◌, ◌≤◌, ◌==◌, ◌⊎◌, true, false, List, [], ◌∷◌, ◌++◌, length, map}
use Rattle.std.specs.Prelude.{Option, Some, None, if◌then◌else◌}
use Rattle.ws_isa.specs.declared.instr.Dest.{Dest}
use Rattle.ws_isa.specs.Image as plain
use Rattle.ws_isa.specs.Formed.{most_name}
use Rattle.asm_text.specs.declared.line.Label.{Label}
use Rattle.asm_text.specs.declared.line.Label.TheVariants.{At, Named}
use Rattle.asm_text.specs.declared.line.Target.{Target}
use Rattle.asm_text.specs.declared.line.InstrLine.{InstrLine}
use Rattle.asm_text.specs.declared.line.Line.{Line}
use Rattle.asm_text.specs.declared.line.Line.TheVariants as line
use Rattle.asm_text.specs.declared.reading.Reading.{Reading}
use Rattle.asm_text.specs.declared.reading.Reading.TheVariants.{Blank, Wrong, Found}
use Rattle.asm_text.specs.Names.{Names, named}
use Rattle.asm_text.specs.Printed.{keeps_first_limits}
use Rattle.asm_text.specs.Reading.{lines_of, reading}
use Rattle.ws_words.specs.Items.{In}

-- The items of an image. A block and an instruction stand with their number.
pub data Item : Type 0 where
  Version : (n : ℕ) → Item
  Array : (a : plain.Array) → Item
  Wave : (k : ℕ) → Item
  Block : (n : ℕ) → Item
  Pad : (p : plain.Pad) → Item
  Instr : (n : ℕ) (i : plain.Instr) → Item
  Exit : (e : plain.Exit) → Item
  End : Item

abbrev pub instr_items : ℕ → List plain.Instr → List Item
instr_items n [] = []
instr_items n (i ∷ instrs) = Instr n i ∷ instr_items (n + 1) instrs

-- a wave begins where it isn't that of the block before
abbrev pub wave_items : ℕ → ℕ → List Item
wave_items last wave = if last == wave then [] else Wave wave ∷ []

-- the items of a block behind one of a wave, with its number and that of its first instruction
abbrev pub block_items : ℕ → ℕ → ℕ → plain.Block → List Item
block_items last b n x =
    wave_items last x.wave ++ Block b ∷ map Pad x.pads ++ instr_items n x.instrs ++ Exit x.exit ∷ []

abbrev pub blocks_items : ℕ → ℕ → ℕ → List plain.Block → List Item
blocks_items last b n [] = []
blocks_items last b n (x ∷ blocks) =
    block_items last b n x ++ blocks_items x.wave (b + 1) (n + length x.instrs) blocks

abbrev pub items : ℕ → plain.Image → List Item
items version image =
    Version version ∷ map Array image.arrays ++ blocks_items 0 1 1 image.blocks ++ End ∷ []

-- the names of blocks and of instructions
pub record Naming : Type 0 where
  pub blocks : Names
  pub instrs : Names

-- a label is a number, or the name that stands for it
abbrev pub IsFor : Names → Label → ℕ → Type 0
IsFor names (At m) n = m ≡ n
IsFor names (Named w) n = named names w ≡ Some n

-- one by one, and as many
abbrev pub Pairs : {A B : Type 0} → (A → B → Type 0) → List A → List B → Type 0
Pairs R [] [] = Unit {0}
Pairs R (x ∷ xs) (y ∷ ys) = R x y × Pairs R xs ys
Pairs R _ _ = ⊥

abbrev pub TargetIsFor : Names → Target → Dest → Type 0
TargetIsFor names t d = IsFor names t.instr d.instr × (t.port ≡ d.port)

abbrev pub array_line_of : Option (List ℕ) → ℕ → Line
array_line_of None n = line.Hidden n
array_line_of (Some w) n = line.Array w n

abbrev pub SpellsExit : Naming → Line → plain.Exit → Type 0
SpellsExit names l (plain.Goto b) = (to : Label) × (l ≡ line.Go to) × IsFor names.blocks to b
SpellsExit names l (plain.Branch s b c) =
    (test yes no : Label) × (l ≡ line.If test yes no) × IsFor names.instrs test s
    × IsFor names.blocks yes b × IsFor names.blocks no c
SpellsExit names l (plain.Landings s ls) =
    (address : Label) × (to : List Label) × (l ≡ line.Send address to)
    × IsFor names.instrs address s × Pairs (IsFor names.blocks) to ls
SpellsExit names l plain.Stop = l ≡ line.Stop

-- the line spells the item
abbrev pub Spells : Naming → Line → Item → Type 0
Spells names l (Version n) = l ≡ line.Version n
Spells names l (Array a) = l ≡ array_line_of a.name a.length
Spells names l (Wave k) = l ≡ line.Wave k
Spells names l (Block n) = (own : Label) × (l ≡ line.Block own) × IsFor names.blocks own n
Spells names l (Pad p) =
    (to : List Target) × (l ≡ line.Pad p.number to) × Pairs (TargetIsFor names.instrs) to p.dests
Spells names l (Instr n i) =
    (own : Label) × (to others : List Target)
    × (l ≡ line.Instr (record {
      own = own;
      op = i.op;
      note = i.note;
      fits = true;
      dests = to;
      others = others;
    }))
    × IsFor names.instrs own n × Pairs (TargetIsFor names.instrs) to i.dests
    × Pairs (TargetIsFor names.instrs) others i.others
Spells names l (Exit e) = SpellsExit names l e
Spells names l End = l ≡ line.End

-- what a line of a text says before more lines: nothing, or a line without a wide number
abbrev pub Says : Reading → List Line → List Line → Type 0
Says Blank lines more = lines ≡ more
Says (Found l wide) lines more = (wide ≡ false) × (lines ≡ l ∷ more)
Says Wrong lines more = ⊥

-- the lines of a text that aren't blank say these
abbrev pub Say : List (List ℕ) → List Line → Type 0
Say [] lines = lines ≡ []
Say (text ∷ texts) lines = (more : List Line) × Says (reading text) lines more × Say texts more

-- each name of a block is given by the line of a block
abbrev pub GivesBlock : Names → List Line → Type 0
GivesBlock names lines =
    (w : List ℕ) (n : ℕ) → named names w ≡ Some n → In (line.Block (Named w)) lines

-- each name of an instruction is given by the line of an instruction
abbrev pub GivesInstr : Names → List Line → Type 0
GivesInstr names lines =
    (w : List ℕ) (n : ℕ) → named names w ≡ Some n
    → (i : InstrLine) × (i.own ≡ Named w) × In (line.Instr i) lines

-- names aren't longer than they may be
abbrev pub ShortNames : Names → Type 0
ShortNames names = (w : List ℕ) (n : ℕ) → named names w ≡ Some n → length w ≤ most_name

-- The lines of a text spell the items of an image. Version 1 has no names, and limits of its own.
pub record Spelled (text : List ℕ) (image : plain.Image) : Type 0 where
  pub version : ℕ
  pub naming : Naming
  pub lines : List Line
  pub known : (version ≡ 2) ⊎ ((version ≡ 1) × (naming ≡ record { blocks = []; instrs = [] }))
  pub first : version ≡ 1 → keeps_first_limits image ≡ true
  pub said : Say (lines_of text) lines
  pub given_blocks : GivesBlock naming.blocks lines
  pub given_instrs : GivesInstr naming.instrs lines
  pub short_blocks : ShortNames naming.blocks
  pub short_instrs : ShortNames naming.instrs
  pub spelled : Pairs (Spells naming) lines (items version image)
