-- What the code's image says: the same image as plain data.
use Rattle.std.specs.Prelude.{List, map}
use Rattle.ws_isa.specs.Image as plain
use Rattle.ws_isa.specs.declared.instr.Instr.{Instr}
use Rattle.ws_isa.specs.declared.image.Exit.{Exit}
use Rattle.ws_isa.specs.declared.image.Exit.TheVariants.{Goto, Branch, Send, Stop}
use Rattle.ws_isa.specs.declared.image.Pad.{Pad}
use Rattle.ws_isa.specs.declared.image.Block.{Block}
use Rattle.ws_isa.specs.declared.image.ArrayDecl.{ArrayDecl}
use Rattle.ws_isa.specs.declared.image.Image.{Image}
use Rattle.ws_isa.specs.declared.image.Draft.{Draft}

abbrev pub instr : Instr → plain.Instr
instr i = record { op = i.op; note = i.note; dests = i.dests.items; others = i.others.items }

abbrev pub exit : Exit → plain.Exit
exit (Goto b) = plain.Goto b
exit (Branch s b c) = plain.Branch s b c
exit (Send s ls) = plain.Landings s ls.items
exit Stop = plain.Stop

abbrev pub pad : Pad → plain.Pad
pad p = record { number = p.number; dests = p.dests.items }

abbrev pub block : Block → plain.Block
block b = record {
  wave = b.wave;
  pads = map pad b.pads.items;
  instrs = map instr b.instrs.items;
  exit = exit b.exit;
}

abbrev pub array : ArrayDecl → plain.Array
array a = record { name = a.name; length = a.length }

-- the image with these arrays and blocks
abbrev pub parts : List ArrayDecl → List Block → plain.Image
parts arrays blocks = record { arrays = map array arrays; blocks = map block blocks }

abbrev pub image : Image → plain.Image
image i = parts i.arrays.items i.blocks.items

abbrev pub draft : Draft → plain.Image
draft d = parts d.arrays.items d.blocks.items
