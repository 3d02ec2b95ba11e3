-- Small images, for tests and worked walks.
use Rattle.std.specs.Prelude.{ℕ, List, [], ◌∷◌, Option, Some, None}
use Rattle.ws_isa.specs.declared.instr.Op.{Op}
use Rattle.ws_isa.specs.declared.instr.Op.TheVariants.{Const, Merge, Advance, Steer, Load, Store, Input}
use Rattle.ws_isa.specs.declared.instr.Op.TheVariants.{Output, Nop, Halt}
use Rattle.ws_isa.specs.declared.instr.Link.{Link}
use Rattle.ws_isa.specs.declared.instr.Link.TheVariants.{Unknown, Nothing, Is}
use Rattle.ws_isa.specs.declared.instr.Note.{Note}
use Rattle.ws_isa.specs.declared.instr.Dest.{Dest}
use Rattle.ws_isa.specs.Image.{Instr, Exit, Goto, Branch, Stop, Pad, Block, Image}

abbrev pub dest : ℕ → ℕ → Dest
dest i p = record { instr = i; port = p }

abbrev pub instr : Op → Option Note → List Dest → List Dest → Instr
instr op note dests others = record { op = op; note = note; dests = dests; others = others }

abbrev pub plain : Op → List Dest → Instr
plain op dests = instr op None dests []

abbrev pub steer : List Dest → List Dest → Instr
steer dests others = instr Steer None dests others

abbrev pub note : Link → ℕ → Link → ℕ → Option Note
note pred seq succ ripple =
    Some (record { pred = pred; seq = seq; succ = succ; ripple = ripple })

abbrev pub noted : Op → Link → ℕ → Link → ℕ → List Dest → Instr
noted op pred seq succ ripple dests = instr op (note pred seq succ ripple) dests []

-- pad 0
abbrev pub pulse : List Dest → List Pad
pulse dests = record { number = 0; dests = dests } ∷ []

abbrev pub block : ℕ → List Pad → List Instr → Exit → Block
block wave pads instrs exit =
    record { wave = wave; pads = pads; instrs = instrs; exit = exit }

-- prints 7
abbrev pub image_a : Image
image_a = record {
  arrays = [];
  blocks = block 1 (pulse (dest 1 0 ∷ [])) (
      plain Advance (dest 2 0 ∷ dest 4 0 ∷ [])
      ∷ plain (Const 7) (dest 3 0 ∷ [])
      ∷ noted Output Nothing 1 (Is 2) 1 []
      ∷ noted Halt (Is 1) 2 Nothing 2 []
      ∷ []) Stop ∷ [];
}

-- the last block of the next image: it prints two cells
abbrev pub last_b : ℕ → List Instr
last_b index =
    plain Merge (dest 9 0 ∷ dest 10 0 ∷ dest 15 0 ∷ [])
    ∷ plain (Const 0) (dest 11 0 ∷ [])
    ∷ plain (Const index) (dest 12 0 ∷ [])
    ∷ noted (Load 1) Unknown 4 (Is 5) 2 (dest 13 0 ∷ [])
    ∷ noted (Load 1) (Is 4) 5 (Is 6) 2 (dest 14 0 ∷ [])
    ∷ noted Output (Is 5) 6 (Is 7) 6 []
    ∷ noted Output (Is 6) 7 (Is 8) 7 []
    ∷ noted Halt (Is 7) 8 Nothing 8 []
    ∷ []

-- reads a word, stores 5 into cell 0 if the word isn't 0, and prints cell 0 and the cell at this
-- index
abbrev pub image_b_at : ℕ → Image
image_b_at index = record {
  arrays = record { name = Some (97 ∷ []); length = 2 } ∷ [];
  blocks =
      block 1 (pulse (dest 1 0 ∷ [])) (
      plain Advance (dest 2 0 ∷ dest 3 0 ∷ [])
      ∷ noted Input Nothing 1 Unknown 1 (dest 3 1 ∷ [])
      ∷ steer (dest 4 0 ∷ dest 5 0 ∷ dest 8 0 ∷ []) (dest 7 0 ∷ dest 8 0 ∷ [])
      ∷ []) (Branch 2 2 3)
      ∷ block 1 [] (
      plain (Const 0) (dest 6 0 ∷ [])
      ∷ plain (Const 5) (dest 6 1 ∷ [])
      ∷ noted (Store 1) (Is 1) 2 (Is 4) 2 []
      ∷ []) (Goto 4)
      ∷ block 1 [] (
      noted Nop (Is 1) 3 (Is 4) 1 []
      ∷ []) (Goto 4)
      ∷ block 1 [] (last_b index) Stop
      ∷ [];
}

-- cells 0 and 1
abbrev pub image_b : Image
image_b = image_b_at 1

-- a draft that goes on for ever and fires nothing: its block is empty, and leads to itself
abbrev pub idle : Image
idle = record { arrays = []; blocks = block 1 (pulse []) [] (Goto 1) ∷ [] }
