-- The instructions of an image in order.
use Rattle.std.specs.Prelude.{◌≡◌, ℕ, suc, List, [], ◌∷◌, ◌++◌, map}
use Rattle.ws_isa.specs.Image.{Image, Instr, Block}
use Rattle.ws_isa.specs.View as view
use Rattle.df_core.specs.declared.program.PlacedInstr.{PlacedInstr}

abbrev pub place_in_code : PlacedInstr → Instr × ℕ
place_in_code p = (view.instr p.instr.now, p.block)

-- the instructions of blocks, the first of which has this number, with the numbers of their blocks
abbrev pub places : List Block → ℕ → List (Instr × ℕ)
places [] n = []
places (b ∷ bs) n = map (λ i. (i, n)) b.instrs ++ places bs (suc n)

-- these are the instructions of the image, in order
abbrev pub PlacesAre : Image → List PlacedInstr → Type 0
PlacesAre image ps = map place_in_code ps ≡ places image.blocks 1
